-- The places of groups stand within their files.
use Rattle.std.proofs.Common.{◌≡◌, ℕ, ◌≤◌, List, [], length, get_or, ap, subst, ⊎_elim, arith}
use Rattle.std.specs.Prelude.{Contains}
use Rattle.std.proofs.lemmas.Bool.{cases_lt}
use Rattle.std.proofs.lemmas.List.{get_or_past}
use Rattle.cq_base.proofs.Lists.{Contains-nil}
use Rattle.cq_base.specs.declared.group.Group.{Group}
use Rattle.cq_base.specs.declared.group.Place.{Place}
use Rattle.cq_base.specs.declared.norm.Norm.{Norm}
use Rattle.cq_base.specs.declared.token.Token.{Token}
use Rattle.cq_clones.specs.Groups.{file_at, IsGroup, StandsAt}
use Rattle.cq_clones.proofs.GroupLaws.{within_from_standing}
use Rattle.cq_clones.proofs.KeptPlaces.{kept_among}
use Rattle.cq_measures.specs.Measures.{IsInside, IsGroupInside, AreGroupsInside}
use Rattle.cq_answer.specs.Parts.{AreGroupsOf}
use Rattle.cq_answer.specs.declared.part.Part.{Part}
use Rattle.cq_answer.specs.declared.part.Part.TheVariants as part

each_group : (corpus : List (List Norm)) (min : ℕ) (p : Part) (groups : List Group) → AreGroupsOf corpus min p groups → (g : Group) → Contains groups g → IsGroup corpus min g
each_group corpus min part.Whole groups are g c = (are.each g).0 c
each_group corpus min (part.File i) groups are g c = ((are.each g).0 c).0
each_group corpus min (part.Alone i) groups are g c = absurd (Contains-nil g (subst (λ gs. Contains gs g) are c))
each_group corpus min part.Nothing groups are g c = absurd (Contains-nil g (subst (λ gs. Contains gs g) are c))

group_inside : (corpus : List (List Norm)) (spans : List (List Token)) (min : ℕ) → 1 ≤ min → ((i : ℕ) → length (file_at corpus i) ≡ length (get_or spans i [])) → (g : Group) → IsGroup corpus min g → IsGroupInside spans g
group_inside corpus spans min some same g is = (omega (arith, is.long, some), inside)
  where
    inside : (p : Place) → Contains g.places p → IsInside spans g.tokens p
    inside p here =
        let among : Contains is.all p = kept_among g.tokens is.all p (subst (λ ps. Contains ps p) is.places here) in
        let stands : StandsAt corpus is.word p = (is.occurrences.each p).0 among in
        let within = within_from_standing corpus is.word p stands (omega (arith, is.tokens, is.long, some)) in
        let many = same p.file in (
          ⊎_elim (λ h. h) (λ past. let none = ap length (get_or_past spans p.file [] past) in absurd (omega (arith, within, many, none, is.tokens, is.long, some))) (cases_lt p.file (length spans)),
          omega (arith, within, many, is.tokens),
        )

pub groups_inside : (corpus : List (List Norm)) (spans : List (List Token)) (min : ℕ) (p : Part) (groups : List Group) → 1 ≤ min → ((i : ℕ) → length (file_at corpus i) ≡ length (get_or spans i [])) → AreGroupsOf corpus min p groups → AreGroupsInside spans groups
groups_inside corpus spans min p groups some same are g c = group_inside corpus spans min some same g (each_group corpus min p groups are g c)

-- What a listing tells its reader: every match lies in it, and nothing else does.
use Rattle.std.proofs.Common.{◌≡◌, ℕ, ◌<◌, ◌≤◌, List, [], ◌∷◌, length, refl, sym, ap, ◌∙◌, subst, ⊎_elim, arith}
use Rattle.std.specs.Prelude.{Contains}
use Rattle.cq_base.specs.declared.group.Place.{Place}
use Rattle.cq_base.specs.declared.group.Group.{Group}
use Rattle.cq_clones.specs.Groups.{word_at, StandsAt, kept_of, IsGroup}
use Rattle.cq_clones.specs.Readers.{Covers, AreApart, ListsEveryMatch, ShowsItsTokens}
use Rattle.cq_clones.proofs.Decided.{norms_decided}
use Rattle.cq_clones.proofs.GroupLaws.{within_from_standing, word_of_group}
use Rattle.cq_base.proofs.Lists.{Contains-nil, Contains-cases}
use Rattle.cq_clones.proofs.KeptPlaces.{kept_among, kept_reach}
use Rattle.cq_clones.proofs.Occurrences.{occurrences_of}

-- two places of a list that are not the same are two
two_places : (xs : List Place) (p q : Place) → Contains xs p → Contains xs q → (p ≡ q → ⊥) → 2 ≤ length xs
two_places [] p q in_p in_q apart = absurd (Contains-nil p in_p)
two_places (x ∷ []) p q in_p in_q apart =
    ⊎_elim
    (λ e. ⊎_elim (λ f. absurd (apart (sym e ∙ f))) (λ c. absurd (Contains-nil q c)) (Contains-cases x q [] in_q))
    (λ c. absurd (Contains-nil p c))
    (Contains-cases x p [] in_p)
two_places (x ∷ y ∷ rest) p q in_p in_q apart = omega arith

-- what reaches over one of two places that are apart does not reach over the other
not_both : (n : ℕ) (k l p q : Place) → AreApart n p q → Covers n k p → Covers n l q → k ≡ l → ⊥
not_both n k l p q apart over_p over_q e =
    let file : k.file ≡ l.file = ap (λ z. z.file) e in
    let at : k.at ≡ l.at = ap (λ z. z.at) e in
    let same : p.file ≡ q.file = sym over_p.0 ∙ file ∙ over_q.0 in
    ⊎_elim (λ h. omega (arith, at, over_p.1, over_q.1, h)) (λ h. omega (arith, at, over_p.1, over_q.1, h)) (apart same)

pub lists_every_match : ListsEveryMatch
lists_every_match corpus least groups some are word p q maximal long apart =
    let n : ℕ = length word in
    let any : 0 < n = omega arith in
    let (all, is) = occurrences_of norms_decided corpus word any in
    let (k, k_in, over_p) = kept_reach n all p any is.ordered ((is.each p).1 maximal.first) in
    let (l, l_in, over_q) = kept_reach n all q any is.ordered ((is.each q).1 maximal.second) in
    let g : Group = record { tokens = n; places = kept_of n all } in
    let group : IsGroup corpus least g = record {
      word = word;
      all = all;
      tokens = refl;
      long = long;
      repeated = (p, q, maximal);
      occurrences = is;
      places = refl;
      several = two_places (kept_of n all) k l k_in l_in (not_both n k l p q apart over_p over_q);
    } in
    (g, (are.each g).1 group, word_of_group corpus least g group, (k, k_in, over_p), (l, l_in, over_q))

pub shows_its_tokens : ShowsItsTokens
shows_its_tokens corpus least groups some are g p listed among =
    let group : IsGroup corpus least g = (are.each g).0 listed in
    let kept : Contains (kept_of g.tokens group.all) p = subst (λ ps. Contains ps p) group.places among in
    let stands : StandsAt corpus group.word p = (group.occurrences.each p).0 (kept_among g.tokens group.all p kept) in
    let any : 0 < length group.word = omega (arith, group.tokens, group.long) in
    let within = within_from_standing corpus group.word p stands any in
    (omega (arith, within, group.tokens), ap (word_at corpus p) (sym group.tokens) ∙ stands ∙ sym (word_of_group corpus least g group))

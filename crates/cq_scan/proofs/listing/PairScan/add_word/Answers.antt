use Rattle.std.proofs.Common.{◌≡◌, List, arith, length, refl, ap, ◌∙◌, sym, subst}
use Rattle.std.proofs.lemmas.Result.{on_ok_weaker}
use Rattle.cq_base.specs.declared.group.Place.{Place}
use Rattle.cq_base.specs.declared.group.Group.{Group}
use Rattle.cq_clones.specs.Groups.{kept_of, IsGroup}
use Rattle.cq_clones.proofs.GroupLaws.{groups_of_first_place}
use Rattle.std.specs.Prelude.{Any, Contains}
use Rattle.cq_scan.specs.Found.{IsPair, IsOfWord}
use Rattle.cq_tokens.specs.Parts.{tokens_in}
use Rattle.cq_scan.proofs.FoundGroups.{made_is, pair_places, pair_is, adds_none, adds_made, adds_known, first_is_place}
use Rattle.cq_scan.proofs.listing.PairScan.add_word.Goals as goal

pub is_known-requires-clause-groups : goal.is_known-requires-clause-groups
is_known-requires-clause-groups g c = λ z among.
    first_is_place (tokens_in c.args.self.now.files.now) c.args.self.now.min z c.requires.some
    (c.requires.found.each z (subst (λ gs. Contains gs z) c.deref.ensures.value among))

pub returns-then-is_known : goal.returns-then-is_known
returns-then-is_known g c =
    let corpus = tokens_in c.args.self.now.files.now in
    adds_known corpus c.args.self.now.min c.args.p c.args.q c.args.tokens c.args.groups.now.items c.requires.maximal c.requires.found
    (subst (Any (IsOfWord corpus c.args.p c.args.tokens)) c.deref.ensures.value (c.is_known.ensures.0 c.if-is_known.true))

pub returns-then-len-lt2 : goal.returns-then-len-lt2
returns-then-len-lt2 g c =
    let corpus = tokens_in c.args.self.now.files.now in
    let n = c.args.tokens in
    adds_none corpus c.args.self.now.min (IsPair c.args.p c.args.q) c.args.groups.now.items c.requires.found.ordered
    (λ z f.
    let h = pair_is corpus c.args.self.now.min c.args.p c.args.q z f in
    let e = pair_places corpus c.args.self.now.min c.args.p c.args.q n c.in_ok-all.all.items z c.requires.within c.requires.maximal c.in_ok-all.ensures h in
    let k : c.in_ok-places.places.items ≡ kept_of n c.in_ok-all.all.items = c.in_ok-places.ensures ∙ ap (kept_of n) c.deref-2.ensures.value in
    omega (arith, ap length e, ap length k, h.is.several, c.in_ok-places.places.ok.0))

pub add_once-requires-clause-ties : goal.add_once-requires-clause-ties
add_once-requires-clause-ties g c =
    let corpus = tokens_in c.args.self.now.files.now in
    let n = c.args.tokens in
    let k : c.in_ok-places.places.items ≡ kept_of n c.in_ok-all.all.items = c.in_ok-places.ensures ∙ ap (kept_of n) c.deref-2.ensures.value in
    let is = made_is corpus c.args.self.now.min c.args.p c.args.q n c.in_ok-all.all.items c.requires.within c.requires.long c.requires.maximal c.in_ok-all.ensures (omega (arith, ap length k, c.in_ok-places.places.ok.0)) in
    let places : c.from_vec-places.result ≡ kept_of n c.in_ok-all.all.items = c.from_vec-places.ensures ∙ k in
    let made : IsGroup corpus c.args.self.now.min (record { tokens = n; places = c.from_vec-places.result }) =
    subst (λ (ps : List Place). IsGroup corpus c.args.self.now.min (record { tokens = n; places = ps })) (sym places) is.is in
    λ z here tied. groups_of_first_place corpus c.args.self.now.min z _ (c.requires.found.each z here) made tied.0 tied.1

pub returns : goal.returns
returns g c =
    let corpus = tokens_in c.args.self.now.files.now in
    let n = c.args.tokens in
    let k : c.in_ok-places.places.items ≡ kept_of n c.in_ok-all.all.items = c.in_ok-places.ensures ∙ ap (kept_of n) c.deref-2.ensures.value in
    let made : Group = record { tokens = n; places = c.from_vec-places.result } in
    on_ok_weaker c.add_once.result
    (λ is. adds_made corpus c.args.self.now.min c.args.p c.args.q n c.in_ok-all.all.items c.args.groups.now.items c.add_once.new.groups.items made c.requires.within c.requires.long c.requires.maximal c.in_ok-all.ensures (omega (arith, ap length k, c.in_ok-places.places.ok.0)) refl (c.from_vec-places.ensures ∙ k) is)
    c.add_once.ensures

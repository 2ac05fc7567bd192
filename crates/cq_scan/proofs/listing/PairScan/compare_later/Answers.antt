use Rattle.std.proofs.Common.{◌≡◌, ℕ, List, ◌+◌, get_or, take, sym, subst, inl, inr, ⊎_elim, arith}
use Rattle.std.specs.Prelude.{Contains}
use Rattle.cq_base.specs.declared.group.Place.{Place}
use Rattle.cq_base.proofs.Lists.{same_default}
use Rattle.cq_clones.specs.Groups.{IsBefore}
use Rattle.cq_clones.proofs.InOrder.{take_more_cases, take_more_left, take_more_here}
use Rattle.cq_tokens.specs.Parts.{tokens_in}
use Rattle.cq_scan.specs.Found.{IsPair}
use Rattle.cq_scan.proofs.Places.{later_place, none_later, met_all}
use Rattle.cq_scan.proofs.FoundGroups.{adds_none, adds_more, adds_same, found_more}
use Rattle.cq_scan.proofs.listing.PairScan.compare_later.Goals as goal

abbrev origin : Place
origin = record { file = 0; at = 0 }

-- a place with the later ones among the first `j`
abbrev Met : List Place → Place → ℕ → Place → Place → Type 0
Met places p j a b = (a ≡ p) × Contains (take j places) b × IsBefore p b

pub loop-j-init : goal.loop-j-init
loop-j-init g c =
    let places = c.args.self.now.places.now in
    let p = c.args.p in
    adds_none (tokens_in c.args.self.now.files.now) c.args.self.now.min (Met places p (c.args.i + 1)) c.args.groups.now.items c.requires.found.ordered
    (λ z f. none_later places c.args.i p f.q c.requires.within c.requires.place c.requires.places.ordered f.pair.1 f.pair.2)

pub compare-requires-clause-found : goal.compare-requires-clause-found
compare-requires-clause-found g c =
    found_more (tokens_in c.args.self.now.files.now) c.args.self.now.min (Met c.args.self.now.places.now c.args.p c.loop-j.j) _ _ c.requires.found c.loop-j.invariant

pub compare-requires-clause-p_in : goal.compare-requires-clause-p_in
compare-requires-clause-p_in g c = (c.requires.places.each c.args.p).0 (c.args.i, c.requires.within, sym c.requires.place)

pub compare-requires-clause-q_in : goal.compare-requires-clause-q_in
compare-requires-clause-q_in g c =
    let places = c.args.self.now.places.now in
    (c.requires.places.each (get_or places c.loop-j.j origin)).0 (c.loop-j.j, c.loop-j-test.true, same_default places c.loop-j.j origin c.loop-j-test.true)

pub loop-j-preserved : goal.loop-j-preserved
loop-j-preserved g c =
    let places = c.args.self.now.places.now in
    let p = c.args.p in
    let j = c.loop-j.j in
    let q : Place = get_or places j origin in
    let read = sym (same_default places j origin c.loop-j-test.true) in
    let later : IsBefore p q = later_place places c.args.i j p q (omega (arith, c.loop-j.auto.j)) c.loop-j-test.true c.requires.place read c.requires.places.ordered in
    adds_more (tokens_in c.args.self.now.files.now) c.args.self.now.min (Met places p j) (IsPair p q) (Met places p (j + 1)) _ _ _
    (λ a b h. ⊎_elim (λ met. inl (h.0, met, h.2)) (λ e. inr (h.0, sym e)) (take_more_cases places j q b c.loop-j-test.true read h.1))
    (λ a b h. (h.0, take_more_left places j q b c.loop-j-test.true read h.1, h.2))
    (λ a b h. (h.0, subst (Contains (take (j + 1) places)) (sym h.1) (take_more_here places j q c.loop-j-test.true read), subst (IsBefore p) (sym h.1) later))
    c.loop-j.invariant c.in_ok-compare.ensures

pub returns : goal.returns
returns g c =
    let places = c.args.self.now.places.now in
    let p = c.args.p in
    adds_same (tokens_in c.args.self.now.files.now) c.args.self.now.min (Met places p c.loop-j.j) (λ a b. (a ≡ p) × IsBefore p b) _ _ c.requires.some
    (λ a b h. (h.0, h.2))
    (λ a b a_in b_in h. (h.0, met_all places c.loop-j.j b (omega (arith, c.loop-j-test.false)) ((c.requires.places.each b).1 b_in), h.1))
    c.loop-j.invariant

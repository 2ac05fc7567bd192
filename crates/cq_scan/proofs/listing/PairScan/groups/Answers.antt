use Rattle.std.proofs.Common.{◌≡◌, ℕ, ◌+◌, List, get_or, take, sym, subst, inl, inr, ⊎_elim, arith}
use Rattle.std.specs.Prelude.{Contains}
use Rattle.std.proofs.lemmas.Result.{IfOk-weaker}
use Rattle.cq_base.specs.declared.group.Place.{Place}
use Rattle.cq_base.proofs.Lists.{Contains-nil, same_default}
use Rattle.cq_clones.specs.Groups.{IsBefore}
use Rattle.cq_clones.proofs.InOrder.{take_more_cases, take_more_left, take_more_here}
use Rattle.cq_tokens.specs.Parts.{tokens_in}
use Rattle.cq_scan.proofs.Places.{met_all}
use Rattle.cq_scan.proofs.FoundGroups.{adds_none, adds_more, adds_same, found_more, found_none, groups_all, groups_ordered}
use Rattle.cq_scan.proofs.listing.PairScan.groups.Goals as goal

abbrev origin : Place
origin = record { file = 0; at = 0 }

-- the first `i` places, each with the later ones
abbrev Met : List Place → ℕ → Place → Place → Type 0
Met places i a b = Contains (take i places) a × IsBefore a b

pub loop-i-init : goal.loop-i-init
loop-i-init g c =
    let corpus = tokens_in c.args.self.now.files.now in
    let none = found_none corpus c.args.self.now.min c.new-groups.result.items c.new-groups.ensures.items in
    adds_none corpus c.args.self.now.min (Met c.args.self.now.places.now 0) c.new-groups.result.items none.ordered
    (λ z f. Contains-nil f.p f.pair.0)

pub compare_later-requires-clause-found : goal.compare_later-requires-clause-found
compare_later-requires-clause-found g c =
    let corpus = tokens_in c.args.self.now.files.now in
    found_more corpus c.args.self.now.min (Met c.args.self.now.places.now c.loop-i.i) _ _
    (found_none corpus c.args.self.now.min c.new-groups.result.items c.new-groups.ensures.items) c.loop-i.invariant

pub compare_later-requires-clause-place : goal.compare_later-requires-clause-place
compare_later-requires-clause-place g c = sym (same_default c.args.self.now.places.now c.loop-i.i origin c.loop-i-test.true)

pub loop-i-preserved : goal.loop-i-preserved
loop-i-preserved g c =
    let places = c.args.self.now.places.now in
    let i = c.loop-i.i in
    let p : Place = get_or places i origin in
    let read = sym (same_default places i origin c.loop-i-test.true) in
    adds_more (tokens_in c.args.self.now.files.now) c.args.self.now.min (Met places i) (λ a b. (a ≡ p) × IsBefore p b) (Met places (i + 1)) _ _ _
    (λ a b h. ⊎_elim
    (λ met. inl (met, h.1))
    (λ e. inr (sym e, subst (λ (z : Place). IsBefore z b) (sym e) h.1))
    (take_more_cases places i p a c.loop-i-test.true read h.0))
    (λ a b h. (take_more_left places i p a c.loop-i-test.true read h.0, h.1))
    (λ a b h. (subst (Contains (take (i + 1) places)) (sym h.0) (take_more_here places i p c.loop-i-test.true read), subst (λ (z : Place). IsBefore z b) (sym h.0) h.1))
    c.loop-i.invariant c.in_ok-compare_later.ensures

pub returns : goal.returns
returns g c =
    let corpus = tokens_in c.args.self.now.files.now in
    let places = c.args.self.now.places.now in
    let all = adds_same corpus c.args.self.now.min (Met places c.loop-i.i) IsBefore _ _ c.requires.some
    (λ a b h. h.1)
    (λ a b a_in b_in h. (met_all places c.loop-i.i a (omega (arith, c.loop-i-test.false)) ((c.requires.places.each a).1 a_in), h))
    c.loop-i.invariant in
    let found = groups_all corpus c.args.self.now.min _ _ c.requires.some c.new-groups.ensures.items all in
    IfOk-weaker c.order.result _ _ (λ sorted is. groups_ordered corpus c.args.self.now.min _ _ found is) c.order.ensures

use Rattle.std.proofs.Common.{◌<◌, ℕ, List, sym, ap, ◌∙◌, subst}
use Rattle.std.specs.Prelude.{AllPairs}
use Rattle.cq_order.specs.Spots.{SpotBefore, IsPositionOf, changes_of}
use Rattle.cq_order.proofs.Pairing.{changes_paired, changes_rise}
use Rattle.cq_order.proofs.spots.Spots.index_of.Goals as goal

pub place_of-requires : goal.place_of-requires
place_of-requires c =
    let cs = c.self.inside.changes.items in
    let fs = c.self.inside.files.items in
    subst (AllPairs (λ (a b : ℕ). a < b)) (sym c.deref.ensures.value)
    (changes_rise cs fs c.self.invariant (subst (AllPairs SpotBefore) (sym c.self.view_is) c.requires))

pub returns : goal.returns
returns c =
    let cs = c.self.inside.changes.items in
    let fs = c.self.inside.files.items in
    subst (λ (xs : List ℕ). IsPositionOf xs c.args.change c.place_of.result)
    (c.deref.ensures.value ∙ sym (changes_paired cs fs c.self.invariant) ∙ ap changes_of c.self.view_is)
    c.place_of.ensures

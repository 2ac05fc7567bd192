use Rattle.std.proofs.Common.{Some, List, sym, ap, ◌∙◌, subst, arith}
use Rattle.std.specs.Prelude.{AllPairs}
use Rattle.cq_order.specs.declared.spots.Spot.{Spot}
use Rattle.cq_order.specs.Spots.{SpotBefore, IsPositionOf, spot_of, changes_of}
use Rattle.cq_order.proofs.Pairing.{index_within, spot_found, spot_absent}
use Rattle.cq_order.proofs.Spotting.{position_of}
use Rattle.cq_order.proofs.spots.spot_of.Goals as goal

pub index-requires : goal.index-requires
index-requires c =
    let inside = index_within c.spots.inside.changes.items c.spots.inside.files.items c.spots.invariant c.args.change c.in-Some.i (subst (λ (ss : List Spot). IsPositionOf (changes_of ss) c.args.change (Some c.in-Some.i)) (sym c.spots.view_is) c.in-Some.ensures) in
    omega (arith, inside, c.spots.invariant, c.spots.inside.files.ok.0)

pub returns-in-Some-clause-spot : goal.returns-in-Some-clause-spot
returns-in-Some-clause-spot c =
    spot_found c.spots.inside.changes.items c.spots.inside.files.items c.spots.invariant c.args.change c.in-Some.i c.index.result.now
    (subst (AllPairs SpotBefore) (sym c.spots.view_is) c.requires.rising)
    (subst (λ (ss : List Spot). IsPositionOf (changes_of ss) c.args.change (Some c.in-Some.i)) (sym c.spots.view_is) c.in-Some.ensures) c.index.ensures
    ∙ ap (λ (ss : List Spot). spot_of ss c.args.change) c.spots.view_is

pub returns-in-Some-clause-position : goal.returns-in-Some-clause-position
returns-in-Some-clause-position c changes are = position_of changes c.args.spots.now c.args.change _ (returns-in-Some-clause-spot c) are

pub returns-in-None-clause-spot : goal.returns-in-None-clause-spot
returns-in-None-clause-spot c = spot_absent c.args.spots.now c.args.change c.in-None.ensures

pub returns-in-None-clause-position : goal.returns-in-None-clause-position
returns-in-None-clause-position c changes are = position_of changes c.args.spots.now c.args.change _ (returns-in-None-clause-spot c) are

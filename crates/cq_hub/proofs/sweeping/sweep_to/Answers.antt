use Rattle.std.proofs.Common.{◌≤◌, arith}
use Rattle.cq_hub.proofs.sweeping.sweep_to.Goals as goal

pub sweep-requires-clause-rising : goal.sweep-requires-clause-rising
sweep-requires-clause-rising g c = c.requires.kept.kept.rising

pub sweep-requires-clause-known : goal.sweep-requires-clause-known
sweep-requires-clause-known g c =
    let old = c.args.shard.now in
    let of = c.requires.kept in
    let low : old.floor ≤ c.args.floor = (let lt = c.if-at-floor.true in let is = c.floor-at.ensures in omega (arith, lt, is)) in
    c.it_knows_what_is_kept.ensures of.settings of.changes old c.args.floor c.args.keep.now low c.requires.applied of.kept of.stands

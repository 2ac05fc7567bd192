use Rattle.cq_shard.proofs.Alike.{halving_first, halving_behind, halving_before, halving_last}
use Rattle.cq_shard.proofs.puts.alike.Goals as goal

pub halves-init : goal.halves-init
halves-init c = halving_first c.args.changes.now c.args.keep.now c.args.gone c.args.from c.requires.from

pub halves-preserved-then-found-wanted : goal.halves-preserved-then-found-wanted
halves-preserved-then-found-wanted c =
    let place = c.between-middle.ensures in
    halving_behind c.args.changes.now c.args.keep.now c.args.gone c.args.from c.halves.low c.halves.high c.between-middle.result c.halves.invariant place.0 place.1 c.requires.front c.if-found-wanted.true

pub halves-preserved : goal.halves-preserved
halves-preserved c =
    let place = c.between-middle.ensures in
    halving_before c.args.changes.now c.args.keep.now c.args.gone c.args.from c.halves.low c.halves.high c.between-middle.result c.halves.invariant place.0 place.1 c.if-found-wanted.false

pub returns : goal.returns
returns c = halving_last c.args.changes.now c.args.keep.now c.args.gone c.args.from c.halves.low c.halves.high c.halves-test.false c.halves.invariant

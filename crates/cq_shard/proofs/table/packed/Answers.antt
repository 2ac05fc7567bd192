use Rattle.std.proofs.Common.{◌+◌, ◌++◌, List, [], length, sym, ap, ap₂, subst, ◌∙◌, refl, arith}
use Rattle.std.specs.List.Sorted.{IsStrictlyIncreasing}
use Rattle.std.proofs.lemmas.List.{take_all}
use Rattle.cq_shard.specs.declared.table.Block.{Block}
use Rattle.cq_shard.specs.Blocks.{IsTableOf, puts_in}
use Rattle.cq_shard.proofs.Blocks.{empty_table, first_rise, next_puts}
use Rattle.cq_shard.proofs.table.packed.Goals as goal

pub loop-block-init : goal.loop-block-init
loop-block-init c = subst (λ (bs : List Block). IsTableOf [] bs) (sym c.new-packed.ensures.items) (record { table = empty_table; are = refl })

pub append-requires-clause-rising : goal.append-requires-clause-rising
append-requires-clause-rising c =
    let blocks = c.args.blocks.now in
    let i = c.loop-block.block-index in
    let b = c.block-item.result in
    subst IsStrictlyIncreasing (sym (ap₂ (λ xs ys. xs ++ ys) c.loop-block.invariant.are c.changes.ensures ∙ next_puts blocks i b c.loop-block-test.true c.block-item.is)) (first_rise blocks (i + 1) c.requires.rising)

pub append-requires-clause-sized : goal.append-requires-clause-sized
append-requires-clause-sized c = let same = ap length c.changes.ensures in let long = c.sizes.ensures in omega (arith, same, long)

pub loop-block-preserved : goal.loop-block-preserved
loop-block-preserved c =
    let blocks = c.args.blocks.now in
    let i = c.loop-block.block-index in
    let b = c.block-item.result in
    record {
      table = c.append.ensures.table;
      are = c.in_ok-append.ensures.appended ∙ ap₂ (λ xs ys. xs ++ ys) c.loop-block.invariant.are c.changes.ensures ∙ next_puts blocks i b c.loop-block-test.true c.block-item.is;
    }

pub returns : goal.returns
returns c =
    let past = c.loop-block-test.false in
    subst (λ (bs : List Block). IsTableOf (puts_in bs) c.loop-block.packed.items) (take_all c.loop-block.block-index c.args.blocks.now (omega (arith, past))) c.loop-block.invariant

use Rattle.std.proofs.Common.{◌++◌, ◌∙◌, List, ℕ, refl, sym, ap, subst}
use Rattle.std.specs.List.Sorted.{IsStrictlyIncreasing}
use Rattle.cq_shard.specs.declared.table.Block.{Block}
use Rattle.cq_shard.specs.Blocks.{IsTableOf, puts_in}
use Rattle.cq_shard.proofs.Blocks.{block_pushed}
use Rattle.cq_shard.proofs.Taking.{rising_behind}
use Rattle.cq_shard.proofs.table.push_block.Goals as goal

pub append-requires-clause-rising : goal.append-requires-clause-rising
append-requires-clause-rising c =
    let changes = c.args.changes.now in
    subst (λ (ns : List ℕ). IsStrictlyIncreasing (ns ++ changes)) (sym c.new-puts.ensures) (rising_behind (puts_in c.args.blocks.now.items) changes c.requires.rising)

pub returns-clause-pushed : goal.returns-clause-pushed
returns-clause-pushed c =
    let blocks = c.args.blocks.now.items in
    let changes = c.args.changes.now in
    subst (λ (bs : List Block). IsTableOf (puts_in blocks ++ changes) bs) (sym c.in_ok-push.ensures.items)
    (block_pushed blocks changes _ c.requires.table c.requires.rising c.requires.some (c.in_ok-append.ensures.appended ∙ ap (λ ns. ns ++ changes) c.new-puts.ensures) refl)

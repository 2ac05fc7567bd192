use Rattle.std.proofs.Common.{ℕ, List, ap}
use Rattle.cq_shard.specs.declared.table.Block.{Block}
use Rattle.cq_shard.proofs.Taking.{rising_front}
use Rattle.cq_shard.proofs.TakingOut.{known_here}
use Rattle.cq_shard.proofs.table.take_out_of.Goals as goal

pub take_out-went-requires-clause-keep : goal.take_out-went-requires-clause-keep
take_out-went-requires-clause-keep c = rising_front c.args.keep.now c.up_to_last-kept.result c.requires.keep

pub take_out-went-requires-clause-known : goal.take_out-went-requires-clause-known
take_out-went-requires-clause-known c = known_here c.args.block.now.puts c.args.keep.now c.up_to_last-kept.result c.requires.some c.requires.known c.up_to_last-kept.ensures.up_to

pub returns-clause-left : goal.returns-clause-left
returns-clause-left c = ap (λ (ns : List ℕ). let b : Block = record { start = c.args.block.now.start; puts = ns } in b) c.take_out-went.ensures.left

pub returns-clause-none : goal.returns-clause-none
returns-clause-none c none = ap (λ (ns : List ℕ). let b : Block = record { start = c.args.block.now.start; puts = ns } in b) (c.take_out-went.ensures.none none)

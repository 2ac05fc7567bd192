use Rattle.std.proofs.Common.{rules}
use Rattle.std.proofs.lemmas.Fn.{filter_same}
use Rattle.cq_shard.specs.Blocks.{has_puts}
use Rattle.cq_shard.proofs.table.drop_empty.Goals as goal

pub returns : goal.returns
returns c = filter_same _ has_puts _ (λ b t g called. search rules) _ _ c.retain.ensures.filtered

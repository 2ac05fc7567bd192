use Rattle.std.proofs.Common.{rules}
use Rattle.std.proofs.lemmas.Fn.{filter_same}
use Rattle.cq_base.specs.declared.entry.Entry.{Entry}
use Rattle.cq_shard.specs.Tables.{is_among}
use Rattle.cq_shard.proofs.table.Table.keep.Goals as goal

pub returns : goal.returns
returns c = filter_same _ (λ (e : Entry). is_among c.args.self.now e.change) _ (λ e b g t. search rules) _ _ c.retain.ensures.filtered

use Rattle.std.proofs.Common.{ap, subst, ◌∙◌}
use Rattle.cq_shard.specs.Tables.{IsUpTo, no_later}
use Rattle.cq_shard.proofs.Leaving.{cut_is}
use Rattle.cq_shard.proofs.puts.Puts.cut.Goals as goal

pub returns : goal.returns
returns c =
    let changes = c.self.inside.changes.items in
    let last = c.args.last in
    let number = c.up_to-number.result in
    c.truncate.ensures.items
    ∙ cut_is changes last number (subst (λ xs. IsUpTo xs last number) c.deref.ensures.value c.up_to-number.ensures)
    ∙ ap (no_later last) c.self.view_is

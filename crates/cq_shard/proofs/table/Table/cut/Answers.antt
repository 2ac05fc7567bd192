use Rattle.std.proofs.Common.{nat_le, ap, subst, sym, ◌∙◌, filter}
use Rattle.cq_shard.specs.Blocks.{IsTable, has_puts, puts_in}
use Rattle.cq_shard.specs.Tables.{no_later}
use Rattle.cq_shard.proofs.Blocks.{puts_left, table_left}
use Rattle.cq_shard.proofs.table.Table.cut.Goals as goal

pub invariant_of-self : goal.invariant_of-self
invariant_of-self c =
    let blocks = c.self.inside.blocks.items in
    subst IsTable (sym (c.drop_empty.ensures ∙ ap (filter has_puts) c.cut_each.ensures)) (table_left (λ n. nat_le n c.args.last) blocks c.self.invariant)

pub returns : goal.returns
returns c =
    let blocks = c.self.inside.blocks.items in
    ap puts_in (c.drop_empty.ensures ∙ ap (filter has_puts) c.cut_each.ensures) ∙ puts_left (λ n. nat_le n c.args.last) blocks ∙ ap (no_later c.args.last) c.self.view_is

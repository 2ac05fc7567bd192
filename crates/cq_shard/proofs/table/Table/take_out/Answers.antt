use Rattle.std.proofs.Common.{ap, subst, sym, ◌∙◌, filter}
use Rattle.cq_shard.specs.Blocks.{IsTable, has_puts, puts_in}
use Rattle.cq_shard.specs.Tables.{AreAmong, stays, staying}
use Rattle.cq_shard.proofs.Blocks.{puts_dropped, puts_left, table_left}
use Rattle.cq_shard.proofs.table.Table.take_out.Goals as goal

pub take_out_each-out-requires-clause-known : goal.take_out_each-out-requires-clause-known
take_out_each-out-requires-clause-known c = subst (AreAmong c.args.keep.now) (sym c.self.view_is) c.requires.known

pub invariant_of-self : goal.invariant_of-self
invariant_of-self c =
    let blocks = c.self.inside.blocks.items in
    subst IsTable (sym (c.drop_empty.ensures ∙ ap (filter has_puts) c.take_out_each-out.ensures.left)) (table_left (λ n. stays c.args.floor c.args.keep.now n) blocks c.self.invariant)

pub returns-clause-left : goal.returns-clause-left
returns-clause-left c =
    let blocks = c.self.inside.blocks.items in
    ap puts_in (c.drop_empty.ensures ∙ ap (filter has_puts) c.take_out_each-out.ensures.left)
    ∙ puts_left (λ n. stays c.args.floor c.args.keep.now n) blocks
    ∙ ap (staying c.args.floor c.args.keep.now) c.self.view_is

pub returns-clause-none : goal.returns-clause-none
returns-clause-none c none =
    let blocks = c.self.inside.blocks.items in
    ap puts_in (c.drop_empty.ensures ∙ ap (filter has_puts) (c.take_out_each-out.ensures.none none)) ∙ puts_dropped blocks ∙ c.self.view_is

use Rattle.std.proofs.Common.{ℕ, List, sym, ap, subst, ◌∙◌, arith}
use Rattle.cq_shard.specs.declared.table.Block.{Block}
use Rattle.cq_shard.specs.Blocks.{IsFirstAfter}
use Rattle.cq_shard.specs.Tables.{is_among}
use Rattle.cq_shard.proofs.Blocks.{has_none, has_there}
use Rattle.cq_shard.proofs.table.Table.has.Goals as goal

pub returns-then-place-eq0 : goal.returns-then-place-eq0
returns-then-place-eq0 c =
    let blocks = c.self.inside.blocks.items in
    let change = c.args.change in
    let place = c.first_after-place.result in
    let first = subst (λ (bs : List Block). IsFirstAfter bs change place) c.deref.ensures.value c.first_after-place.ensures in
    sym (has_none blocks c.self.invariant change place first c.if-place-eq0.true) ∙ ap (λ (ns : List ℕ). is_among ns change) c.self.view_is

pub returns : goal.returns
returns c =
    let blocks = c.self.inside.blocks.items in
    let change = c.args.change in
    let place = c.first_after-place.result in
    let first = subst (λ (bs : List Block). IsFirstAfter bs change place) c.deref.ensures.value c.first_after-place.ensures in
    let other = c.if-place-eq0.false in
    c.has.ensures
    ∙ ap (λ (b : Block). is_among b.puts change) c.index.ensures
    ∙ has_there blocks c.self.invariant change place first c.index.result.now (omega (arith, other))
    ∙ ap (λ (ns : List ℕ). is_among ns change) c.self.view_is

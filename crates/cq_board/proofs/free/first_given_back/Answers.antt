use Rattle.std.proofs.Common.{◌<◌, length, refl, sym, ◌∙◌, arith}
use Rattle.std.specs.BinaryHeap.{heap_items}
use Rattle.cq_board.proofs.Freeing.{top_is_first, top_below, top_behind, top_forgotten}
use Rattle.cq_board.proofs.free.first_given_back.Goals as goal

pub is_free_at-requires : goal.is_free_at-requires
is_free_at-requires g c =
    let a = c.args.changes.now in
    let are = c.loop-given.invariant.0 in
    let x = c.in-Some.given.now in
    let some : 0 < length (heap_items c.loop-given.free.given_back) = omega (arith, c.in-Some.ensures.variant.0 refl, c.loop-given.free.given_back.data.ok.0) in
    top_behind a.slots a.floor c.loop-given.free are x c.in-Some.ensures.lookup some

pub returns-then-is_free_at-clause-first : goal.returns-then-is_free_at-clause-first
returns-then-is_free_at-clause-first g c =
    let a = c.args.changes.now in
    let are = c.loop-given.invariant.0 in
    let x = c.in-Some.given.now in
    let some : 0 < length (heap_items c.loop-given.free.given_back) = omega (arith, c.in-Some.ensures.variant.0 refl, c.loop-given.free.given_back.data.ok.0) in
    let below = top_below a.slots a.floor c.loop-given.free are x c.in-Some.ensures.lookup some in
    top_is_first a.slots a.floor c.loop-given.free are x below (c.in-Some.ensures.greatest are.heap) (sym c.is_free_at.ensures ∙ c.if-is_free_at.true)

pub loop-given-preserved : goal.loop-given-preserved
loop-given-preserved g c =
    let a = c.args.changes.now in
    let are = c.loop-given.invariant.0 in
    let x = c.in-Some.given.now in
    let some : 0 < length (heap_items c.loop-given.free.given_back) = omega (arith, c.in-Some.ensures.variant.0 refl, c.loop-given.free.given_back.data.ok.0) in
    let done = sym c.is_free_at.ensures ∙ c.if-is_free_at.false in (
      top_forgotten a.slots a.floor c.loop-given.free are _ x c.in-Some.ensures.lookup some done refl c.pop.result (c.pop.ensures.variant.1 (c.in-Some.ensures.variant.0 refl)) c.pop.ensures.top c.pop.ensures.permutation c.pop.ensures.heap_order c.pop.ensures.len,
      c.pop.ensures.capacity ∙ c.loop-given.invariant.1,
    )

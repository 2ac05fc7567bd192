use Rattle.std.proofs.Common.{◌≤◌, sym, subst, ⊎_elim, true≢false, ◌≡◌, ◌<◌, ◌∙◌, ◌&&◌, false, not, length, get_or, is_none, refl, ap, arith}
use Rattle.std.proofs.lemmas.List.Sums.{prefix_len_passes}
use Rattle.std.specs.Prelude.{IsSome}
use Rattle.std.specs.BinaryHeap.{heap_items, heap_len}
use Rattle.std.proofs.lemmas.Bool.{cases_lt}
use Rattle.cq_history.specs.State.{no_slot, is_done, is_free}
use Rattle.cq_board.specs.declared.free.FreeChanges.{FreeChanges}
use Rattle.cq_board.proofs.Freeing.{all_behind, top_forgotten, heap_popped, none_left}
use Rattle.cq_board.proofs.free.drop_passed.Goals as goal

pub loop-given-preserved : goal.loop-given-preserved
loop-given-preserved c =
    let inv = c.loop-given.invariant in
    let x = c.in-Some.given.now in
    let some : 0 < length (heap_items c.loop-given.free.given_back) = omega (arith, c.in-Some.ensures.variant.0 refl, c.loop-given.free.given_back.data.ok.0) in
    let now : FreeChanges = record { given_back = c.pop.new.self; untaken = c.loop-given.free.untaken } in
    record {
      free = λ slots low done are.
          let early = c.if-floor-given.false in
          let not_free : is_free (get_or slots x.0 no_slot) ≡ false = ap (λ b. not b && is_none (get_or slots x.0 no_slot).holder) (prefix_len_passes is_done slots x.0 no_slot (omega (arith, early, done))) in
          top_forgotten slots low c.loop-given.free (inv.free slots low done are) now x c.in-Some.ensures.lookup some not_free refl c.pop.result (c.pop.ensures.variant.1 (c.in-Some.ensures.variant.0 refl)) c.pop.ensures.top c.pop.ensures.permutation c.pop.ensures.heap_order c.pop.ensures.len;
      heap = λ is. heap_popped c.loop-given.free now c.pop.result (c.pop.ensures.variant.1 (c.in-Some.ensures.variant.0 refl)) c.pop.ensures.heap_order (inv.heap is);
      untaken = inv.untaken;
      room = c.pop.ensures.capacity ∙ inv.room;
    }

pub returns-then-floor-given-clause-passed : goal.returns-then-floor-given-clause-passed
returns-then-floor-given-clause-passed c is = all_behind c.args.floor c.in-Some.given.now (heap_items c.loop-given.free.given_back) (c.in-Some.ensures.greatest (c.loop-given.invariant.heap is)) c.if-floor-given.true

pub returns-clause-passed : goal.returns-clause-passed
returns-clause-passed c is =
    let none : length (heap_items c.loop-given.free.given_back) ≡ 0 =
    ⊎_elim
    (λ (some : 0 < heap_len c.loop-given.free.given_back). absurd (true≢false (sym (subst IsSome c.in_default.is (c.peek.ensures.variant.1 some)))))
    (λ (few : heap_len c.loop-given.free.given_back ≤ 0). omega (arith, few, c.loop-given.free.given_back.data.ok.0))
    (cases_lt 0 (heap_len c.loop-given.free.given_back))
    in
    none_left c.args.floor (heap_items c.loop-given.free.given_back) none

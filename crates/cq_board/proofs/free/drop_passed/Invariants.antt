use Rattle.std.proofs.Common.{◌≡◌, ℕ, ◌≤◌, List}
use Rattle.std.specs.List.{prefix_len}
use Rattle.std.specs.BinaryHeap.{IsHeap, heap_items, heap_len}
use Rattle.cq_history.specs.State.{Slot, is_done}
use Rattle.cq_board.specs.Free.{AreFree, least_first, room_of}
use Rattle.cq_board.proofs.free.drop_passed.Given as goal

abbrev pub invariant-loop-given : goal.invariant-loop-given
invariant-loop-given l = record {
  free : (slots : List Slot) (low : ℕ) → l.floor ≤ prefix_len is_done slots → AreFree slots low l.initial.free → AreFree slots low l.free;
  heap : IsHeap least_first (heap_items l.initial.free.given_back) → IsHeap least_first (heap_items l.free.given_back);
  untaken : l.free.untaken ≡ l.initial.free.untaken;
  room : room_of l.free ≡ room_of l.initial.free;
}

-- those that are left
abbrev pub decreases-loop-given : goal.decreases-loop-given
decreases-loop-given l = heap_len l.free.given_back

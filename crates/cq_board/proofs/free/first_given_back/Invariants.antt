use Rattle.std.proofs.Common.{◌≡◌}
use Rattle.std.specs.BinaryHeap.{heap_len}
use Rattle.cq_board.specs.Free.{AreFree, room_of}
use Rattle.cq_board.proofs.free.first_given_back.Given as goal

abbrev pub invariant-loop-given : goal.invariant-loop-given
invariant-loop-given g l = AreFree l.changes.slots l.changes.floor l.free × (room_of l.free ≡ room_of l.initial.free)

-- those that are left
abbrev pub decreases-loop-given : goal.decreases-loop-given
decreases-loop-given g l = heap_len l.free.given_back

-- What doors with a log, and the ends of their clients, tell.
use Rattle.std.specs.Prelude.{ℕ, List, Option, Some}
use Rattle.std.specs.VecDeque.{deque_len}
use Rattle.cq_stage.specs.declared.door.LogDoors.{LogDoors}
use Rattle.cq_stage.specs.declared.door.LogSink.{LogSink}
use Rattle.cq_stage.specs.declared.source.ClientSource.{ClientSource}

abbrev pub bound_of : {R : Type 0} → LogDoors R → Option (List ℕ)
bound_of doors = doors.bound

abbrev pub left_of : {R : Type 0} → LogDoors R → Option ℕ
left_of doors = Some (deque_len doors.clients)

abbrev pub door_faults : {R : Type 0} → LogDoors R → ℕ
door_faults doors = doors.calls.faults

abbrev pub sink_faults : {R : Type 0} → LogSink R → ℕ
sink_faults sink = sink.calls.faults

abbrev pub source_faults : {R : Type 0} → ClientSource R → ℕ
source_faults source = source.calls.faults

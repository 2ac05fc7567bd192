-- What doors over sockets tell: their address, the connections that are still to come, and their faults.
use Rattle.std.specs.Prelude.{ℕ, List, Option, Some, option_map}
use Rattle.cq_sockets.specs.declared.doors.TcpDoors.{TcpDoors}

abbrev pub bound_of : {R : Type 0} → TcpDoors R → Option (List ℕ)
bound_of doors = option_map (λ l. l.address) doors.listening

abbrev pub left_of : {R : Type 0} → TcpDoors R → Option ℕ
left_of doors = Some doors.left

abbrev pub door_faults : {R : Type 0} → TcpDoors R → ℕ
door_faults doors = doors.faults

-- What doors report about the connections that are still to come.
use Rattle.std.specs.Prelude.{◌≡◌, ℕ, ◌-◌, ◌<◌, List, Option, Some, option_map, MatchOption, IfSome, Result, MatchResult}
use Rattle.std.specs.VecDeque.{deque_len}
use Rattle.cq_io.specs.declared.door.MemDoors.{MemDoors}

-- if a number is reported, a connection lowers it by one, and there is none exactly at 0; a failure leaves it
abbrev pub Opens : {E T : Type 0} → Option ℕ → Option ℕ → Result (Option T) E → Type 0
Opens old new result =
    MatchResult result
    (λ door. MatchOption door ((new ≡ old) × IfSome old (λ n. n ≡ 0)) (λ _. (new ≡ option_map (λ n. n - 1) old) × IfSome old (λ n. 0 < n)))
    (λ _. new ≡ old)

-- what doors in memory report
abbrev pub bound_of : MemDoors → Option (List ℕ)
bound_of doors = doors.bound

abbrev pub left_of : MemDoors → Option ℕ
left_of doors = Some (deque_len doors.ends)

abbrev pub door_faults : MemDoors → ℕ
door_faults doors = doors.faults

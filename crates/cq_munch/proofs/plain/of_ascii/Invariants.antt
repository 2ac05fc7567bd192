use Rattle.std.proofs.Common.{◌≡◌, ◌<◌, ◌≤◌, ◌++◌, ℕ, drop, get_or, length}
use Rattle.std.specs.Prelude.{vec_len, vec_capacity}
use Rattle.std.specs.Str.{IsAscii}
use Rattle.cq_munch.specs.Lexed.{placed, units_of}
use Rattle.cq_munch.proofs.plain.of_ascii.Given as goal

abbrev pub invariant-loop-i : goal.invariant-loop-i
invariant-loop-i l = record {
  seen : (k : ℕ) → k < l.i → get_or l.bytes k 0 < 128;
  so_far : IsAscii l.bytes → l.units.items ++ placed l.i (drop l.i l.bytes) ≡ units_of l.bytes;
  counted : vec_len l.units ≡ l.i;
  room : length l.bytes ≤ vec_capacity l.units;
}

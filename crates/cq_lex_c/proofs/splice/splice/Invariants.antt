use Rattle.std.proofs.Common.{◌≡◌, ◌≤◌, ◌++◌, drop, length}
use Rattle.std.specs.Prelude.{vec_len, vec_capacity}
use Rattle.cq_lex_c.specs.Splices.{spliced}
use Rattle.cq_lex_c.proofs.splice.splice.Given as goal

abbrev pub invariant-loop-i : goal.invariant-loop-i
invariant-loop-i l = record {
  so_far : l.out.items ++ spliced l.skip (drop l.i l.units) ≡ spliced 0 l.units;
  counted : vec_len l.out ≤ l.i;
  room : length l.units ≤ vec_capacity l.out;
}

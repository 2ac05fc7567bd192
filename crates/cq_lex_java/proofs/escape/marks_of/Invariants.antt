use Rattle.std.proofs.Common.{◌≡◌, ◌+◌, drop}
use Rattle.cq_lex_java.specs.Escapes.{marks_of}
use Rattle.cq_lex_java.proofs.escape.marks_of.Given as goal

abbrev pub invariant-loop-unit : goal.invariant-loop-unit
invariant-loop-unit l = record {
  counted : l.marks ≡ l.unit-index;
  so_far : l.marks + marks_of (drop l.unit-index l.units) ≡ marks_of l.units;
}

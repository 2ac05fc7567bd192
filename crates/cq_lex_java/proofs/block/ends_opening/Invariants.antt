use Rattle.std.proofs.Common.{◌≡◌, drop}
use Rattle.cq_munch.specs.Characters.{characters}
use Rattle.cq_lex_java.specs.Blocks.{opening}
use Rattle.cq_lex_java.proofs.block.ends_opening.Given as goal

abbrev pub invariant-loop-unit : goal.invariant-loop-unit
invariant-loop-unit l = opening (drop l.unit-index (characters l.units)) ≡ opening (characters l.units)

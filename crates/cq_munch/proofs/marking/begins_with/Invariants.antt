use Rattle.std.proofs.Common.{◌≡◌, drop}
use Rattle.cq_munch.specs.Characters.{characters}
use Rattle.cq_munch.specs.Table.{begins}
use Rattle.cq_munch.proofs.marking.begins_with.Given as goal

abbrev pub invariant-loop-i : goal.invariant-loop-i
invariant-loop-i l = begins l.word (characters l.units) ≡ begins (drop l.i l.word) (drop l.i (characters l.units))

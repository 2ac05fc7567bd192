use Rattle.std.proofs.Common.{◌≡◌, drop}
use Rattle.std.specs.Str.{bytes_eq}
use Rattle.cq_munch.specs.Characters.{characters}
use Rattle.cq_munch.proofs.words.is_spelled.Given as goal

abbrev pub invariant-loop-i : goal.invariant-loop-i
invariant-loop-i l = bytes_eq l.word (characters l.units) ≡ bytes_eq (drop l.i l.word) (drop l.i (characters l.units))

use Rattle.std.proofs.Common.{◌≡◌, take}
use Rattle.std.specs.String.{string_bytes}
use Rattle.cq_munch.specs.Characters.{utf8_of}
use Rattle.cq_munch.proofs.spelling.of_units.Given as goal

abbrev pub invariant-loop-unit : goal.invariant-loop-unit
invariant-loop-unit l = string_bytes l.text ≡ utf8_of (take l.unit-index l.units)

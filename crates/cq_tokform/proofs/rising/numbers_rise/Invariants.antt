use Rattle.std.proofs.Common.{◌≡◌, drop, ltb}
use Rattle.cq_tokform.specs.Sound.{rise}
use Rattle.cq_tokform.proofs.rising.numbers_rise.Given as goal

abbrev pub invariant-loop-at : goal.invariant-loop-at
invariant-loop-at l = rise ltb (drop l.at l.numbers) ≡ rise ltb l.numbers

use Rattle.std.proofs.Common.{◌≡◌}
use Rattle.cq_make.specs.Generator.{lines_to}
use Rattle.cq_make.proofs.generator.text_of.Given as goal

abbrev pub invariant-loop-line : goal.invariant-loop-line
invariant-loop-line l = l.bytes.items ≡ lines_to l.number l.file l.line

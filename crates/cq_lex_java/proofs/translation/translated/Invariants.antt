use Rattle.std.proofs.Common.{◌≡◌, false, drop}
use Rattle.cq_lex_java.specs.Translation.{translated}
use Rattle.cq_lex_java.proofs.Translating.{front}
use Rattle.cq_lex_java.proofs.translation.translated.Given as goal

abbrev pub invariant-loop-i : goal.invariant-loop-i
invariant-loop-i l = front l.out.items (translated l.skip l.odd (drop l.i l.units)) ≡ translated 0 false l.units

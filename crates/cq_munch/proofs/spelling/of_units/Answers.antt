use Rattle.std.proofs.Common.{◌++◌, sym, ap, ◌∙◌}
use Rattle.std.specs.Prelude.{encode_utf8}
use Rattle.cq_munch.specs.Lexed.{unit_at}
use Rattle.cq_munch.proofs.Texts.{utf8_more}
use Rattle.cq_munch.proofs.spelling.of_units.Goals as goal

pub loop-unit-preserved : goal.loop-unit-preserved
loop-unit-preserved c =
    c.in_ok-push.ensures.bytes ∙ ap (λ v. v ++ encode_utf8 (unit_at c.args.units.now c.loop-unit.unit-index).ch) c.loop-unit.invariant
    ∙ sym (utf8_more c.args.units.now c.loop-unit.unit-index c.loop-unit-test.true)

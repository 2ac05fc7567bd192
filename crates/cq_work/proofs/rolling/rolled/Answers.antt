use Rattle.std.proofs.Common.{◌+◌, ◌∙◌, ap, sym}
use Rattle.std.specs.Prelude.{◌*◌, ◌^◌, ◌%◌}
use Rattle.cq_work.proofs.NextKeys.{rolls}
use Rattle.cq_work.proofs.rolling.rolled.Goals as goal

pub returns : goal.returns
returns c = λ rest size key_is.
    c.lowest_bits.ensures
    ∙ rolls c.args.settings.now c.args.outgoing c.args.incoming c.args.key c.exchanged-exchanged.result c.exchanged-exchanged.type_inv
    (ap (λ n. (n * (c.args.outgoing + 1) + c.exchanged-exchanged.result) % 2 ^ 64) (sym c.requires) ∙ c.exchanged-exchanged.ensures) rest size key_is

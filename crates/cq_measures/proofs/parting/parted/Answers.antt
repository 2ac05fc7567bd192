use Rattle.std.proofs.Common.{[], ap, ◌∙◌}
use Rattle.std.proofs.lemmas.List.{take_all}
use Rattle.cq_measures.specs.Parted.{runs_in}
use Rattle.cq_measures.proofs.parting.parted.Goals as goal

pub returns : goal.returns
returns c =
    let parts = c.loop-group.parts.items in
    let number = c.loop-group.invariant.number in
    let whole = take_all c.loop-group.group-index c.args.groups.now c.loop-group-test.false in
    record {
      number_is = number;
      each = λ i lt. c.loop-group.invariant.each i [] lt ∙ ap (runs_in i) whole;
    }

use Rattle.std.proofs.Common.{List, sym, subst}
use Rattle.cq_history.specs.State.{Slot}
use Rattle.cq_kept.specs.Accepted.{IsHeld}
use Rattle.cq_kept.proofs.Changing.{none_held}
use Rattle.cq_kept.proofs.changes.Changes.new.Goals as goal

pub invariant_of-result : goal.invariant_of-result
invariant_of-result g c =
    let IsWork = g.W.Indexed.IsWorkOf c.args.settings.now in
    subst (λ (slots : List Slot). IsHeld IsWork c.args.settings.now slots 0 0 c.new.result c.new-2.result 0) (sym c.of.ensures)
    (none_held IsWork c.args.settings.now c.new.result c.new-2.result c.new.ensures.empty c.new-2.ensures)

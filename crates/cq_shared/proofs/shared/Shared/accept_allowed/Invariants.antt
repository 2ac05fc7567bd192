use Rattle.std.proofs.Common.{Some}
use Rattle.cq_history.specs.declared.event.Event.TheVariants as event
use Rattle.cq_cells.specs.Passes.{by_of}
use Rattle.cq_shared.specs.Deeds.{event_of}
use Rattle.cq_shared.proofs.shared.Shared.accept_allowed.Given as goal

abbrev pub ghost-leave_accepted : goal.ghost-leave_accepted
ghost-leave_accepted g a = Some (event.Accept (by_of a.pass.now) a.change.now.value)

abbrev pub ghost-leave_after : goal.ghost-leave_after
ghost-leave_after g a = event_of (by_of a.pass.now) a.deed

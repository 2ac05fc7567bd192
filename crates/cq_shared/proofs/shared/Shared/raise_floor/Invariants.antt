use Rattle.cq_cells.specs.Passes.{by_of}
use Rattle.cq_shared.specs.Deeds.{event_of}
use Rattle.cq_shared.proofs.shared.Shared.raise_floor.Given as goal

abbrev pub ghost-leave_after : goal.ghost-leave_after
ghost-leave_after g a = event_of (by_of a.pass.now) a.deed

use Rattle.cq_kept.specs.Slots.{with_work}
use Rattle.cq_kept.proofs.changes.Changes.finish.Given as goal

abbrev pub ghost-finished : goal.ghost-finished
ghost-finished g a = with_work a.self.now.slots a.number

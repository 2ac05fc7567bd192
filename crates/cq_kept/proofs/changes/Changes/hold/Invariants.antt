use Rattle.cq_kept.specs.Slots.{with_holder}
use Rattle.cq_kept.proofs.changes.Changes.hold.Given as goal

abbrev pub ghost-held : goal.ghost-held
ghost-held g a = with_holder a.self.now.slots a.number a.holder

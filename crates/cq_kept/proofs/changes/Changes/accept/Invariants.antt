use Rattle.std.proofs.Common.{[], ◌∷◌, ◌++◌}
use Rattle.cq_history.specs.State.{new_slot}
use Rattle.cq_kept.specs.Slots.{change_of}
use Rattle.cq_kept.proofs.changes.Changes.accept.Given as goal

abbrev pub ghost-accepted : goal.ghost-accepted
ghost-accepted g a = a.self.now.slots ++ new_slot (change_of a.change.now) ∷ []

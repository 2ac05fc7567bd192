use Rattle.std.proofs.Common.{refl}
use Rattle.cq_history.specs.declared.event.Event.TheVariants as event
use Rattle.cq_board.proofs.Adding.{Adds_from}
use Rattle.cq_kept.specs.Slots.{state_from}
use Rattle.cq_board.proofs.board.Board.ask.Goals as goal

pub returns-clause-adds : goal.returns-clause-adds
returns-clause-adds g c = Adds_from c.self.inside.changes.settings (state_from c.self.inside.changes.slots c.self.inside.published c.self.inside.changes.floor c.self.inside.views.items) _ c.self.inside.events _ c.args.self.now _ (event.Ask c.args.by) c.self.view_is refl refl refl c.requires tt tt

use Rattle.std.proofs.Common.{refl, sym, subst, None, length-set}
use Rattle.std.specs.Arc.{arc_value}
use Rattle.std.specs.Prelude.{IsSome}
use Rattle.cq_history.specs.declared.event.Event.TheVariants as event
use Rattle.cq_history.specs.State.{view_of}
use Rattle.cq_board.specs.Stands.{BoardState}
use Rattle.cq_board.proofs.Adding.{Adds_from}
use Rattle.cq_board.proofs.OneMore.{board_views}
use Rattle.cq_kept.specs.Slots.{state_from}
use Rattle.cq_board.proofs.board.Board.shut.Goals as goal

pub returns : goal.returns
returns g c =
    let P : BoardState → Type 0 = λ b. IsSome (view_of b.state c.args.by) in
    Adds_from c.self.inside.changes.settings (state_from c.self.inside.changes.slots c.self.inside.published c.self.inside.changes.floor c.self.inside.views.items) _ c.self.inside.events _ c.args.self.now _ (event.Shut c.args.by) c.self.view_is refl refl refl c.requires.caller
    (subst P (sym c.self.view_is) c.requires.viewing) tt

pub invariant_of-self : goal.invariant_of-self
invariant_of-self g c = board_views (g.W.Indexed.IsWorkOf c.self.inside.changes.settings) c.self.inside.changes.settings c.self.inside.changes.slots c.self.inside.changes.floor c.self.inside.undone c.self.inside.free c.self.inside.published c.self.inside.listed (arc_value c.self.inside.listing) c.self.inside.views.items c.self.invariant _ (length-set c.self.inside.views.items c.args.by None)

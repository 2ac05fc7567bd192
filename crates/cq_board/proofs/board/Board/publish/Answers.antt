use Rattle.std.proofs.Common.{◌<◌, ◌≤◌, refl, sym, subst, inl, arith}
use Rattle.std.specs.Arc.{arc_value}
use Rattle.cq_history.specs.declared.event.Event.TheVariants as event
use Rattle.cq_history.specs.State.{ready}
use Rattle.cq_board.specs.Stands.{BoardState}
use Rattle.cq_kept.specs.Slots.{state_from}
use Rattle.cq_board.proofs.Adding.{Adds_from}
use Rattle.cq_board.proofs.OneMore.{listed_low, listed_from, listed_back, board_published}
use Rattle.cq_board.proofs.board.Board.publish.Goals as goal

pub advance_to-requires : goal.advance_to-requires
advance_to-requires g c =
    let P : BoardState → Type 0 = λ b. (b.state.published < c.args.version) × (c.args.version ≤ ready b.state) in
    let may = subst P (sym c.self.view_is) (c.requires.above, c.requires.done) in
    record {
      order = listed_low (g.W.Indexed.IsWorkOf c.self.inside.changes.settings) c.self.inside.changes.settings c.self.inside.changes.slots c.self.inside.changes.floor c.self.inside.undone c.self.inside.free c.self.inside.published c.self.inside.listed (arc_value c.self.inside.listing) c.self.inside.views.items c.self.invariant c.args.version (omega (arith, may.0));
      from = listed_from (g.W.Indexed.IsWorkOf c.self.inside.changes.settings) c.self.inside.changes.settings c.self.inside.changes.slots c.self.inside.changes.floor c.self.inside.undone c.self.inside.free c.self.inside.published c.self.inside.listed (arc_value c.self.inside.listing) c.self.inside.views.items c.self.invariant;
      floor = omega (arith, c.self.invariant.in_order.0, may.0);
      done = may.1;
      listing = c.self.invariant.listing;
    }

pub returns-clause-adds : goal.returns-clause-adds
returns-clause-adds g c =
    let P : BoardState → Type 0 = λ b. (b.state.published < c.args.version) × (c.args.version ≤ ready b.state) in
    Adds_from c.self.inside.changes.settings (state_from c.self.inside.changes.slots c.self.inside.published c.self.inside.changes.floor c.self.inside.views.items) _ c.self.inside.events _ c.args.self.now _ (event.Publish c.args.version) c.self.view_is refl refl refl tt
    (subst P (sym c.self.view_is) (c.requires.above, c.requires.done)) tt

pub invariant_of-self-2 : goal.invariant_of-self-2
invariant_of-self-2 g c =
    let P : BoardState → Type 0 = λ b. (b.state.published < c.args.version) × (c.args.version ≤ ready b.state) in
    let may = subst P (sym c.self.view_is) (c.requires.above, c.requires.done) in
    board_published (g.W.Indexed.IsWorkOf c.self.inside.changes.settings) c.self.inside.changes.settings c.self.inside.changes.slots c.self.inside.changes.floor c.self.inside.undone c.self.inside.free c.self.inside.published c.self.inside.listed (arc_value c.self.inside.listing) c.self.inside.views.items c.self.invariant c.args.version c.advance_to.new.at (arc_value c.advance_to.new.listing) (omega (arith, may.0)) may.1 (inl c.in_ok-advance_to.ensures.next) c.advance_to.ensures.listing

pub invariant_of-self : goal.invariant_of-self
invariant_of-self g c =
    board_published (g.W.Indexed.IsWorkOf c.self.inside.changes.settings) c.self.inside.changes.settings c.self.inside.changes.slots c.self.inside.changes.floor c.self.inside.undone c.self.inside.free c.self.inside.published c.self.inside.listed (arc_value c.self.inside.listing) c.self.inside.views.items c.self.invariant c.self.inside.published c.advance_to.new.at (arc_value c.advance_to.new.listing) (omega arith) c.self.invariant.in_order.1 (listed_back (g.W.Indexed.IsWorkOf c.self.inside.changes.settings) c.self.inside.changes.settings c.self.inside.changes.slots c.self.inside.changes.floor c.self.inside.undone c.self.inside.free c.self.inside.published c.self.inside.listed (arc_value c.self.inside.listing) c.self.inside.views.items c.self.invariant c.advance_to.new.at c.in_err-advance_to.ensures.back) c.advance_to.ensures.listing

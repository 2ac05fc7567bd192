use Rattle.std.proofs.Common.{◌+◌, ◌%◌, ◌^◌, ◌≤◌, fold, true≢false, refl, sym, ap, ◌∙◌, subst, arith}
use Rattle.std.specs.Arc.{arc_value}
use Rattle.cq_history.specs.declared.event.Event.TheVariants as event
use Rattle.cq_history.specs.Lawful.{Permits}
use Rattle.cq_history.specs.State.{is_done}
use Rattle.std.proofs.lemmas.List.Sums.{prefix_len-le-length}
use Rattle.cq_kept.specs.Accepted.{Accepted}
use Rattle.cq_board.specs.Answers.{greatest_floor, lower}
use Rattle.cq_board.specs.Boards.{BoardOk}
use Rattle.cq_kept.specs.Slots.{state_from}
use Rattle.cq_board.specs.Stands.{BoardState}
use Rattle.cq_board.proofs.Adding.{Adds_from}
use Rattle.cq_board.proofs.Floors.{fits_all, all_fit}
use Rattle.cq_board.proofs.OneMore.{board_floor}
use Rattle.cq_board.proofs.board.Board.set_floor.Goals as goal

pub returns-then-version-floor-clause-lawful : goal.returns-then-version-floor-clause-lawful
returns-then-version-floor-clause-lawful g c = (
  λ yes. absurd (true≢false (sym yes)),
  λ permits. let same = ap (λ (b : BoardState). b.state.floor) c.self.view_is in absurd (omega (arith, permits.0, c.if-version-floor.true, c.floor.ensures, same)),
)

pub returns-then-version-least-clause-lawful : goal.returns-then-version-least-clause-lawful
returns-then-version-least-clause-lawful g c = (
  λ yes. absurd (true≢false (sym yes)),
  λ permits.
      let below = subst (λ (b : BoardState). c.args.version ≤ greatest_floor b.state) (sym c.self.view_is) (all_fit c.args.version _ _ permits.1 permits.2) in
      let least = c.least.ensures ∙ ap (fold lower c.self.inside.published) c.deref.ensures.value in
      absurd (omega (arith, below, least, c.if-version-least.true)),
)

pub set_floor-requires : goal.set_floor-requires
set_floor-requires g c =
    let least = c.least.ensures ∙ ap (fold lower c.self.inside.published) c.deref.ensures.value in
    let fits = fits_all c.args.version c.self.inside.published c.self.inside.views.items (omega (arith, least, c.if-version-least.false)) in
    record {
      low = omega (arith, c.if-version-floor.false, c.floor.ensures);
      high = omega (arith, fits.0, c.self.invariant.in_order.1, prefix_len-le-length is_done c.self.inside.changes.slots);
    }

pub returns-clause-lawful : goal.returns-clause-lawful
returns-clause-lawful g c =
    let least = c.least.ensures ∙ ap (fold lower c.self.inside.published) c.deref.ensures.value in
    let fits = fits_all c.args.version c.self.inside.published c.self.inside.views.items (omega (arith, least, c.if-version-least.false)) in (
      λ _. subst (λ (b : BoardState). Permits b.settings b.state (event.Floor c.args.version)) c.self.view_is (omega (arith, c.if-version-floor.false, c.floor.ensures), fits.0, fits.1),
      λ _. refl,
    )

pub returns-clause-adds : goal.returns-clause-adds
returns-clause-adds g c =
    let least = c.least.ensures ∙ ap (fold lower c.self.inside.published) c.deref.ensures.value in
    let fits = fits_all c.args.version c.self.inside.published c.self.inside.views.items (omega (arith, least, c.if-version-least.false)) in
    Adds_from c.self.inside.changes.settings (state_from c.self.inside.changes.slots c.self.inside.published c.self.inside.changes.floor c.self.inside.views.items) _ c.self.inside.events _ c.args.self.now _ (event.Floor c.args.version) c.self.view_is
    (ap (λ (a : Accepted). let b : BoardState = record { settings = a.settings; state = state_from a.slots c.self.inside.published a.floor c.self.inside.views.items; events = (c.self.inside.events + 1) % 2 ^ 64 } in b) c.set_floor.ensures)
    refl refl tt (omega (arith, c.if-version-floor.false, c.floor.ensures), fits.0, fits.1) tt

pub invariant_of-self : goal.invariant_of-self
invariant_of-self g c =
    let least = c.least.ensures ∙ ap (fold lower c.self.inside.published) c.deref.ensures.value in
    let fits = fits_all c.args.version c.self.inside.published c.self.inside.views.items (omega (arith, least, c.if-version-least.false)) in
    let low : c.self.inside.changes.floor ≤ c.args.version = omega (arith, c.if-version-floor.false, c.floor.ensures) in
    let can = c.pass_over.ensures.passed c.self.inside.changes.slots c.self.inside.changes.floor low (omega (arith, fits.0, c.self.invariant.in_order.1)) c.self.invariant.may_take in
    subst (λ (a : Accepted). BoardOk (g.W.Indexed.IsWorkOf a.settings) a c.self.inside.undone c.pass_over.new.free c.self.inside.published c.self.inside.listed (arc_value c.self.inside.listing) c.self.inside.views.items) (sym c.set_floor.ensures)
    (board_floor (g.W.Indexed.IsWorkOf c.self.inside.changes.settings) c.self.inside.changes.settings c.self.inside.changes.slots c.self.inside.changes.floor c.self.inside.undone c.self.inside.free c.self.inside.published c.self.inside.listed (arc_value c.self.inside.listing) c.self.inside.views.items c.self.invariant c.args.version c.pass_over.new.free low fits.0 can (omega (arith, c.pass_over.ensures.room)))

use Rattle.std.proofs.Common.{◌≡◌, sym, ap, ◌∙◌, subst, arith}
use Rattle.std.specs.Arc.{arc_value}
use Rattle.cq_history.specs.Gone.{AreKeptPuts}
use Rattle.cq_history.specs.State.{changes_in}
use Rattle.cq_kept.specs.Slots.{changes_of}
use Rattle.cq_board.specs.Listings.{Listed}
use Rattle.cq_board.specs.Stands.{BoardState}
use Rattle.cq_board.proofs.LiveKept.{live_are_kept}
use Rattle.cq_board.proofs.board.Board.keep.Goals as goal

pub returns-then-self-floor : goal.returns-then-self-floor
returns-then-self-floor g c =
    let b = c.self.inside in
    let changes = changes_of b.changes.slots in
    let at : b.listed ≡ b.changes.floor = omega (arith, c.if-self-floor.true, c.floor-floor.ensures) in
    let live = live_are_kept changes b.listed (arc_value b.listing).live c.self.invariant.listing.numbers in
    let numbers = c.shared.ensures ∙ ap (λ (l : Listed g.row.W.Denot). l.live) c.in_ok-listing.ensures in
    subst (λ (s : BoardState). AreKeptPuts (changes_in s.state) s.state.floor c.shared.result) c.self.view_is
    (subst (AreKeptPuts changes b.changes.floor) (sym numbers) (subst (λ n. AreKeptPuts changes n (arc_value b.listing).live) at live))

pub returns : goal.returns
returns g c =
    let b = c.self.inside in
    subst (λ (s : BoardState). AreKeptPuts (changes_in s.state) s.state.floor c.own.result) c.self.view_is
    (subst (AreKeptPuts (changes_of b.changes.slots) b.changes.floor) (sym c.own.ensures) c.in_ok-numbers.ensures)

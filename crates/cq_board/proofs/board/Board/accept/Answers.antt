use Rattle.std.proofs.Common.{ℕ, cond, false, ◌≡◌, ◌+◌, ◌%◌, ◌^◌, [], ◌∷◌, ◌++◌, refl, sym, ap, ◌∙◌, None, subst}
use Rattle.std.specs.Arc.{arc_value}
use Rattle.std.specs.BTreeMap.{is_at}
use Rattle.std.specs.BTreeSet.{contains}
use Rattle.std.specs.Ordering.{nat_cmp}
use Rattle.cq_base.specs.Changes.{IsSoundChange}
use Rattle.cq_base.specs.declared.change.Change.{Change}
use Rattle.cq_history.specs.declared.event.Event.TheVariants as event
use Rattle.cq_history.specs.State.{new_slot}
use Rattle.cq_kept.specs.Accepted.{Accepted}
use Rattle.cq_board.specs.Answers.{refusal_of}
use Rattle.cq_board.specs.Boards.{BoardOk}
use Rattle.cq_kept.specs.Slots.{change_of, state_from}
use Rattle.cq_board.specs.Stands.{BoardState}
use Rattle.cq_board.proofs.Adding.{Adds_from}
use Rattle.cq_board.proofs.Causes.{causes}
use Rattle.cq_board.proofs.OneMore.{board_accepted, board_undone, allowed_accept}
use Rattle.cq_board.proofs.Undoing.{undone-pop}
use Rattle.cq_board.proofs.board.Board.accept.Goals as goal

pub accept-requires : goal.accept-requires
accept-requires g c =
    let a : Accepted = c.self.inside.changes in
    record { allowed = causes a.settings (state_from a.slots 0 a.floor []) (change_of c.in_ok-change.change) (sym c.refusal.ensures ∙ c.in_default.is); text = c.in_ok-change.ensures.text }

pub invariant_of-self-2 : goal.invariant_of-self-2
invariant_of-self-2 g c =
    let a : Accepted = c.self.inside.changes in
    let allowed : refusal_of a.settings (state_from a.slots 0 a.floor []) (change_of c.in_ok-change.change) ≡ None = sym c.refusal.ensures ∙ c.in_default.is in
    subst (λ (b : Accepted). BoardOk (g.W.Indexed.IsWorkOf b.settings) b c.note_undone.new.undone c.self.inside.free c.self.inside.published c.self.inside.listed (arc_value c.self.inside.listing) c.self.inside.views.items) (sym c.in-Ok.ensures.more)
    (board_accepted (g.W.Indexed.IsWorkOf c.self.inside.changes.settings) c.self.inside.changes.settings c.self.inside.changes.slots c.self.inside.changes.floor c.self.inside.undone c.self.inside.free c.self.inside.published c.self.inside.listed (arc_value c.self.inside.listing) c.self.inside.views.items c.self.invariant (change_of c.in_ok-change.change) c.note_undone.new.undone (subst IsSoundChange (sym c.in_ok-change.ensures.change) c.requires.sound) allowed c.in_ok-note_undone.ensures.more)

pub returns-clause-adds : goal.returns-clause-adds
returns-clause-adds g c =
    let a : Accepted = c.self.inside.changes in
    let same : change_of c.in_ok-change.change ≡ c.args.change = c.in_ok-change.ensures.change in
    let allowed : refusal_of a.settings (state_from a.slots 0 a.floor []) c.args.change ≡ None = ap (refusal_of a.settings (state_from a.slots 0 a.floor [])) (sym same) ∙ sym c.refusal.ensures ∙ c.in_default.is in
    Adds_from a.settings (state_from c.self.inside.changes.slots c.self.inside.published c.self.inside.changes.floor c.self.inside.views.items) _ c.self.inside.events _ c.args.self.now _ (event.Accept c.args.by c.args.change) c.self.view_is
    (ap (λ (b : Accepted). let x : BoardState = record { settings = b.settings; state = state_from b.slots c.self.inside.published b.floor c.self.inside.views.items; events = (c.self.inside.events + 1) % 2 ^ 64 } in x) c.in-Ok.ensures.more)
    refl (ap (λ (d : Change). state_from (a.slots ++ new_slot d ∷ []) c.self.inside.published a.floor c.self.inside.views.items) same)
    c.requires.caller (allowed_accept a.settings (state_from c.self.inside.changes.slots c.self.inside.published c.self.inside.changes.floor c.self.inside.views.items) c.args.by c.args.change allowed) c.requires.sound

-- where memory is refused, first by `note_undone` and then by `accept`, which leaves the changes as they were
pub invariant_of-self : goal.invariant_of-self
invariant_of-self g c = board_undone (g.W.Indexed.IsWorkOf c.self.inside.changes.settings) c.self.inside.changes.settings c.self.inside.changes.slots c.self.inside.changes.floor c.self.inside.undone c.self.inside.free c.self.inside.published c.self.inside.listed (arc_value c.self.inside.listing) c.self.inside.views.items c.self.invariant c.note_undone.new.undone c.in_err-note_undone.ensures.same

pub invariant_of-self-in-Err : goal.invariant_of-self-in-Err
invariant_of-self-in-Err g c =
    let a : Accepted = c.self.inside.changes in
    subst (λ (b : Accepted). BoardOk (g.W.Indexed.IsWorkOf b.settings) b c.remove.new.self c.self.inside.free c.self.inside.published c.self.inside.listed (arc_value c.self.inside.listing) c.self.inside.views.items) (sym c.in-Err.ensures.err)
    (board_undone (g.W.Indexed.IsWorkOf c.self.inside.changes.settings) c.self.inside.changes.settings c.self.inside.changes.slots c.self.inside.changes.floor c.self.inside.undone c.self.inside.free c.self.inside.published c.self.inside.listed (arc_value c.self.inside.listing) c.self.inside.views.items c.self.invariant c.remove.new.self (undone-pop a.slots c.note_undone.new.undone c.remove.new.self (new_slot (change_of c.in_ok-change.change)) c.in_ok-note_undone.ensures.more (subst (λ (n : ℕ). (i : ℕ) → contains nat_cmp c.remove.new.self i ≡ cond (is_at (nat_cmp n) i) false (contains nat_cmp c.note_undone.new.undone i)) c.len-accepted.ensures c.remove.ensures.updates.0)))

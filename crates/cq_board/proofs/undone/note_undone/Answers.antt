use Rattle.std.specs.BTreeMap.{is_at}
use Rattle.std.specs.BTreeSet.{contains}
use Rattle.std.specs.Ordering.{nat_cmp}
use Rattle.std.proofs.Common.{◌≡◌, ℕ, cond, true, [], ◌∷◌, ◌++◌, refl, sym, subst}
use Rattle.cq_history.specs.State.{new_slot}
use Rattle.cq_kept.specs.Slots.{change_of}
use Rattle.cq_board.specs.Undone.{AreUndone}
use Rattle.cq_kept.specs.declared.kept.Stored.{Stored}
use Rattle.cq_board.proofs.Undoing.{undone-push_put, undone-push_done}
use Rattle.cq_board.proofs.undone.note_undone.Goals as goal

-- a put is not done, and the others are at once
pub returns-in_ok-insert-in-Put-clause-more : goal.returns-in_ok-insert-in-Put-clause-more
returns-in_ok-insert-in-Put-clause-more g c =
    subst (λ (s : Stored). AreUndone (c.args.changes.now.slots ++ new_slot (change_of s) ∷ []) c.insert.new.self) (sym c.in-Put.is)
    (undone-push_put c.args.changes.now.slots c.args.undone.now c.insert.new.self c.requires _ refl
    (subst (λ (n : ℕ). (i : ℕ) → contains nat_cmp c.insert.new.self i ≡ cond (is_at (nat_cmp n) i) true (contains nat_cmp c.args.undone.now i)) c.len.ensures c.in_ok-insert-in-Put.ensures.updates.0))

pub returns-in-Drop-clause-more : goal.returns-in-Drop-clause-more
returns-in-Drop-clause-more g c =
    subst (λ (s : Stored). AreUndone (c.args.changes.now.slots ++ new_slot (change_of s) ∷ []) c.args.undone.now) (sym c.in-Drop.is)
    (undone-push_done c.args.changes.now.slots c.args.undone.now c.requires _ refl)

pub returns-in-Gate-clause-more : goal.returns-in-Gate-clause-more
returns-in-Gate-clause-more g c =
    subst (λ (s : Stored). AreUndone (c.args.changes.now.slots ++ new_slot (change_of s) ∷ []) c.args.undone.now) (sym c.in-Gate.is)
    (undone-push_done c.args.changes.now.slots c.args.undone.now c.requires _ refl)

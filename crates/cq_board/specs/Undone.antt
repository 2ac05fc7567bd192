-- Which changes are not done, by their indexes, from 0.
use Rattle.std.specs.Prelude.{◌≡◌, ℕ, Bool, not, List, slice_index_or}
use Rattle.std.specs.Ordering.{nat_cmp}
use Rattle.std.specs.BTreeSet.{BTreeSet, contains}
use Rattle.cq_history.specs.State.{Slot, no_slot, is_done}
use Rattle.cq_kept.specs.declared.kept.Stored.{Stored}
use Rattle.cq_kept.specs.Slots.{change_of, with_change}

-- whether a change has the index and is not done
abbrev pub is_undone : List Slot → ℕ → Bool
is_undone slots i = not (is_done (slice_index_or slots i no_slot))

-- the set has exactly the indexes of the changes that are not done
abbrev pub AreUndone : List Slot → BTreeSet ℕ → Type 0
AreUndone slots undone = (i : ℕ) → contains nat_cmp undone i ≡ is_undone slots i

-- it has those of the slots and of this change more
abbrev pub AreUndoneWith : List Slot → Stored → BTreeSet ℕ → Type 0
AreUndoneWith slots change undone = AreUndone (with_change slots (change_of change)) undone

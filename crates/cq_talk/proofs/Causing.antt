-- The cause against a change goes by the changes before it and the floor alone.
use Rattle.std.proofs.Common.{if◌then◌else◌, ◌≡◌, ◌^◌, ℕ, ◌+◌, Bool, not, ◌||◌, List, [], ◌∷◌, length, map, Option, Some, None, refl, sym, ap, ap₂, ◌∙◌}
use Rattle.std.specs.Prelude.{nat_lt, nat_le}
use Rattle.std.proofs.lemmas.List.{length-map}
use Rattle.cq_base.specs.declared.settings.Settings.{Settings}
use Rattle.cq_base.specs.declared.change.Change.{Change}
use Rattle.cq_base.specs.declared.change.Change.TheVariants.{Put, Drop, Gate}
use Rattle.cq_history.specs.declared.event.Event.{Event}
use Rattle.cq_history.specs.Files.{files_of, has_file}
use Rattle.cq_history.specs.Gone.{kept_count, kept_bytes}
use Rattle.cq_history.specs.Lawful.{is_absent, is_full, is_long, kept_changes, kept_text_bytes}
use Rattle.cq_history.specs.State.{State, Slot, new_slot, state, accepted, changes_in}
use Rattle.cq_history.proofs.Prefixes.{changes_in-state}
use Rattle.cq_board.specs.Answers.{refusal_of}
use Rattle.cq_board.specs.declared.answers.Refused.{Refused}
use Rattle.cq_board.specs.declared.answers.Refused.TheVariants.{Absent, FullChanges, FullText}
use Rattle.cq_talk.specs.Causes.{state_at, cause}

pub changes_new : (changes : List Change) → map (λ (slot : Slot). slot.change) (map new_slot changes) ≡ changes
changes_new [] = refl
changes_new (x ∷ xs) = ap (λ cs. x ∷ cs) (changes_new xs)

abbrev first_cause : Bool → Bool → Bool → Option Refused
first_cause absent full long = if absent then Some Absent else (if full then Some FullChanges else (if long then Some FullText else None))

module _ (set : Settings) (s t : State) (same : changes_in s ≡ changes_in t) (floor : s.floor ≡ t.floor) where
  same_many : length s.slots ≡ length t.slots
  same_many = sym (length-map s.slots (λ (slot : Slot). slot.change)) ∙ (ap length same ∙ length-map t.slots (λ (slot : Slot). slot.change))

  same_kept : kept_changes s ≡ kept_changes t
  same_kept = ap₂ kept_count same floor

  same_bytes : kept_text_bytes s ≡ kept_text_bytes t
  same_bytes = ap₂ kept_bytes same floor

  pub same_absent : (change : Change) → is_absent s change ≡ is_absent t change
  same_absent (Put project path lang text) = refl
  same_absent (Drop project path) = ap (λ changes. not (has_file path (files_of project changes))) same
  same_absent (Gate project conditions) = refl

  pub same_full : is_full set s ≡ is_full set t
  same_full = ap₂ (λ n m. nat_le set.change_limit n || nat_le (2 ^ 60) m) same_kept same_many

  pub same_long : (change : Change) → is_long set s change ≡ is_long set t change
  same_long (Put project path lang text) = ap (λ n. nat_lt set.text_limit (n + length text)) same_bytes
  same_long (Drop project path) = refl
  same_long (Gate project conditions) = refl

  pub same_cause : (change : Change) → refusal_of set s change ≡ refusal_of set t change
  same_cause change =
      ap (λ b. first_cause b (is_full set s) (is_long set s change)) (same_absent change)
      ∙ (ap (λ b. first_cause (is_absent t change) b (is_long set s change)) same_full ∙ ap (λ b. first_cause (is_absent t change) (is_full set t) b) (same_long change))

-- the state that a history leaves, as a change is refused or accepted by it
pub changes_there : (callers : ℕ) (h : List Event) (changes : List Change) (floor : ℕ) → accepted h ≡ changes → changes_in (state callers h) ≡ changes_in (state_at changes floor)
changes_there callers h changes floor is = changes_in-state callers h ∙ (is ∙ sym (changes_new changes))

pub cause_is : (set : Settings) (callers : ℕ) (h : List Event) (changes : List Change) (change : Change) → accepted h ≡ changes → refusal_of set (state callers h) change ≡ cause set changes (state callers h).floor change
cause_is set callers h changes change is =
    same_cause set (state callers h) (state_at changes (state callers h).floor) (changes_there callers h changes (state callers h).floor is) refl change

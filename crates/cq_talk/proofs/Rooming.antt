-- The causes against a change at different floors: a higher floor leaves more room.
use Rattle.std.proofs.Common.{◌≡◌, ◌⊎◌, ◌^◌, ℕ, ◌+◌, ◌≤◌, Bool, true, false, cond, List, length, map, Some, None, refl, sym, ap, ◌∙◌, inl, inr, ⊎_elim, arith}
use Rattle.std.specs.Prelude.{nat_le}
use Rattle.std.proofs.lemmas.Bool.{or_left, or_right, or_cases, leb-true, le-leb, ltb-true, lt-ltb}
use Rattle.cq_base.specs.declared.settings.Settings.{Settings}
use Rattle.cq_base.specs.declared.change.Change.{Change}
use Rattle.cq_base.specs.declared.change.Change.TheVariants.{Put, Drop, Gate}
use Rattle.cq_history.specs.Lawful.{is_absent, is_full, is_long, kept_changes, kept_text_bytes}
use Rattle.cq_history.specs.State.{new_slot, changes_in}
use Rattle.cq_history.proofs.Keeping.{kept_falls}
use Rattle.cq_board.specs.declared.answers.Refused.{Refused}
use Rattle.cq_board.specs.declared.answers.Refused.TheVariants.{Absent, FullChanges, FullText}
use Rattle.cq_board.proofs.OneMore.{allowed_accept}
use Rattle.cq_answer.specs.Refusals.{cause_told}
use Rattle.cq_reply.specs.declared.reply.Reply.{Reply}
use Rattle.cq_reply.specs.declared.reply.Reply.TheVariants as reply
use Rattle.cq_talk.specs.Causes.{state_at, cause}
use Rattle.cq_talk.specs.Beside.{Known, IsChangedBeside}

module _ (set : Settings) (changes : List Change) (low high : ℕ) (le : low ≤ high) where
  full_lower : is_full set (state_at changes high) ≡ true → is_full set (state_at changes low) ≡ true
  full_lower is = ⊎_elim
      (λ kept.
      let most = leb-true set.change_limit (kept_changes (state_at changes high)) kept in
      let falls = (kept_falls (changes_in (state_at changes low)) low high le).0 in
      or_left (nat_le set.change_limit (kept_changes (state_at changes low))) (nat_le (2 ^ 60) (length (map new_slot changes))) (le-leb set.change_limit (kept_changes (state_at changes low)) (omega (arith, most, falls))))
      (λ many. or_right (nat_le set.change_limit (kept_changes (state_at changes low))) (nat_le (2 ^ 60) (length (map new_slot changes))) many)
      (or_cases (nat_le set.change_limit (kept_changes (state_at changes high))) (nat_le (2 ^ 60) (length (map new_slot changes))) is)

  long_lower : (change : Change) → is_long set (state_at changes high) change ≡ true → is_long set (state_at changes low) change ≡ true
  long_lower (Put project path lang text) is =
      let more = ltb-true set.text_limit (kept_text_bytes (state_at changes high) + length text) is in
      let falls = (kept_falls (changes_in (state_at changes low)) low high le).1 in
      lt-ltb set.text_limit (kept_text_bytes (state_at changes low) + length text) (omega (arith, more, falls))
  long_lower (Drop project path) is = is
  long_lower (Gate project conditions) is = is

  same_absence : (change : Change) → is_absent (state_at changes low) change ≡ is_absent (state_at changes high) change
  same_absence (Put project path lang text) = refl
  same_absence (Drop project path) = refl
  same_absence (Gate project conditions) = refl

  -- a change that there is no cause against at a floor has none at a higher one
  pub none_higher : (change : Change) → cause set changes low change ≡ None → cause set changes high change ≡ None
  none_higher change none =
      let ok = allowed_accept set (state_at changes low) 0 change none in
      none_from _ _ _ (sym (same_absence change) ∙ ok.0) (stays _ _ full_lower ok.1) (stays _ _ (long_lower change) ok.2)
    where
      none_from : (a b c : Bool) → a ≡ false → b ≡ false → c ≡ false → cond a (Some Absent) (cond b (Some FullChanges) (cond c (Some FullText) None)) ≡ None
      none_from a b c x y z =
          ap (λ a. cond a (Some Absent) (cond b (Some FullChanges) (cond c (Some FullText) None))) x ∙ ap (λ b. cond b (Some FullChanges) (cond c (Some FullText) None)) y ∙ ap (λ c. cond c (Some FullText) None) z

      stays : (high low : Bool) → (high ≡ true → low ≡ true) → low ≡ false → high ≡ false
      stays true low to fails = absurd (let holds : low ≡ true = to refl in cc (holds, fails))
      stays false low to fails = refl

-- ---- what a user is told

which : (a b c : Bool) (why : Refused) → cond a (Some Absent) (cond b (Some FullChanges) (cond c (Some FullText) None)) ≡ Some why →
    ((a ≡ true) × (why ≡ Absent)) ⊎ ((a ≡ false) × (((b ≡ true) × (why ≡ FullChanges)) ⊎ ((c ≡ true) × (why ≡ FullText))))
which true b c why e = inl (refl, cc e)
which false true c why e = inr (refl, inl (refl, cc e))
which false false true why e = inr (refl, inr (refl, cc e))
which false false false why e = absurd (cc e)

module _ (set : Settings) (k : Known) (change : Change) (r : Reply) (floor : ℕ) where
  -- a cause that stands at a floor that is no lower than what was answered
  pub refused_beside : k.answered ≤ floor → (why : Refused) → cause set k.changes floor change ≡ Some why → r ≡ cause_told why → IsChangedBeside set k change r
  refused_beside low why is told =
      let absence = same_absence set k.changes k.answered floor low change in
      ⊎_elim
      (λ absent. inl (absence ∙ absent.0, told ∙ ap cause_told absent.1))
      (λ there. ⊎_elim
      (λ full. inr (inl (absence ∙ there.0, full_lower set k.changes k.answered floor low full.0, told ∙ ap cause_told full.1)))
      (λ long. inr (inr (inl (absence ∙ there.0, long_lower set k.changes k.answered floor low change long.0, told ∙ ap cause_told long.1))))
      there.1)
      (which (is_absent (state_at k.changes floor) change) (is_full set (state_at k.changes floor)) (is_long set (state_at k.changes floor) change) why is)

  -- no cause at a floor that is at most the last change
  pub accepted_beside : floor ≤ length k.changes → cause set k.changes floor change ≡ None → r ≡ reply.Change (length k.changes + 1) → IsChangedBeside set k change r
  accepted_beside high none told = inr (inr (inr (none_higher set k.changes floor (length k.changes) high change none, told)))

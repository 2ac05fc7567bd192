-- What is ready after one change more.
use Rattle.std.proofs.Common.{◌≡◌, ℕ, ◌+◌, ◌-◌, ◌<◌, ◌≤◌, Bool, true, false, cond, not, [], ◌∷◌, ◌++◌, length, get_or, refl, sym, ap, ◌∙◌, ⊎_elim, arith, length-append, true≢false, lt-ltb, le-ltb}
use Rattle.std.specs.Prelude.{◌||◌}
use Rattle.std.proofs.lemmas.Bool.{cases_lt}
use Rattle.std.proofs.lemmas.List.{get_or_append_left, get_or-append-add}
use Rattle.std.proofs.lemmas.List.Sums.{prefix_len_passes, prefix_len_stops, prefix_len-le-length}
use Rattle.cq_base.specs.declared.change.Change.{Change}
use Rattle.cq_history.specs.Changes.{is_put}
use Rattle.cq_history.specs.declared.event.Event.TheVariants.{Accept}
use Rattle.cq_history.specs.State.{State, no_slot, new_slot, after, ready, is_done, IsDone}
use Rattle.cq_history.proofs.Bounds.{ready_after}
use Rattle.cq_talk.specs.Alone.{Walk, done_with}

-- one more is ready
pub ready_more : (s : State) (i : ℕ) → i ≤ ready s → IsDone s (i + 1) → i + 1 ≤ ready s
ready_more s i le done =
    ⊎_elim
    (λ (lt : i < ready s). omega (arith, lt))
    (λ (ge : ready s ≤ i).
    let same : i ≡ ready s = omega (arith, le, ge) in
    let few : ready s < length s.slots = omega (arith, done.0.1, same) in
    let one : (i + 1) - 1 ≡ ready s = omega (arith, same) in
    absurd (true≢false (sym done.1 ∙ ap (λ n. is_done (get_or s.slots n no_slot)) one ∙ prefix_len_stops is_done s.slots no_slot few)))
    (cases_lt i (ready s))

no_put : (b : Bool) → b ≡ false → (not b || false) ≡ true
no_put true is = absurd (true≢false is)
no_put false is = refl

a_put : (b : Bool) → b ≡ true → (not b || false) ≡ false
a_put true is = refl
a_put false is = absurd (true≢false (sym is))

module _ (s : State) (by : ℕ) (change : Change) where
  abbrev pushed : State
  pushed = after s (Accept by change)

  many : length (s.slots ++ new_slot change ∷ []) ≡ length s.slots + 1
  many = length-append s.slots (new_slot change ∷ [])

  last : get_or (s.slots ++ new_slot change ∷ []) (length s.slots) no_slot ≡ new_slot change
  last = let here : length s.slots ≡ length s.slots + 0 = omega arith in ap (λ n. get_or (s.slots ++ new_slot change ∷ []) n no_slot) here ∙ get_or-append-add s.slots (new_slot change ∷ []) 0 no_slot

  most : ready pushed ≤ length s.slots + 1
  most = omega (arith, prefix_len-le-length is_done (s.slots ++ new_slot change ∷ []), many)

  least : ready s ≤ ready pushed
  least = ready_after s (Accept by change)

  -- the next one has no work
  more : ready s ≡ length s.slots → is_put change ≡ false → ready pushed ≡ ready s + 1
  more all work =
      let n = length s.slots in
      let one : (n + 1) - 1 ≡ n = omega arith in
      let is : IsDone pushed (n + 1) = ((omega arith, omega (arith, many)), ap (λ i. is_done (get_or (s.slots ++ new_slot change ∷ []) i no_slot)) one ∙ ap is_done last ∙ no_put (is_put change) work) in
      let up = ready_more pushed n (omega (arith, least, all)) is in
      omega (arith, up, most, all)

  -- its work is not done
  waits : ready s ≡ length s.slots → is_put change ≡ true → ready pushed ≡ ready s
  waits all work =
      let n = length s.slots in
      ⊎_elim
      (λ (lt : n < ready pushed). absurd (true≢false (sym (prefix_len_passes is_done (s.slots ++ new_slot change ∷ []) n no_slot lt) ∙ ap is_done last ∙ a_put (is_put change) work)))
      (λ (ge : ready pushed ≤ n). omega (arith, least, ge, all))
      (cases_lt n (ready pushed))

  -- an earlier one is not done
  behind : ready s < length s.slots → ready pushed ≡ ready s
  behind within =
      ⊎_elim
      (λ (up : ready s < ready pushed). absurd (true≢false (sym (prefix_len_passes is_done (s.slots ++ new_slot change ∷ []) (ready s) no_slot up) ∙ ap is_done (get_or_append_left s.slots (new_slot change ∷ []) no_slot (ready s) within) ∙ prefix_len_stops is_done s.slots no_slot within)))
      (λ (ge : ready pushed ≤ ready s). omega (arith, least, ge))
      (cases_lt (ready s) (ready pushed))

  by_kind : (b : Bool) → is_put change ≡ b → ready s ≡ length s.slots → ready pushed ≡ cond b (ready s) (ready s + 1)
  by_kind true is all = waits all is
  by_kind false is all = more all is

  pub ready_with : (k : Walk) → ready s ≡ k.done → length s.slots ≡ length k.changes → ready (after s (Accept by change)) ≡ done_with k change
  ready_with k done number =
      ⊎_elim
      (λ (lt : k.done < length k.changes). behind (omega (arith, lt, done, number)) ∙ done ∙ sym (ap (λ b. cond (b || is_put change) k.done (k.done + 1)) (lt-ltb k.done (length k.changes) lt)))
      (λ (ge : length k.changes ≤ k.done).
      by_kind (is_put change) refl (omega (arith, ge, done, number, prefix_len-le-length is_done s.slots))
      ∙ ap (λ n. cond (is_put change) n (n + 1)) done ∙ sym (ap (λ b. cond (b || is_put change) k.done (k.done + 1)) (le-ltb k.done (length k.changes) ge)))
      (cases_lt k.done (length k.changes))

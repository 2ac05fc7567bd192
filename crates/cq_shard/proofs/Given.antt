-- The work that a server's state gives of a change that is ready.
use Rattle.std.proofs.Common.{◌≡◌, ◌↔◌, ℕ, ◌-◌, ◌<◌, ◌≤◌, Bool, true, not, ◌||◌, List, length, Option, Some, None, option_map, refl, sym, ap, ◌∙◌, subst, arith, true≢false}
use Rattle.std.specs.Prelude.{IfSome, IsSome}
use Rattle.std.proofs.lemmas.Option.{slice_get-get_or}
use Rattle.std.proofs.lemmas.List.{length-map, get_or-map}
use Rattle.std.proofs.lemmas.List.Sums.{prefix_len-le-length, prefix_len_passes}
use Rattle.cq_base.proofs.Bools.{or-implies}
use Rattle.cq_base.specs.declared.lang.Lang.{Lang}
use Rattle.cq_base.specs.declared.change.Change.{Change}
use Rattle.cq_base.specs.declared.change.Change.TheVariants.{Put, Drop, Gate}
use Rattle.cq_history.specs.Changes.{change_at, is_put, IsWorkFor}
use Rattle.cq_history.specs.State.{State, Slot, no_slot, slot_of, changes_in, ready, is_done, IsAccepted}
use Rattle.cq_shard.specs.Shard.{HasItsWork}

-- over what holds a work, as its owner
module _ {W X : Type 0} (IsWork : Lang → List ℕ → W → Type 0) (work_in : X → W) where
  given : (c : Change) (finished : Bool) (held : Option X) → (not (is_put c) || finished) ≡ true → (IsSome held → (is_put c ≡ true) × (finished ≡ true)) → ((is_put c ≡ true) × (finished ≡ true) → IsSome held) →
      IfSome held (λ x. IsWorkFor IsWork c (work_in x)) → HasItsWork IsWork (Some c) (option_map work_in held)
  given (Put project path lang text) finished (Some x) done some there is = is
  given (Put project path lang text) finished None done some there is = absurd (true≢false (sym (there (refl, or-implies true finished done refl))))
  given (Drop project path) finished (Some x) done some there is = absurd (true≢false (sym (some refl).0))
  given (Drop project path) finished None done some there is = tt
  given (Gate project conditions) finished (Some x) done some there is = absurd (true≢false (sym (some refl).0))
  given (Gate project conditions) finished None done some there is = tt

  -- a put that is done has one, and no other change has
  pub work_given : (s : State) (r : ℕ) (held : Option X) → 0 < r → r ≤ ready s → IsSome held ↔ (IsAccepted s r × (is_put (slot_of s r).change ≡ true) × ((slot_of s r).finished ≡ true)) → IfSome held (λ x. IsWorkFor IsWork (slot_of s r).change (work_in x)) →
      HasItsWork IsWork (change_at (changes_in s) r) (option_map work_in held)
  work_given s r held some le given_where is =
      let few = prefix_len-le-length is_done s.slots in
      let within : r - 1 < length s.slots = omega (arith, some, le, few) in
      let same : length (changes_in s) ≡ length s.slots = length-map s.slots (λ (slot : Slot). slot.change) in
      let here : change_at (changes_in s) r ≡ Some (slot_of s r).change =
      slice_get-get_or (changes_in s) (r - 1) (slot_of s r).change (omega (arith, within, same)) ∙ ap Some (get_or-map (λ (slot : Slot). slot.change) s.slots (r - 1) no_slot (slot_of s r).change within) in
      let done : is_done (slot_of s r) ≡ true = prefix_len_passes is_done s.slots (r - 1) no_slot (omega (arith, some, le)) in
      subst (λ o. HasItsWork IsWork o (option_map work_in held)) (sym here)
      (given (slot_of s r).change (slot_of s r).finished held done
      (λ h. let p = given_where.0 h in (p.1, p.2)) (λ h. given_where.1 ((some, omega (arith, some, le, few)), h.0, h.1)) is)

  -- what is said of the work is said of what holds it
  pub held_given : (o : Option Change) (held : Option X) → HasItsWork IsWork o (option_map work_in held) → HasItsWork (λ lang text x. IsWork lang text (work_in x)) o held
  held_given (Some (Put project path lang text)) (Some x) is = is
  held_given (Some (Put project path lang text)) None is = is
  held_given (Some (Drop project path)) (Some x) is = is
  held_given (Some (Drop project path)) None is = is
  held_given (Some (Gate project conditions)) (Some x) is = is
  held_given (Some (Gate project conditions)) None is = is
  held_given None (Some x) is = is
  held_given None None is = is

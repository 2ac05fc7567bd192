-- The works that a board gives.
use Rattle.std.proofs.Common.{◌≡◌, ℕ, ◌<◌, true, false, List, Option, Some, None, refl, sym, ap, ◌∙◌, subst, Bor, Global, arith}
use Rattle.std.specs.Prelude.{◌↔◌, IsSome, IfSome, MatchOption, is_some, option_copied}
use Rattle.std.specs.Arc.{arc_value}
use Rattle.std.specs.declared.sync.Arc.{Arc}
use Rattle.std.proofs.lemmas.Bool.{false≢true, true≢false}
use Rattle.std.proofs.lemmas.List.{length-map}
use Rattle.cq_base.specs.declared.change.Change.{Change}
use Rattle.cq_base.specs.declared.change.Change.TheVariants.{Put, Drop, Gate}
use Rattle.cq_base.specs.declared.lang.Lang.{Lang}
use Rattle.cq_history.specs.Changes.{is_put, IsWorkFor}
use Rattle.cq_history.specs.Gone.{IsKept}
use Rattle.cq_history.specs.State.{State, Slot, is_done}
use Rattle.cq_kept.specs.declared.kept.Kept.{Kept}
use Rattle.cq_kept.specs.declared.kept.Stored.{Stored}
use Rattle.cq_kept.specs.declared.kept.Stored.TheVariants as stored
use Rattle.cq_kept.specs.Slots.{slot_from, slot_at, change_of, changes_of, has_text, state_from, IsWorked}
use Rattle.cq_board.specs.Answers.{IsDonePut, IsKeptWork, IsWorkAt}
use Rattle.cq_board.proofs.SlotLists.{held_accepted}

-- above the floor no work of a put is let go of
pub work_above : {X : Type 0} (s : State) (r : ℕ) (held : Option X) → s.floor < r → IsSome held ↔ IsKeptWork s r → IsSome held ↔ IsDonePut s r
work_above s r held above is = (λ some. (is.0 some).0, λ done. is.1 (done, λ gone. let low = gone.within in omega (arith, low, above)))

-- and what is kept with its work is kept
pub accepted_held : (slots : List Slot) (published floor : ℕ) (views : List (Option ℕ)) (n : ℕ) → IsKeptWork (state_from slots published floor views) n → IsKept (changes_of slots) floor n
accepted_held slots published floor views n is = ((is.0.0.0, omega (arith, is.0.0.1, length-map slots (λ (s : Slot). s.change))), is.1)

module _ {W : Type 0} (IsWork : Lang → List ℕ → W → Type 0) where
  -- only a put has work
  put_worked : (c : Change) (work : Option (Arc W Global)) → IfSome work (λ w. IsWorkFor IsWork c (arc_value w)) → is_some work ≡ true → is_put c ≡ true
  put_worked c None is some = absurd (false≢true some)
  put_worked (Put project path lang text) (Some w) is some = refl
  put_worked (Drop project path) (Some w) is some = absurd is
  put_worked (Gate project conditions) (Some w) is some = absurd is

  if_made : (work : Option (Arc W Global)) (c : Stored) (P : Arc W Global → Type 0) → MatchOption work (has_text c ≡ true) P → IfSome work P
  if_made None c P is = tt
  if_made (Some w) c P is = is

  -- the work of what is kept, if it is there
  made : (k : Kept W) → IsWorked IsWork k → IfSome k.work (λ w. IsWorkFor IsWork (change_of k.change) (arc_value w))
  made k worked = if_made k.work k.change (λ w. IsWorkFor IsWork (change_of k.change) (arc_value w)) worked

  text_until : (c : Stored) (work : Option (Arc W Global)) (holder : Option ℕ) (P : Arc W Global → Type 0) → is_done (record { change = change_of c; finished = is_some work; holder = holder }) ≡ false → MatchOption work (has_text c ≡ true) P → has_text c ≡ true
  text_until (stored.Put file lang text) None holder P undone is = is
  text_until (stored.Put file lang text) (Some w) holder P undone is = absurd (true≢false undone)
  text_until (stored.Drop file) work holder P undone is = refl
  text_until (stored.Gate key conditions) work holder P undone is = refl

  -- the text of what is kept, until it is done
  pub text_there : (k : Kept W) → is_done (slot_from k) ≡ false → IsWorked IsWork k → has_text k.change ≡ true
  text_there k undone worked = text_until k.change k.work k.holder (λ w. IsWorkFor IsWork (change_of k.change) (arc_value w)) undone worked

  -- of a change that is kept the work is there where its slot is that of a done put
  pub kept_work : (slots : List Slot) (published floor : ℕ) (views : List (Option ℕ)) (n : ℕ) (k : Kept W) → slot_from k ≡ slot_at slots n → IsWorked IsWork k → IsKept (changes_of slots) floor n → IsSome k.work ↔ IsKeptWork (state_from slots published floor views) n
  kept_work slots published floor views n k slot worked held = (
    λ some. (
      (
        (held_accepted slots floor n held),
        ap (λ (s : Slot). is_put s.change) (sym slot) ∙ put_worked (change_of k.change) k.work (made k worked) some,
        ap (λ (s : Slot). s.finished) (sym slot) ∙ some,
      ),
      held.1,
    ),
    λ is. ap (λ (s : Slot). s.finished) slot ∙ is.0.2,
  )

  -- the work is that of the change with the number
  pub worked_at : (slots : List Slot) (published floor : ℕ) (views : List (Option ℕ)) (n : ℕ) (k : Kept W) → slot_from k ≡ slot_at slots n → IsWorked IsWork k → IfSome k.work (IsWorkAt IsWork (state_from slots published floor views) n)
  worked_at slots published floor views n k slot worked = subst (λ (c : Change). IfSome k.work (λ w. IsWorkFor IsWork c (arc_value w))) (ap (λ (s : Slot). s.change) slot) (made k worked)

-- what is lent of an option is there where it is, and is the same
module _ {X : Type 0} where
  pub lent_some : (r : Option (Bor X)) (o : Option X) → option_copied r ≡ o → is_some r ≡ is_some o
  lent_some None o is = ap is_some is
  lent_some (Some x) o is = ap is_some is

  pub lent_same : (P : X → Type 0) (r : Option (Bor X)) (o : Option X) → option_copied r ≡ o → IfSome o P → IfSome r (λ x. P x.now)
  lent_same P None o is holds = tt
  lent_same P (Some x) o is holds = subst (λ (p : Option X). IfSome p P) (sym is) holds

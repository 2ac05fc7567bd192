-- The numbers of the files' changes, after one change more.
use Rattle.std.proofs.Common.{◌≡◌, ◌≢◌, ◌⊎◌, ◌↔◌, ℕ, ◌+◌, ◌<◌, Bool, true, false, cond, List, [], ◌∷◌, ◌++◌, length, Some, refl, sym, ap, ap₂, ◌∙◌, subst, inl, inr, ⊎_elim, arith, true≢false}
use Rattle.std.specs.Prelude.{◌&&◌}
use Rattle.std.specs.Str.{bytes_eq}
use Rattle.std.proofs.lemmas.Slice.Eq.{bytes_eq-Decides}
use Rattle.std.proofs.lemmas.Bool.{false_from_ne_true}
use Rattle.cq_base.specs.declared.lang.Lang.{Lang}
use Rattle.cq_base.specs.declared.change.Condition.{Condition}
use Rattle.cq_base.specs.declared.change.Change.{Change}
use Rattle.cq_base.specs.declared.change.Change.TheVariants.{Put, Drop, Gate}
use Rattle.cq_history.specs.Changes.{change_at, is_of_file}
use Rattle.cq_history.specs.Files.{Source, files_of, with_file, without_file, place_of, number_at}
use Rattle.cq_history.specs.Standing.{Has, IsLastPut}
use Rattle.cq_history.proofs.PathOrder.{insert_has}
use Rattle.cq_history.proofs.Prefixes.{files_of_push}
use Rattle.cq_history.proofs.Standing.{still_last, was_last, files_stand}
use Rattle.cq_board.specs.Listings.{IsLive}
use Rattle.cq_kept.proofs.PutNumbers.{number_found, number_of, last_of, has_of}

-- ---- a change names a file

pub same_put : (q r p s : List ℕ) (a b : Lang) (x y : List ℕ) → Some (Put q p a x) ≡ Some (Put r s b y) → (q ≡ r) × (p ≡ s)
same_put q r p s a b x y e = (cc e, cc e)

and_true : (a b : Bool) → (a && b) ≡ true → (a ≡ true) × (b ≡ true)
and_true true b e = (refl, e)
and_true false b e = absurd (cc)

and_both : (a b : Bool) → a ≡ true → b ≡ true → (a && b) ≡ true
and_both true b e h = h
and_both false b e h = absurd (cc)

-- two files of one number stand at one place
pub one_place : (changes : List Change) (q r : List ℕ) (f g : Source) → IsLastPut changes q f → IsLastPut changes r g → f.number ≡ g.number → (q ≡ r) × (f.path ≡ g.path)
one_place changes q r f g is other same =
    same_put q r f.path g.path f.lang g.lang f.body g.body (sym is.put ∙ ap (change_at changes) same ∙ other.put)

module _ (changes : List Change) where
  -- the file that a change names is the one at its path
  named_number : (q project path : List ℕ) (f : Source) → Has (files_of q changes) f → (bytes_eq q project && bytes_eq f.path path) ≡ true → number_at path (files_of project changes) ≡ Some f.number
  named_number q project path f has named =
      let both = and_true (bytes_eq q project) (bytes_eq f.path path) named in
      let own : q ≡ project = (bytes_eq-Decides q project).0 both.0 in
      let here : f.path ≡ path = (bytes_eq-Decides f.path path).0 both.1 in
      ap₂ (λ p r. number_at p (files_of r changes)) (sym here) (sym own) ∙ number_of (files_of q changes) f (files_stand changes q).ordered has

  -- and no other has its number
  other_number : (q project path : List ℕ) (f : Source) (r : ℕ) → IsLastPut changes q f → f.number ≡ r → number_at path (files_of project changes) ≡ Some r → (bytes_eq q project && bytes_eq f.path path) ≡ true
  other_number q project path f r is number at =
      let (g, has, here, same) = number_found path (files_of project changes) r at in
      let place = one_place changes q project f g is (last_of changes project g has) (number ∙ sym same) in
      and_both (bytes_eq q project) (bytes_eq f.path path) ((bytes_eq-Decides q project).1 place.0) ((bytes_eq-Decides f.path path).1 (place.1 ∙ here))

  -- the number at a path is that of a file
  pub numbered_live : (project path : List ℕ) (r : ℕ) → number_at path (files_of project changes) ≡ Some r → IsLive changes r
  numbered_live project path r at = let (f, has, here, same) = number_found path (files_of project changes) r at in (project, f, has, same)

  -- no number is above the last
  pub live_within : (r : ℕ) → IsLive changes r → r < length changes + 1
  live_within r (q, f, has, is) = let a = (last_of changes q f has).accepted in omega (arith, a.1, is)

  module _ (c : Change) where
    longer : List Change
    longer = changes ++ c ∷ []

    -- what stood and is not named still stands
    stays : (q : List ℕ) (f : Source) (r : ℕ) → Has (files_of q changes) f → f.number ≡ r → is_of_file q f.path c ≡ false → IsLive (changes ++ c ∷ []) r
    stays q f r has is apart = (q, f, ((files_stand (changes ++ c ∷ []) q).each f).1 (still_last changes c q f (last_of changes q f has) apart), is)

    -- what stands stood and is not named, or the change put it
    stood : (r : ℕ) → IsLive (changes ++ c ∷ []) r → ((q : List ℕ) × (f : Source) × IsLastPut changes q f × (f.number ≡ r) × (is_of_file q f.path c ≡ false)) ⊎ ((r ≡ length changes + 1) × (q : List ℕ) × (f : Source) × (c ≡ Put q f.path f.lang f.body))
    stood r (q, f, has, is) =
        ⊎_elim
        (λ was. inl (q, f, was.0, is, was.1))
        (λ new. inr (sym is ∙ new.0, q, f, new.1))
        (was_last changes c q f (((files_stand (changes ++ c ∷ []) q).each f).0 has))

  pub live_put : (project path : List ℕ) (lang : Lang) (text : List ℕ) (r : ℕ) → IsLive (changes ++ Put project path lang text ∷ []) r ↔ ((r ≡ length changes + 1) ⊎ (IsLive changes r × (number_at path (files_of project changes) ≢ Some r)))
  live_put project path lang text r = (
    λ live. ⊎_elim
        (λ (q, f, is, number, apart). inr ((q, f, has_of changes q f is, number), λ at. true≢false (sym (other_number q project path f r is number at) ∙ apart)))
        (λ new. inl new.0)
        (stood c r live),
    λ either. ⊎_elim
        (λ number. (project, put, subst (λ fs. Has fs put) (sym after) (insert_has (without_file path (files_of project changes)) (place_of path (without_file path (files_of project changes))) put put (inl refl)), sym number))
        (λ ((q, f, has, number), other).
        stays c q f r has number (false_from_ne_true _ (λ named. other (named_number q project path f has named ∙ ap Some number))))
        either,
  )
    where
      c : Change
      c = Put project path lang text

      put : Source
      put = record { path = path; number = length changes + 1; lang = lang; body = text }

      after : files_of project (changes ++ Put project path lang text ∷ []) ≡ with_file put (files_of project changes)
      after = files_of_push project changes (Put project path lang text) ∙ ap (λ b. cond b (with_file put (files_of project changes)) (files_of project changes)) ((bytes_eq-Decides project project).1 refl)

  pub live_drop : (project path : List ℕ) (r : ℕ) → IsLive (changes ++ Drop project path ∷ []) r ↔ (IsLive changes r × (number_at path (files_of project changes) ≢ Some r))
  live_drop project path r = (
    λ live. ⊎_elim
        (λ (q, f, is, number, apart). ((q, f, has_of changes q f is, number), λ at. true≢false (sym (other_number q project path f r is number at) ∙ apart)))
        (λ (number, q, f, put). absurd (no_put put))
        (stood c r live),
    λ ((q, f, has, number), other). stays c q f r has number (false_from_ne_true _ (λ named. other (named_number q project path f has named ∙ ap Some number))),
  )
    where
      c : Change
      c = Drop project path

      no_put : {q p : List ℕ} {l : Lang} {t : List ℕ} → Drop project path ≡ Put q p l t → ⊥
      no_put e = cc e

  pub live_gate : (project : List ℕ) (conditions : List Condition) (r : ℕ) → IsLive (changes ++ Gate project conditions ∷ []) r ↔ IsLive changes r
  live_gate project conditions r = (
    λ live. ⊎_elim
        (λ (q, f, is, number, apart). (q, f, has_of changes q f is, number))
        (λ (number, q, f, put). absurd (no_put put))
        (stood c r live),
    λ (q, f, has, number). stays c q f r has number refl,
  )
    where
      c : Change
      c = Gate project conditions

      no_put : {q p : List ℕ} {l : Lang} {t : List ℕ} → Gate project conditions ≡ Put q p l t → ⊥
      no_put e = cc e

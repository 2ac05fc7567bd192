-- A listing with one change more.
use Rattle.std.proofs.Common.{◌≡◌, ◌≢◌, ◌⊎◌, ◌↔◌, ℕ, ◌+◌, ◌-◌, ◌<◌, ◌≤◌, true, false, cond, List, [], ◌∷◌, ◌++◌, length, take, map, get_or, Option, Some, refl, sym, ap, ap₂, ◌∙◌, subst, subst₂, inl, inr, ⊎_elim, arith}
use Rattle.std.specs.Prelude.{Contains}
use Rattle.std.specs.List.Sorted.{IsStrictlyIncreasing}
use Rattle.std.specs.Str.{bytes_eq}
use Rattle.std.specs.List.{prefix_len}
use Rattle.std.proofs.lemmas.List.{take_more, length-map, length-take-le, get_or-map}
use Rattle.std.proofs.lemmas.List.Sums.{prefix_len-le-length}
use Rattle.cq_base.specs.declared.lang.Lang.{Lang}
use Rattle.cq_base.specs.declared.change.Condition.{Condition}
use Rattle.cq_base.specs.declared.change.Change.{Change}
use Rattle.cq_base.specs.declared.change.Change.TheVariants.{Put, Drop, Gate}
use Rattle.cq_history.specs.Files.{File, Source, files_of, files_after, with_file, without_file, number_at}
use Rattle.cq_history.specs.Standing.{AreInPathOrder}
use Rattle.cq_history.specs.State.{Slot, no_slot, is_done}
use Rattle.cq_history.proofs.Prefixes.{files_of_push, conditions_from_push}
use Rattle.cq_history.proofs.Standing.{files_stand}
use Rattle.cq_board.specs.Related.{IsSameFile, AreSameFiles}
use Rattle.cq_kept.specs.Slots.{slot_at, changes_of}
use Rattle.cq_board.specs.Listings.{listed, IsListing}
use Rattle.cq_projects.specs.Projects.{name_in, path_of, files_in, conditions_in, ListedProject}
use Rattle.cq_projects.specs.Ordered.{AreRising}
use Rattle.cq_board.proofs.Living.{live_put, live_drop, live_gate}
use Rattle.cq_projects.proofs.OwnerLists.{rising_same}
use Rattle.cq_board.proofs.Related.{same_with, same_without}

next_files : (changes : List Change) (c : Change) (number : ℕ) (q : List ℕ) → length changes + 1 ≡ number → files_of q (changes ++ c ∷ []) ≡ files_after q number (files_of q changes) c
next_files changes c number q n = files_of_push q changes c ∙ ap (λ r. files_after q r (files_of q changes) c) n

in_order_rising : (files : List Source) → AreInPathOrder files → AreRising path_of files
in_order_rising [] order = tt
in_order_rising (f ∷ files) order = (order.0, in_order_rising files order.1)

module _ {X Y : Type 0} (Body : Lang → X → Y → Type 0) where
  same_paths : (xs : List (File X)) (ys : List (File Y)) → AreSameFiles Body xs ys → map path_of xs ≡ map path_of ys
  same_paths [] [] same = refl
  same_paths (x ∷ xs) (y ∷ ys) same = ap₂ (λ (p : List ℕ) (ps : List (List ℕ)). p ∷ ps) same.0.path (same_paths xs ys same.1)
  same_paths [] (y ∷ ys) same = absurd same
  same_paths (x ∷ xs) [] same = absurd same

  same_number : (p : List ℕ) (xs : List (File X)) (ys : List (File Y)) → AreSameFiles Body xs ys → number_at p xs ≡ number_at p ys
  same_number p [] [] same = refl
  same_number p (x ∷ xs) (y ∷ ys) same =
      ap₂ (λ q n. cond (bytes_eq p q) (Some n) (number_at p xs)) same.0.path same.0.number ∙ ap (cond (bytes_eq p y.path) (Some y.number)) (same_number p xs ys same.1)
  same_number p [] (y ∷ ys) same = absurd same
  same_number p (x ∷ xs) [] same = absurd same

module _ {W : Type 0} (IsWork : Lang → List ℕ → W → Type 0) (changes : List Change) (number : ℕ) (n : length changes + 1 ≡ number) (old : List (ListedProject W)) (live : List ℕ) (is : IsListing IsWork changes (listed old live)) where
  pub paths_rise : (q : List ℕ) → AreRising path_of (files_in old q)
  paths_rise q = rising_same path_of path_of (files_of q changes) (files_in old q) (same_paths IsWork (files_of q changes) (files_in old q) (is.files q)) (in_order_rising (files_of q changes) (files_stand changes q).ordered)

  pub number_here : (project path : List ℕ) → number_at path (files_in old project) ≡ number_at path (files_of project changes)
  number_here project path = sym (same_number IsWork path (files_of project changes) (files_in old project) (is.files project))

  module _ (new : List (ListedProject W)) (now : List ℕ) (names : AreRising name_in new) (rising : IsStrictlyIncreasing now) where
    pub advance_put : (project path : List ℕ) (lang : Lang) (text : List ℕ) (f : File W) (replaced : Option ℕ) →
        replaced ≡ number_at path (files_in old project) →
        ((r : ℕ) → Contains now r ↔ ((r ≡ number) ⊎ (Contains live r × (replaced ≢ Some r)))) →
        ((q : List ℕ) → files_in new q ≡ cond (bytes_eq q project) (with_file f (files_in old q)) (files_in old q)) → ((q : List ℕ) → conditions_in new q ≡ conditions_in old q) →
        IsSameFile IsWork (record { path = path; number = number; lang = lang; body = text }) f → IsListing IsWork (changes ++ Put project path lang text ∷ []) (listed new now)
    advance_put project path lang text f replaced which moved files conditions same =
        let source : Source = record { path = path; number = number; lang = lang; body = text } in
        let o = which ∙ number_here project path in
        record {
          names = names;
          files = λ q. subst₂ (AreSameFiles IsWork) (sym (next_files changes (Put project path lang text) number q n)) (sym (files q))
              (elim (bytes_eq q project) as (λ b. AreSameFiles IsWork (cond b (with_file source (files_of q changes)) (files_of q changes)) (cond b (with_file f (files_in old q)) (files_in old q)))
              [ true ↦ same_with IsWork (files_of q changes) (files_in old q) source f (is.files q) same | false ↦ is.files q ]);
          conditions = λ q. conditions q ∙ is.conditions q ∙ sym (conditions_from_push q [] changes (Put project path lang text));
          numbers = record {
            rising = rising;
            each = λ r.
                let law = live_put changes project path lang text r in (
                  λ here. law.1 (⊎_elim (λ e. inl (e ∙ sym n)) (λ h. inr ((is.numbers.each r).0 h.0, λ at. h.1 (o ∙ at))) ((moved r).0 here)),
                  λ lives. (moved r).1 (⊎_elim (λ e. inl (e ∙ n)) (λ h. inr ((is.numbers.each r).1 h.0, λ at. h.1 (sym o ∙ at))) (law.0 lives)),
                );
          };
        }

    pub advance_drop : (project path : List ℕ) (dropped : Option ℕ) →
        dropped ≡ number_at path (files_in old project) →
        ((r : ℕ) → Contains now r ↔ (Contains live r × (dropped ≢ Some r))) →
        ((q : List ℕ) → files_in new q ≡ cond (bytes_eq q project) (without_file path (files_in old q)) (files_in old q)) → ((q : List ℕ) → conditions_in new q ≡ conditions_in old q) →
        IsListing IsWork (changes ++ Drop project path ∷ []) (listed new now)
    advance_drop project path dropped which moved files conditions =
        let o = which ∙ number_here project path in
        record {
          names = names;
          files = λ q. subst₂ (AreSameFiles IsWork) (sym (next_files changes (Drop project path) number q n)) (sym (files q))
              (elim (bytes_eq q project) as (λ b. AreSameFiles IsWork (cond b (without_file path (files_of q changes)) (files_of q changes)) (cond b (without_file path (files_in old q)) (files_in old q)))
              [ true ↦ same_without IsWork path (files_of q changes) (files_in old q) (is.files q) | false ↦ is.files q ]);
          conditions = λ q. conditions q ∙ is.conditions q ∙ sym (conditions_from_push q [] changes (Drop project path));
          numbers = record {
            rising = rising;
            each = λ r.
                let law = live_drop changes project path r in (
                  λ here. let h = (moved r).0 here in law.1 ((is.numbers.each r).0 h.0, λ at. h.1 (o ∙ at)),
                  λ lives. let h = law.0 lives in (moved r).1 ((is.numbers.each r).1 h.0, λ at. h.1 (sym o ∙ at)),
                );
          };
        }

    pub advance_gate : (project : List ℕ) (cs : List Condition) → now ≡ live →
        ((q : List ℕ) → files_in new q ≡ files_in old q) → ((q : List ℕ) → conditions_in new q ≡ cond (bytes_eq q project) cs (conditions_in old q)) →
        IsListing IsWork (changes ++ Gate project cs ∷ []) (listed new now)
    advance_gate project cs same files conditions = record {
      names = names;
      files = λ q. subst₂ (AreSameFiles IsWork) (sym (next_files changes (Gate project cs) number q n)) (sym (files q)) (is.files q);
      conditions = λ q. conditions q ∙ ap (cond (bytes_eq q project) cs) (is.conditions q) ∙ sym (conditions_from_push q [] changes (Gate project cs));
      numbers = record {
        rising = rising;
        each = λ r.
            let law = live_gate changes project cs r in (
              λ here. law.1 ((is.numbers.each r).0 (subst (λ xs. Contains xs r) same here)),
              λ lives. subst (λ xs. Contains xs r) (sym same) ((is.numbers.each r).1 (law.0 lives)),
            );
      };
    }

-- the change that comes next
pub next_changes : (slots : List Slot) (r : ℕ) (c : Change) → r < length slots → c ≡ (slot_at slots (r + 1)).change → take (r + 1) (changes_of slots) ≡ take r (changes_of slots) ++ c ∷ []
next_changes slots r c within is =
    let same : length (changes_of slots) ≡ length slots = length-map slots (λ (s : Slot). s.change) in
    take_more (changes_of slots) r c (omega (arith, same, within))
    ∙ ap (λ (d : Change). take r (changes_of slots) ++ d ∷ [])
    (get_or-map (λ (s : Slot). s.change) slots r no_slot c within ∙ ap (λ n. (get_or slots n no_slot).change) (let e : r ≡ r + 1 - 1 = omega arith in e) ∙ sym is)

pub done_within : (slots : List Slot) (n v : ℕ) → n < v → v ≤ prefix_len is_done slots → n < length slots
done_within slots n v lt le = omega (arith, lt, le, prefix_len-le-length is_done slots)

pub length_before : (slots : List Slot) (n : ℕ) → n < length slots → length (take n (changes_of slots)) + 1 ≡ n + 1
length_before slots n lt =
    let few : length (changes_of slots) ≡ length slots = length-map slots (λ (s : Slot). s.change) in
    ap (λ k. k + 1) (length-take-le n (changes_of slots) (omega (arith, few, lt)))

-- Which changes may be taken, as they are taken, given back and done.
use Rattle.std.proofs.Common.{◌≡◌, ℕ, ◌+◌, ◌-◌, ◌<◌, ◌≤◌, Bool, true, false, not, List, [], ◌∷◌, ◌++◌, length, map, get_or, set, max, nat_eq, refl, sym, ap, ◌∙◌, subst, arith, ⊎_elim, is_none, length-set, ◌&&◌}
use Rattle.std.specs.Prelude.{All, AllPairs, Contains, Option, Some, None, IsSome, IfSome, OnSome, Result, Ok, Err, IsOk, OnOk}
use Rattle.std.specs.Ordering.{nat_cmp, is_lt}
use Rattle.std.specs.List.{list_any, position_or_len, prefix_len, range_with_len, AllByRecursion, IsDistinct}
use Rattle.std.specs.List.Sorted.{IsPermutation}
use Rattle.std.specs.Cmp.{unsigned_tied, nat_eq_equiv}
use Rattle.std.specs.BinaryHeap.{IsHeap, IsUpperBound, PopsGreatest, KeepsHeap, heap_items, heap_len}
use Rattle.std.specs.declared.cmp.Reverse.{Reverse}
use Rattle.std.proofs.lemmas.Bool.{cases_lt, cases_eq, or_cases, or_left, or_right, both_ways, false_from_ne_true, eq-eqb, ne_eqb}
use Rattle.std.proofs.Math.Nat.{le-max_left, max-le}
use Rattle.std.proofs.lemmas.Bool.Decides.{nat_tests, Decides-eqb}
use Rattle.std.proofs.lemmas.List.FromFn.{length-range_with_len, get_or-range_with_len}
use Rattle.std.proofs.lemmas.Map.Made.{length-le_from_is_member, is_member-Decides}
use Rattle.std.proofs.lemmas.List.{get_or_append_left, get_or_push, get_or-set_same, get_or-set_other, length_push, length-map, get_or_past, get_or_default}
use Rattle.std.proofs.lemmas.List.Sums.{position_or_len_is, fails_before_first, passes_at_first, prefix_len_passes, prefix_len-le-length}
use Rattle.std.proofs.lemmas.List.Sorted.{All-permutation, list_any-IsPermutation}
use Rattle.std.proofs.lemmas.List.Elements.{All-cons, All-tail, All-weaker, All-get_or, All-contains}
use Rattle.cq_base.proofs.Lists.{Contains-here, Contains-there, Contains-cases, Contains-nil, Contains-from_map, All-from_contains, AllPairs-head, AllPairs-tail, AllPairs-append}
use Rattle.cq_order.proofs.Sorting.{pairs_permuted}
use Rattle.cq_history.specs.State.{Slot, no_slot, is_free, is_done}
use Rattle.cq_board.specs.declared.free.FreeChanges.{FreeChanges}
use Rattle.cq_board.specs.Free.{least_first, is_index, was_given, IsNoneBefore, IsLoose, AreOthers, AreFree}
use Rattle.cq_board.proofs.Undoing.{same_index}

pub free_has_no_holder : (slot : Slot) → is_free slot ≡ true → is_none slot.holder ≡ true
free_has_no_holder slot h = second (not (is_done slot)) (is_none slot.holder) h
  where
    second : (a b : Bool) → (a && b) ≡ true → b ≡ true
    second true b e = e
    second false b e = absurd (cc)

pub held_is_not_free : (slot : Slot) → is_none slot.holder ≡ false → is_free slot ≡ false
held_is_not_free slot e = false_from_ne_true (is_free slot) (λ h. both_ways (is_none slot.holder) e (free_has_no_holder slot h))

not_below : (i k : ℕ) → is_lt (nat_cmp k i) ≡ false → i ≤ k
not_below i k h = grind (arith, nat_tests)

-- what is at the top is the least
pub least_given : (x : Reverse ℕ) (all : List (Reverse ℕ)) (k : ℕ) → IsUpperBound least_first x all → list_any (is_index k) all ≡ true → x.0 ≤ k
least_given x [] k least h = absurd (cc)
least_given x (y ∷ all) k least h =
    ⊎_elim
    (λ at. subst (λ n. x.0 ≤ n) (sym (same_index k y.0 at)) (not_below x.0 y.0 least.0))
    (λ later. least_given x all k least.1 later)
    (or_cases (is_index k y) (list_any (is_index k) all) h)

index_of : (x : Reverse ℕ) (k : ℕ) → k ≡ x.0 → is_index k x ≡ true
index_of x k e = unsigned_tied k x.0 ∙ eq-eqb k x.0 e

-- ---- numbers that differ

differs : (i : ℕ) (all : List (Reverse ℕ)) → ((given : Reverse ℕ) → Contains all given → i ≡ given.0 → ⊥) → AllByRecursion (λ n. nat_eq i n ≡ false) (map (λ (given : Reverse ℕ). given.0) all)
differs i [] other = tt
differs i (x ∷ all) other = (ne_eqb i x.0 (other x (Contains-here x all)), differs i all (λ given there. other given (Contains-there x given all there)))

distinct_items : (all : List (Reverse ℕ)) → AllPairs AreOthers all → IsDistinct nat_eq (map (λ (given : Reverse ℕ). given.0) all)
unfolding IsDistinct
distinct_items [] once = tt
distinct_items (x ∷ all) once = (differs x.0 all (λ given there. AllPairs-head AreOthers x given all once there), distinct_items all (AllPairs-tail AreOthers x all once))

distinct_numbers : (i : ℕ) (all : List (Reverse ℕ)) → ((given : Reverse ℕ) → Contains all given → i ≡ given.0 → ⊥) → AllPairs AreOthers all → IsDistinct nat_eq (i ∷ map (λ (given : Reverse ℕ). given.0) all)
unfolding IsDistinct
distinct_numbers i all other once = (differs i all other, distinct_items all once)

module _ (slots : List Slot) (floor : ℕ) (free : FreeChanges) (are : AreFree slots floor free) where
  pub top_is_first : (x : Reverse ℕ) → x.0 < free.untaken → IsUpperBound least_first x (heap_items free.given_back) → is_free (get_or slots x.0 no_slot) ≡ true → x.0 ≡ position_or_len is_free slots
  top_is_first x below least here =
      sym (position_or_len_is is_free slots x.0 no_slot (omega (arith, below, are.within))
      (λ k lt. false_from_ne_true _ (λ before. let le : x.0 ≤ k = least_given x (heap_items free.given_back) k least (are.given k (omega (arith, lt, below)) before) in omega (arith, le, lt)))
      (λ _. here))

  pub none_where_empty : heap_items free.given_back ≡ [] → IsNoneBefore slots free.untaken
  none_where_empty empty k lt =
      false_from_ne_true _ (λ there. both_ways (was_given free k) (ap (list_any (is_index k)) empty) (are.given k lt there))

  -- the change at the top, and those after it
  module _ (new : FreeChanges) (x : Reverse ℕ) (perm : IsPermutation (heap_items free.given_back) (x ∷ heap_items new.given_back)) where
    top_passed : All (λ given. floor ≤ given.0) (heap_items new.given_back)
    top_passed = All-tail (λ given. floor ≤ given.0) x (heap_items new.given_back) (All-permutation (λ given. floor ≤ given.0) (heap_items free.given_back) (x ∷ heap_items new.given_back) perm are.passed)

    all_once : AllPairs AreOthers (x ∷ heap_items new.given_back)
    all_once = pairs_permuted AreOthers (λ a b apart same. apart (sym same)) (heap_items free.given_back) (x ∷ heap_items new.given_back) perm are.once

    top_once : AllPairs AreOthers (heap_items new.given_back)
    top_once = AllPairs-tail AreOthers x (heap_items new.given_back) all_once

    top_loose : All (IsLoose slots) (heap_items new.given_back)
    top_loose = All-tail (IsLoose slots) x (heap_items new.given_back) (All-permutation (IsLoose slots) (heap_items free.given_back) (x ∷ heap_items new.given_back) perm are.loose)

  -- somebody has one that was not given back, so there is room for one more
  pub room_to_give : (i : ℕ) → floor ≤ i → i < length slots → is_none (get_or slots i no_slot).holder ≡ false → heap_len free.given_back < length slots - floor
  room_to_give i behind within taken =
      let numbers = i ∷ map (λ (given : Reverse ℕ). given.0) (heap_items free.given_back) in
      let range = range_with_len floor (length slots - floor) in
      let distinct : IsDistinct nat_eq numbers = distinct_numbers i (heap_items free.given_back) (λ given there same. both_ways (is_none (get_or slots i no_slot).holder) taken (ap (λ n. is_none (get_or slots n no_slot).holder) same ∙ All-contains (IsLoose slots) (heap_items free.given_back) given are.loose there)) are.once in
      let inside : (r : ℕ) → Contains numbers r → Contains range r =
      λ r there.
      ⊎_elim
      (λ (same : i ≡ r). in_range r (omega (arith, same, behind)) (omega (arith, same, within)))
      (λ later.
      let (given, has, is) = Contains-from_map (λ (given : Reverse ℕ). given.0) (heap_items free.given_back) r later in
      let low = All-contains (λ given. floor ≤ given.0) (heap_items free.given_back) given are.passed has in
      let high = All-contains (λ given. given.0 < free.untaken) (heap_items free.given_back) given are.below has in
      let most = are.within in
      in_range r (omega (arith, low, is)) (omega (arith, high, is, most)))
      (Contains-cases i r (map (λ (given : Reverse ℕ). given.0) (heap_items free.given_back)) there)
      in
      let few = length-le_from_is_member nat_eq_equiv numbers range distinct (λ r h. (is_member-Decides Decides-eqb range r).1 (inside r ((is_member-Decides Decides-eqb numbers r).0 h))) in
      let many = length-map (heap_items free.given_back) (λ (given : Reverse ℕ). given.0) in
      let long = length-range_with_len floor (length slots - floor) in
      omega (arith, few, many, long)
    where
      in_range : (r : ℕ) → floor ≤ r → r < length slots → Contains (range_with_len floor (length slots - floor)) r
      in_range r low high =
          let many = length-range_with_len floor (length slots - floor) in
          let is = get_or-range_with_len floor (length slots - floor) (r - floor) r (omega (arith, low, high)) in
          (r - floor, omega (arith, low, high, many), is ∙ (let e : floor + (r - floor) ≡ r = omega (arith, low) in e))

  -- ---- a slot that somebody took
  module _ (i : ℕ) (slot : Slot) (within : i < length slots) where
    here : get_or (set slots i slot) i no_slot ≡ slot
    here = get_or-set_same slots i slot no_slot within

    there : (k : ℕ) → (k ≡ i → ⊥) → get_or (set slots i slot) k no_slot ≡ get_or slots k no_slot
    there k other = get_or-set_other slots i k slot no_slot other

    -- where it was given back before
    pub taken_given : (new : FreeChanges) (x : Reverse ℕ) → x.0 ≡ i → i < free.untaken → is_none slot.holder ≡ false → is_none (get_or slots i no_slot).holder ≡ true →
        new.untaken ≡ free.untaken → IsPermutation (heap_items free.given_back) (x ∷ heap_items new.given_back) → IsHeap least_first (heap_items new.given_back) → heap_len new.given_back + 1 ≡ heap_len free.given_back →
        AreFree (set slots i slot) floor new
    taken_given new x top before taken untaken same perm heap shorter = record {
      heap = heap;
      below = subst (λ n. All (λ given. given.0 < n) (heap_items new.given_back)) (sym same) (All-tail (λ given. given.0 < free.untaken) x (heap_items new.given_back) (All-permutation (λ given. given.0 < free.untaken) (heap_items free.given_back) (x ∷ heap_items new.given_back) perm are.below));
      given = λ k lt can.
          ⊎_elim
          (λ (e : k ≡ i). absurd (both_ways (is_free slot) (held_is_not_free slot taken) (ap is_free (sym here) ∙ ap (λ n. is_free (get_or (set slots i slot) n no_slot)) (sym e) ∙ can)))
          (λ (other : k ≡ i → ⊥).
          ⊎_elim
          (λ at. absurd (other (same_index k x.0 at ∙ top)))
          (λ later. later)
          (or_cases (is_index k x) (was_given new k) (sym (list_any-IsPermutation (is_index k) (heap_items free.given_back) (x ∷ heap_items new.given_back) perm) ∙ are.given k (omega (arith, lt, same)) (ap is_free (sym (there k other)) ∙ can))))
          (cases_eq k i);
      untaken = λ k le. ap (λ (s : Slot). is_none s.holder) (there k (λ e. omega (arith, e, le, before, same))) ∙ are.untaken k (omega (arith, le, same));
      within = omega (arith, same, are.within, length-set slots i slot);
      passed = top_passed new x perm;
      once = top_once new x perm;
      loose = All-from_contains (IsLoose (set slots i slot)) (heap_items new.given_back) (λ given has.
          ap (λ (s : Slot). is_none s.holder) (there given.0 (λ e. AllPairs-head AreOthers x given (heap_items new.given_back) (all_once new x perm) has (top ∙ sym e)))
          ∙ All-contains (IsLoose slots) (heap_items new.given_back) given (top_loose new x perm) has);
    }

    -- where nobody took it before, and it is the first
    pub taken_first : (new : FreeChanges) → free.untaken ≤ i → i ≡ position_or_len is_free slots → is_none slot.holder ≡ false →
        new.given_back ≡ free.given_back → new.untaken ≡ i + 1 →
        AreFree (set slots i slot) floor new
    taken_first new behind first taken same next = record {
      heap = subst (λ b. IsHeap least_first (heap_items b)) (sym same) are.heap;
      below = subst (λ b. All (λ given. given.0 < new.untaken) (heap_items b)) (sym same)
          (All-weaker (λ given. given.0 < free.untaken) (λ given. given.0 < new.untaken) (λ given lt. omega (arith, lt, behind, next)) (heap_items free.given_back) are.below);
      given = λ k lt can.
          ⊎_elim
          (λ (e : k ≡ i). absurd (both_ways (is_free slot) (held_is_not_free slot taken) (ap is_free (sym here) ∙ ap (λ n. is_free (get_or (set slots i slot) n no_slot)) (sym e) ∙ can)))
          (λ (other : k ≡ i → ⊥).
          absurd (both_ways (is_free (get_or slots k no_slot)) (fails_before_first is_free slots k no_slot (omega (arith, lt, next, other, first))) (ap is_free (sym (there k other)) ∙ can)))
          (cases_eq k i);
      untaken = λ k le. ap (λ (s : Slot). is_none s.holder) (there k (λ e. omega (arith, e, le, next))) ∙ are.untaken k (omega (arith, le, next, behind));
      within = omega (arith, next, within, length-set slots i slot);
      passed = subst (λ b. All (λ given. floor ≤ given.0) (heap_items b)) (sym same) are.passed;
      once = subst (λ b. AllPairs AreOthers (heap_items b)) (sym same) are.once;
      loose = subst (λ b. All (IsLoose (set slots i slot)) (heap_items b)) (sym same)
          (All-from_contains (IsLoose (set slots i slot)) (heap_items free.given_back) (λ given has.
          let low = All-contains (λ given. given.0 < free.untaken) (heap_items free.given_back) given are.below has in
          ap (λ (s : Slot). is_none s.holder) (there given.0 (λ e. omega (arith, e, low, behind))) ∙ All-contains (IsLoose slots) (heap_items free.given_back) given are.loose has));
    }

    -- ---- a slot that was given back
    pub given_one : (new : FreeChanges) (x : Reverse ℕ) → x.0 ≡ i → floor ≤ i → is_none (get_or slots i no_slot).holder ≡ false → is_none slot.holder ≡ true →
        new.untaken ≡ free.untaken → IsPermutation (x ∷ heap_items free.given_back) (heap_items new.given_back) → IsHeap least_first (heap_items new.given_back) → heap_len new.given_back ≡ heap_len free.given_back + 1 →
        AreFree (set slots i slot) floor new
    given_one new x is behind taken let_go same perm heap longer =
        let before : i < free.untaken = ⊎_elim (λ (lt : i < free.untaken). lt) (λ le. absurd (both_ways (is_none (get_or slots i no_slot).holder) taken (are.untaken i le))) (cases_lt i free.untaken) in
        let is_among = λ (k : ℕ). list_any-IsPermutation (is_index k) (x ∷ heap_items free.given_back) (heap_items new.given_back) perm in
        record {
          heap = heap;
          below = subst (λ n. All (λ given. given.0 < n) (heap_items new.given_back)) (sym same)
              (All-permutation (λ given. given.0 < free.untaken) (x ∷ heap_items free.given_back) (heap_items new.given_back) perm (All-cons (λ given. given.0 < free.untaken) x (heap_items free.given_back) (omega (arith, is, before)) are.below));
          given = λ k lt can.
              ⊎_elim
              (λ (e : k ≡ i). sym (is_among k) ∙ or_left (is_index k x) (was_given free k) (index_of x k (e ∙ sym is)))
              (λ (other : k ≡ i → ⊥). sym (is_among k) ∙ or_right (is_index k x) (was_given free k) (are.given k (omega (arith, lt, same)) (ap is_free (sym (there k other)) ∙ can)))
              (cases_eq k i);
          untaken = λ k le. ap (λ (s : Slot). is_none s.holder) (there k (λ e. omega (arith, e, le, before, same))) ∙ are.untaken k (omega (arith, le, same));
          within = omega (arith, same, are.within, length-set slots i slot);
          passed = All-permutation (λ given. floor ≤ given.0) (x ∷ heap_items free.given_back) (heap_items new.given_back) perm (All-cons (λ given. floor ≤ given.0) x (heap_items free.given_back) (omega (arith, is, behind)) are.passed);
          once = pairs_permuted AreOthers (λ a b apart same. apart (sym same)) (x ∷ heap_items free.given_back) (heap_items new.given_back) perm
              (AllPairs-append AreOthers (x ∷ []) (heap_items free.given_back) (λ a b d lt inside. absurd (omega (arith, lt, inside))) are.once (λ a b first has.
              let here : x ≡ a = ⊎_elim (λ e. e) (λ none. absurd (Contains-nil a none)) (Contains-cases x a [] first) in
              λ same. both_ways (is_none (get_or slots i no_slot).holder) taken (ap (λ n. is_none (get_or slots n no_slot).holder) (sym is ∙ ap (λ (z : Reverse ℕ). z.0) here ∙ same) ∙ All-contains (IsLoose slots) (heap_items free.given_back) b are.loose has)));
          loose = All-permutation (IsLoose (set slots i slot)) (x ∷ heap_items free.given_back) (heap_items new.given_back) perm
              (All-cons (IsLoose (set slots i slot)) x (heap_items free.given_back) (ap (λ n. is_none (get_or (set slots i slot) n no_slot).holder) is ∙ ap (λ (s : Slot). is_none s.holder) here ∙ let_go)
              (All-from_contains (IsLoose (set slots i slot)) (heap_items free.given_back) (λ given has.
              let loose = All-contains (IsLoose slots) (heap_items free.given_back) given are.loose has in
              ap (λ (s : Slot). is_none s.holder) (there given.0 (λ e. both_ways (is_none (get_or slots i no_slot).holder) taken (ap (λ n. is_none (get_or slots n no_slot).holder) (sym e) ∙ loose))) ∙ loose)));
        }

    -- ---- a slot that is done, with whom it has
    pub done_free : is_none slot.holder ≡ is_none (get_or slots i no_slot).holder → is_free slot ≡ false → AreFree (set slots i slot) floor free
    done_free same done =
        record {
          heap = are.heap;
          below = are.below;
          given = λ k lt can.
              ⊎_elim
              (λ (e : k ≡ i). absurd (both_ways (is_free slot) done (ap is_free (sym here) ∙ ap (λ n. is_free (get_or (set slots i slot) n no_slot)) (sym e) ∙ can)))
              (λ (other : k ≡ i → ⊥). are.given k lt (ap is_free (sym (there k other)) ∙ can))
              (cases_eq k i);
          untaken = λ k le.
              ⊎_elim
              (λ (e : k ≡ i). ap (λ n. is_none (get_or (set slots i slot) n no_slot).holder) e ∙ ap (λ (s : Slot). is_none s.holder) here ∙ same ∙ are.untaken i (omega (arith, e, le)))
              (λ (other : k ≡ i → ⊥). ap (λ (s : Slot). is_none s.holder) (there k other) ∙ are.untaken k le)
              (cases_eq k i);
          within = omega (arith, are.within, length-set slots i slot);
          passed = are.passed;
          once = are.once;
          loose = All-from_contains (IsLoose (set slots i slot)) (heap_items free.given_back) (λ given has.
              let loose = All-contains (IsLoose slots) (heap_items free.given_back) given are.loose has in
              ⊎_elim
              (λ (e : given.0 ≡ i). ap (λ n. is_none (get_or (set slots i slot) n no_slot).holder) e ∙ ap (λ (s : Slot). is_none s.holder) here ∙ same ∙ ap (λ n. is_none (get_or slots n no_slot).holder) (sym e) ∙ loose)
              (λ (other : given.0 ≡ i → ⊥). ap (λ (s : Slot). is_none s.holder) (there given.0 other) ∙ loose)
              (cases_eq given.0 i));
        }

  -- ---- one that can't be taken is forgotten
  pub forgotten : (new : FreeChanges) (x : Reverse ℕ) → is_free (get_or slots x.0 no_slot) ≡ false →
      new.untaken ≡ free.untaken → IsPermutation (heap_items free.given_back) (x ∷ heap_items new.given_back) → IsHeap least_first (heap_items new.given_back) → heap_len new.given_back + 1 ≡ heap_len free.given_back →
      AreFree slots floor new
  forgotten new x done same perm heap shorter = record {
    heap = heap;
    below = subst (λ n. All (λ given. given.0 < n) (heap_items new.given_back)) (sym same) (All-tail (λ given. given.0 < free.untaken) x (heap_items new.given_back) (All-permutation (λ given. given.0 < free.untaken) (heap_items free.given_back) (x ∷ heap_items new.given_back) perm are.below));
    given = λ k lt can.
        ⊎_elim
        (λ at. absurd (both_ways (is_free (get_or slots k no_slot)) (ap (λ n. is_free (get_or slots n no_slot)) (same_index k x.0 at) ∙ done) can))
        (λ later. later)
        (or_cases (is_index k x) (was_given new k) (sym (list_any-IsPermutation (is_index k) (heap_items free.given_back) (x ∷ heap_items new.given_back) perm) ∙ are.given k (omega (arith, lt, same)) can));
    untaken = λ k le. are.untaken k (omega (arith, le, same));
    within = omega (arith, same, are.within);
    passed = top_passed new x perm;
    once = top_once new x perm;
    loose = top_loose new x perm;
  }

  -- ---- one slot more, which nobody has
  pub one_more_free : (slot : Slot) → is_none slot.holder ≡ true → AreFree (slots ++ slot ∷ []) floor free
  one_more_free slot nobody = record {
    heap = are.heap;
    below = are.below;
    given = λ k lt can. are.given k lt (ap is_free (sym (get_or_append_left slots (slot ∷ []) no_slot k (omega (arith, lt, are.within)))) ∙ can);
    untaken = λ k le.
        ⊎_elim
        (λ (lt : k < length slots). ap (λ (s : Slot). is_none s.holder) (get_or_append_left slots (slot ∷ []) no_slot k lt) ∙ are.untaken k le)
        (λ (past : length slots ≤ k).
        ⊎_elim
        (λ (e : k ≡ length slots). ap (λ n. is_none (get_or (slots ++ slot ∷ []) n no_slot).holder) e ∙ ap (λ (s : Slot). is_none s.holder) (get_or_push slots slot no_slot (length slots) refl) ∙ nobody)
        (λ (other : k ≡ length slots → ⊥). ap (λ (s : Slot). is_none s.holder) (get_or_past (slots ++ slot ∷ []) k no_slot (omega (arith, past, other, length_push slots slot))))
        (cases_eq k (length slots)))
        (cases_lt k (length slots));
    within = omega (arith, are.within, length_push slots slot);
    passed = are.passed;
    once = are.once;
    loose = All-from_contains (IsLoose (slots ++ slot ∷ [])) (heap_items free.given_back) (λ given has.
        let low = All-contains (λ given. given.0 < free.untaken) (heap_items free.given_back) given are.below has in
        let most = are.within in
        ap (λ (s : Slot). is_none s.holder) (get_or_append_left slots (slot ∷ []) no_slot given.0 (omega (arith, low, most))) ∙ All-contains (IsLoose slots) (heap_items free.given_back) given are.loose has);
  }

  -- ---- a higher floor, where all that are left are after it

  pub higher_free : (high : ℕ) (new : FreeChanges) → floor ≤ high → high ≤ prefix_len is_done slots → new.given_back ≡ free.given_back → new.untaken ≡ max free.untaken high → All (λ given. high ≤ given.0) (heap_items free.given_back) → AreFree slots high new
  higher_free high new low done same until behind =
      let most = prefix_len-le-length is_done slots in
      record {
        heap = subst (λ b. IsHeap least_first (heap_items b)) (sym same) are.heap;
        below = subst (λ b. All (λ given. given.0 < new.untaken) (heap_items b)) (sym same)
            (All-weaker (λ given. given.0 < free.untaken) (λ given. given.0 < new.untaken) (λ given lt. omega (arith, lt, until, le-max_left free.untaken high)) (heap_items free.given_back) are.below);
        given = λ k lt can.
            ⊎_elim
            (λ (early : k < high). absurd (both_ways (is_free (get_or slots k no_slot)) (done_not_free k (omega (arith, early, done))) can))
            (λ (late : high ≤ k). ap (λ b. list_any (is_index k) (heap_items b)) same ∙ are.given k (⊎_elim (λ h. h) (λ (past : free.untaken ≤ k). let both : max free.untaken high ≤ k = max-le past late in absurd (omega (arith, lt, until, both))) (cases_lt k free.untaken)) can)
            (cases_lt k high);
        untaken = λ k le. are.untaken k (omega (arith, le, until, le-max_left free.untaken high));
        within = (let both : max free.untaken high ≤ length slots = max-le are.within (omega (arith, done, most)) in omega (arith, until, both));
        passed = subst (λ b. All (λ given. high ≤ given.0) (heap_items b)) (sym same) behind;
        once = subst (λ b. AllPairs AreOthers (heap_items b)) (sym same) are.once;
        loose = subst (λ b. All (IsLoose slots) (heap_items b)) (sym same) are.loose;
      }
    where
      done_not_free : (k : ℕ) → k < prefix_len is_done slots → is_free (get_or slots k no_slot) ≡ false
      done_not_free k lt = ap (λ b. not b && is_none (get_or slots k no_slot).holder) (prefix_len_passes is_done slots k no_slot lt)

-- the first one that may be taken may be taken
pub first_can : (slots : List Slot) (i : ℕ) → i ≡ position_or_len is_free slots → i < length slots → is_free (get_or slots i no_slot) ≡ true
first_can slots i first within = ap (λ n. is_free (get_or slots n no_slot)) first ∙ passes_at_first is_free slots no_slot (omega (arith, first, within))

-- what is at the top is of a change that was taken before
pub top_below : (slots : List Slot) (floor : ℕ) (free : FreeChanges) → AreFree slots floor free → (x : Reverse ℕ) → x ≡ get_or (heap_items free.given_back) 0 x → 0 < length (heap_items free.given_back) → x.0 < free.untaken
top_below slots floor free are x top some = subst (λ (y : Reverse ℕ). y.0 < free.untaken) (sym top) (All-get_or (λ given. given.0 < free.untaken) (heap_items free.given_back) 0 x some are.below)

-- and above the floor
pub top_behind : (slots : List Slot) (floor : ℕ) (free : FreeChanges) → AreFree slots floor free → (x : Reverse ℕ) → x ≡ get_or (heap_items free.given_back) 0 x → 0 < length (heap_items free.given_back) → floor ≤ x.0
top_behind slots floor free are x top some = subst (λ (y : Reverse ℕ). floor ≤ y.0) (sym top) (All-get_or (λ given. floor ≤ given.0) (heap_items free.given_back) 0 x some are.passed)

-- where the least is after a place, all are
pub all_behind : (high : ℕ) (x : Reverse ℕ) (all : List (Reverse ℕ)) → IsUpperBound least_first x all → high ≤ x.0 → All (λ given. high ≤ given.0) all
all_behind high x all least le = All-from_contains (λ given. high ≤ given.0) all (λ given has. let low = least_of x all given least has in omega (arith, low, le))
  where
    least_of : (x : Reverse ℕ) (all : List (Reverse ℕ)) (given : Reverse ℕ) → IsUpperBound least_first x all → Contains all given → x.0 ≤ given.0
    least_of x [] given least has = absurd (Contains-nil given has)
    least_of x (y ∷ all) given least has =
        ⊎_elim (λ (same : y ≡ given). subst (λ (z : Reverse ℕ). x.0 ≤ z.0) same (not_below x.0 y.0 least.0)) (λ later. least_of x all given least.1 later) (Contains-cases y given all has)

-- a heap of which the top was taken is one
pub heap_popped : (free new : FreeChanges) (popped : Option (Reverse ℕ)) → IsSome popped → IfSome popped (λ y. PopsGreatest least_first (heap_items free.given_back) y (heap_items new.given_back)) → IsHeap least_first (heap_items free.given_back) → IsHeap least_first (heap_items new.given_back)
heap_popped free new None some order is = absurd (cc)
heap_popped free new (Some y) some order is = (order is).0

pub none_left : (high : ℕ) (all : List (Reverse ℕ)) → length all ≡ 0 → All (λ given. high ≤ given.0) all
none_left high all none k d within = absurd (omega (arith, none, within))

-- what is at the top and can't be taken is forgotten
pub top_forgotten : (slots : List Slot) (floor : ℕ) (free : FreeChanges) → AreFree slots floor free → (new : FreeChanges) (x : Reverse ℕ) → x ≡ get_or (heap_items free.given_back) 0 x → 0 < length (heap_items free.given_back) → is_free (get_or slots x.0 no_slot) ≡ false → new.untaken ≡ free.untaken →
    (popped : Option (Reverse ℕ)) → IsSome popped → IfSome popped (λ y. y ≡ get_or (heap_items free.given_back) 0 y) → IfSome popped (λ y. IsPermutation (heap_items free.given_back) (y ∷ heap_items new.given_back)) →
    IfSome popped (λ y. PopsGreatest least_first (heap_items free.given_back) y (heap_items new.given_back)) → OnSome popped (heap_len new.given_back + 1 ≡ heap_len free.given_back) → AreFree slots floor new
top_forgotten slots floor free are new x top some done same None some_popped is perm heap shorter = absurd (cc)
top_forgotten slots floor free are new x top some done same (Some y) some_popped is perm heap shorter =
    let one : y ≡ x = is ∙ get_or_default (heap_items free.given_back) 0 y x some ∙ sym top in
    forgotten slots floor free are new y (ap (λ (z : Reverse ℕ). is_free (get_or slots z.0 no_slot)) one ∙ done) same perm (heap are.heap).0 shorter

-- one is given back where there is room
pub pushed_one : (slots : List Slot) (floor : ℕ) (free : FreeChanges) → AreFree slots floor free → (i : ℕ) (slot : Slot) → i < length slots → (new : FreeChanges) (x : Reverse ℕ) → x.0 ≡ i → floor ≤ i → is_none (get_or slots i no_slot).holder ≡ false → is_none slot.holder ≡ true → new.untaken ≡ free.untaken →
    {T E : Type 0} → (pushed : Result T E) → IsOk pushed → OnOk pushed (IsPermutation (x ∷ heap_items free.given_back) (heap_items new.given_back)) → OnOk pushed (KeepsHeap least_first (heap_items free.given_back) (heap_items new.given_back)) →
    OnOk pushed (heap_len new.given_back ≡ heap_len free.given_back + 1) → AreFree (set slots i slot) floor new
pushed_one slots floor free are i slot within new x is behind taken let_go same (Ok t) ok perm keeps longer = given_one slots floor free are i slot within new x is behind taken let_go same perm (keeps are.heap) longer
pushed_one slots floor free are i slot within new x is behind taken let_go same (Err e) ok perm keeps longer = absurd (cc)

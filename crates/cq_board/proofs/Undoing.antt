-- The changes that are not done, by the set of their indexes.
use Rattle.std.proofs.Common.{◌≡◌, ℕ, ◌+◌, ◌<◌, ◌≤◌, Bool, true, false, not, cond, List, [], ◌∷◌, ◌++◌, length, length-append, get_or, set, refl, sym, ap, ap₂, ◌∙◌, subst, arith, ⊎_elim}
use Rattle.std.specs.Prelude.{IsTrue, is_none}
use Rattle.std.specs.Ordering.{nat_cmp}
use Rattle.std.specs.Cmp.{unsigned_tied}
use Rattle.std.specs.declared.cmp.Ordering.TheVariants.{Less}
use Rattle.std.specs.List.{prefix_len, position_or_len, list_any, AllByRecursion}
use Rattle.std.specs.List.Sorted.{IsStrictlySortedBy}
use Rattle.std.specs.declared.ops.Bound.TheVariants.{Included, Unbounded}
use Rattle.std.specs.BTreeMap.{is_at}
use Rattle.std.specs.BTreeMap.Range.{range_contains}
use Rattle.std.specs.BTreeSet.{BTreeSet, contains, keys_between, IsOrdered, IsLowerBound}
use Rattle.std.proofs.Math.ListN.{get_or-append}
use Rattle.std.proofs.Math.Seq.{get_or-append_seam}
use Rattle.std.proofs.lemmas.Bool.{cases_lt, cases_eq, or_cases, or_left, and_parts, and_from, not-true, not-false, eqb-true, eq-eqb, ne_eqb, cond-true, cond-false, false_from_ne_true, both_ways, not_from_true}
use Rattle.std.proofs.lemmas.Bool.Decides.{nat_tests}
use Rattle.std.proofs.lemmas.List.{nil_from_length, get_or_past, get_or-set_same, get_or-set_other}
use Rattle.std.proofs.lemmas.List.Sums.{prefix_len_is, position_or_len_is}
use Rattle.std.proofs.lemmas.Map.Keys.{sorted_head, le_from_not_gt}
use Rattle.std.proofs.lemmas.Map.Views.{any-filter_same}
use Rattle.std.proofs.lemmas.List.Kept.{IsStrictlySortedBy-filter}
use Rattle.cq_history.specs.State.{Slot, no_slot, is_done, is_free}
use Rattle.cq_board.specs.Undone.{is_undone, AreUndone}

-- what is one thing at an index and another elsewhere
by_index : {A : Type 0} (k i : ℕ) (x y z : A) → (k ≡ i → z ≡ x) → ((k ≡ i → ⊥) → z ≡ y) → z ≡ cond (is_at (nat_cmp k) i) x y
by_index k i x y z here there =
    ⊎_elim
    (λ (e : k ≡ i). here e ∙ sym (cond-true (is_at (nat_cmp k) i) x y (unsigned_tied k i ∙ eq-eqb k i e)))
    (λ (ne : k ≡ i → ⊥). there ne ∙ sym (cond-false (is_at (nat_cmp k) i) x y (unsigned_tied k i ∙ ne_eqb k i ne)))
    (cases_eq k i)

is_undone-past : (slots : List Slot) (i : ℕ) → length slots ≤ i → is_undone slots i ≡ false
is_undone-past slots i past = ap (λ (s : Slot). not (is_done s)) (get_or_past slots i no_slot past)

pub undone_within : (slots : List Slot) (i : ℕ) → is_undone slots i ≡ true → i < length slots
undone_within slots i h = ⊎_elim (λ (lt : i < length slots). lt) (λ past. absurd (both_ways (is_undone slots i) (is_undone-past slots i past) h)) (cases_lt i (length slots))

is_undone-set : (slots : List Slot) (k : ℕ) (slot : Slot) (i : ℕ) → k < length slots → is_undone (set slots k slot) i ≡ cond (is_at (nat_cmp k) i) (not (is_done slot)) (is_undone slots i)
is_undone-set slots k slot i within =
    by_index k i (not (is_done slot)) (is_undone slots i) (is_undone (set slots k slot) i)
    (λ here. ap (λ n. is_undone (set slots k slot) n) (sym here) ∙ ap (λ (s : Slot). not (is_done s)) (get_or-set_same slots k slot no_slot within))
    (λ elsewhere. ap (λ (s : Slot). not (is_done s)) (get_or-set_other slots k i slot no_slot (λ e. elsewhere (sym e))))

-- ---- how many are done at the front

module _ (slots : List Slot) (undone : BTreeSet ℕ) (are : AreUndone slots undone) where
  done_where_absent : (i : ℕ) → contains nat_cmp undone i ≡ false → is_done (get_or slots i no_slot) ≡ true
  done_where_absent i none = not-false _ (sym (are i) ∙ none)

  pub first_is_ready : (i : ℕ) → IsTrue (contains nat_cmp undone i) → IsLowerBound nat_cmp undone i → i ≡ prefix_len is_done slots
  first_is_ready i member least =
      let is : is_undone slots i ≡ true = sym (are i) ∙ member in
      let within : i < length slots = undone_within slots i is in
      sym (prefix_len_is is_done slots i no_slot (omega (arith, within))
      (λ k lt. done_where_absent k (false_from_ne_true (contains nat_cmp undone k) (λ there. let le : i ≤ k = le_from_not_gt i k (least k there) in omega (arith, le, lt))))
      (λ _. not-true _ is))

  pub all_are_ready : length undone.keys ≡ 0 → length slots ≡ prefix_len is_done slots
  all_are_ready none =
      sym (prefix_len_is is_done slots (length slots) no_slot (omega arith) (λ k _. done_where_absent k (ap (list_any (is_at (nat_cmp k))) (nil_from_length undone.keys none))) (λ past. absurd (omega (arith, past))))

  -- ---- another slot in place of one

  pub undone-set_done : (k : ℕ) (slot : Slot) (new : BTreeSet ℕ) → k < length slots → is_done slot ≡ true → ((i : ℕ) → contains nat_cmp new i ≡ cond (is_at (nat_cmp k) i) false (contains nat_cmp undone i)) → AreUndone (set slots k slot) new
  undone-set_done k slot new within done updates i =
      updates i ∙ ap₂ (λ x y. cond (is_at (nat_cmp k) i) x y) (sym (not_from_true _ done)) (are i) ∙ sym (is_undone-set slots k slot i within)

  pub undone-set_same : (k : ℕ) (slot : Slot) → k < length slots → is_done slot ≡ is_done (get_or slots k no_slot) → AreUndone (set slots k slot) undone
  undone-set_same k slot within same i =
      are i
      ∙ by_index k i (not (is_done slot)) (is_undone slots i) (is_undone slots i)
      (λ here. ap (is_undone slots) (sym here) ∙ ap not (sym same)) (λ _. refl)
      ∙ sym (is_undone-set slots k slot i within)

-- ---- one change more

is_undone-push : (slots : List Slot) (slot : Slot) (i : ℕ) → is_undone (slots ++ slot ∷ []) i ≡ cond (is_at (nat_cmp (length slots)) i) (not (is_done slot)) (is_undone slots i)
is_undone-push slots slot i =
    by_index (length slots) i (not (is_done slot)) (is_undone slots i) (is_undone (slots ++ slot ∷ []) i)
    (λ here. ap (is_undone (slots ++ slot ∷ [])) (sym here) ∙ ap (λ (s : Slot). not (is_done s)) (get_or-append_seam slots slot [] no_slot))
    (λ elsewhere.
    ⊎_elim
    (λ (lt : i < length slots). ap (λ (s : Slot). not (is_done s)) (get_or-append slots (slot ∷ []) no_slot i lt))
    (λ (ge : length slots ≤ i).
    let past : length slots + 1 ≤ i = ⊎_elim (λ (lt : length slots < i). omega (arith, lt)) (λ le. absurd (elsewhere (omega (arith, ge, le)))) (cases_lt (length slots) i) in
    is_undone-past (slots ++ slot ∷ []) i (omega (arith, past, length-append slots (slot ∷ []))) ∙ sym (is_undone-past slots i ge))
    (cases_lt i (length slots)))

-- it is not done, and its index is among them
pub undone-push_put : (slots : List Slot) (undone new : BTreeSet ℕ) → AreUndone slots undone → (slot : Slot) → is_done slot ≡ false → ((i : ℕ) → contains nat_cmp new i ≡ cond (is_at (nat_cmp (length slots)) i) true (contains nat_cmp undone i)) → AreUndone (slots ++ slot ∷ []) new
undone-push_put slots undone new are slot waiting updates i = updates i ∙ ap₂ (λ x y. cond (is_at (nat_cmp (length slots)) i) x y) (ap not (sym waiting)) (are i) ∙ sym (is_undone-push slots slot i)

-- it is done at once
pub undone-push_done : (slots : List Slot) (undone : BTreeSet ℕ) → AreUndone slots undone → (slot : Slot) → is_done slot ≡ true → AreUndone (slots ++ slot ∷ []) undone
undone-push_done slots undone are slot done i =
    are i
    ∙ by_index (length slots) i (not (is_done slot)) (is_undone slots i) (is_undone slots i) (λ here. is_undone-past slots i (omega (arith, here)) ∙ sym (ap not done)) (λ _. refl)
    ∙ sym (is_undone-push slots slot i)

-- it is not accepted after all
pub undone-pop : (slots : List Slot) (undone new : BTreeSet ℕ) (slot : Slot) → AreUndone (slots ++ slot ∷ []) undone → ((i : ℕ) → contains nat_cmp new i ≡ cond (is_at (nat_cmp (length slots)) i) false (contains nat_cmp undone i)) → AreUndone slots new
undone-pop slots undone new slot are updates i =
    updates i
    ∙ sym (by_index (length slots) i false (contains nat_cmp undone i) (is_undone slots i)
    (λ here. is_undone-past slots i (omega (arith, here)))
    (λ elsewhere. sym (are i ∙ is_undone-push slots slot i ∙ cond-false (is_at (nat_cmp (length slots)) i) (not (is_done slot)) (is_undone slots i) (unsigned_tied (length slots) i ∙ ne_eqb (length slots) i elsewhere))))

-- ---- a walk over those that are not done

-- what is left of it: they rise, and each that may be taken is among them
pub record IsLeft (slots : List Slot) (rest : List ℕ) : Type 0 where
  pub rising : IsStrictlySortedBy nat_cmp rest
  pub undone : (i : ℕ) → list_any (is_at (nat_cmp i)) rest ≡ true → is_undone slots i ≡ true
  pub free : (i : ℕ) → is_free (get_or slots i no_slot) ≡ true → list_any (is_at (nat_cmp i)) rest ≡ true

from_start : (start i : ℕ) → start ≤ i → range_contains nat_cmp (Included start) Unbounded i ≡ true
from_start start i le = grind (arith, nat_tests)

pub same_index : (i k : ℕ) → is_at (nat_cmp i) k ≡ true → i ≡ k
same_index i k at = eqb-true i k (sym (unsigned_tied i k) ∙ at)

below_from_Less : (i k : ℕ) → nat_cmp i k ≡ Less → i < k
below_from_Less i k less = grind (arith, nat_tests)

all_above : (i k : ℕ) (rest : List ℕ) → AllByRecursion (λ x. nat_cmp i x ≡ Less) rest → list_any (is_at (nat_cmp k)) rest ≡ true → i < k
all_above i k [] less h = absurd (cc)
all_above i k (x ∷ rest) less h =
    ⊎_elim
    (λ at. subst (λ n. i < n) (sym (same_index k x at)) (below_from_Less i x less.0))
    (λ later. all_above i k rest less.1 later)
    (or_cases (is_at (nat_cmp k) x) (list_any (is_at (nat_cmp k)) rest) h)

in_range : (start i : ℕ) → range_contains nat_cmp (Included start) Unbounded i ≡ true → start ≤ i
in_range start i h = grind (arith, nat_tests)

-- a walk from an index on is over indexes from there on
from_walk : (undone : BTreeSet ℕ) (start i : ℕ) (rest : List ℕ) → keys_between nat_cmp (Included start) Unbounded undone ≡ i ∷ rest → start ≤ i
from_walk undone start i rest is =
    let inside : ℕ → Bool = range_contains nat_cmp (Included start) Unbounded in
    let same = any-filter_same (is_at (nat_cmp i)) inside (inside i) (λ k at. ap inside (sym (same_index i k at))) undone.keys in
    let there : list_any (is_at (nat_cmp i)) (keys_between nat_cmp (Included start) Unbounded undone) ≡ true =
    ap (list_any (is_at (nat_cmp i))) is ∙ or_left (is_at (nat_cmp i) i) (list_any (is_at (nat_cmp i)) rest) (unsigned_tied i i ∙ eq-eqb i i refl) in
    in_range start i (and_parts (inside i) (contains nat_cmp undone i) (sym same ∙ there)).0

module _ (slots : List Slot) where
  pub walk_begins : (undone : BTreeSet ℕ) (start : ℕ) → AreUndone slots undone → IsOrdered nat_cmp undone → ((i : ℕ) → i < start → is_free (get_or slots i no_slot) ≡ false) → IsLeft slots (keys_between nat_cmp (Included start) Unbounded undone)
  walk_begins undone start are ordered none =
      let inside : ℕ → Bool = range_contains nat_cmp (Included start) Unbounded in
      let same = λ (i : ℕ). any-filter_same (is_at (nat_cmp i)) inside (inside i) (λ k at. ap inside (sym (same_index i k at))) undone.keys in
      record {
        rising = IsStrictlySortedBy-filter nat_cmp inside undone.keys ordered;
        undone = λ i h. sym (are i) ∙ (and_parts (inside i) (contains nat_cmp undone i) (sym (same i) ∙ h)).1;
        free = λ i free.
            let le : start ≤ i = ⊎_elim (λ (lt : i < start). absurd (both_ways (is_free (get_or slots i no_slot)) (none i lt) free)) (λ (le : start ≤ i). le) (cases_lt i start) in
            same i ∙ and_from (inside i) (contains nat_cmp undone i) (from_start start i le) (are i ∙ (and_parts _ _ free).0);
      }

  module _ (i : ℕ) (rest : List ℕ) (left : IsLeft slots (i ∷ rest)) where
    next_undone : is_undone slots i ≡ true
    next_undone = left.undone i (or_left _ _ (unsigned_tied i i ∙ eq-eqb i i refl))

    pub next_within : i < length slots
    next_within = undone_within slots i next_undone

    pub next_is_first : is_none (get_or slots i no_slot).holder ≡ true → i ≡ position_or_len is_free slots
    next_is_first no_holder =
        sym (position_or_len_is is_free slots i no_slot (omega (arith, next_within))
        (λ k lt. false_from_ne_true _ (λ before.
        ⊎_elim
        (λ at. let same : k ≡ i = same_index k i at in omega (arith, lt, same))
        (λ later. let above : i < k = all_above i k rest (sorted_head nat_cmp i rest left.rising) later in omega (arith, lt, above))
        (or_cases _ _ (left.free k before))))
        (λ _. and_from _ _ next_undone no_holder))

  pub walk_ends : IsLeft slots [] → length slots ≡ position_or_len is_free slots
  walk_ends left =
      sym (position_or_len_is is_free slots (length slots) no_slot (omega arith) (λ k _. false_from_ne_true _ (λ free. absurd (both_ways false refl (left.free k free)))) (λ past. absurd (omega (arith, past))))

  -- the first one from an index on, from which nobody has any
  pub next_is_first_untaken : (undone : BTreeSet ℕ) (start : ℕ) → AreUndone slots undone → IsOrdered nat_cmp undone → ((i : ℕ) → i < start → is_free (get_or slots i no_slot) ≡ false) → ((i : ℕ) → start ≤ i → is_none (get_or slots i no_slot).holder ≡ true) →
      (i : ℕ) (rest : List ℕ) → keys_between nat_cmp (Included start) Unbounded undone ≡ i ∷ rest → i ≡ position_or_len is_free slots
  next_is_first_untaken undone start are ordered none nobody i rest is =
      let left : IsLeft slots (i ∷ rest) = subst (IsLeft slots) is (walk_begins undone start are ordered none) in
      next_is_first i rest left (nobody i (from_walk undone start i rest is))

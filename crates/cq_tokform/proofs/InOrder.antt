-- Lists whose elements rise from each to the next: as a loop tests it, and what it says of all of them.
use Rattle.std.proofs.Common.{◌≡◌, ◌≢◌, ℕ, suc, ◌+◌, ◌<◌, ◌≤◌, Bool, true, false, ◌&&◌, not, eqb, ltb, List, [], ◌∷◌, length, map, drop, get_or, refl, sym, ap, ◌∙◌, arith, inl, inr}
use Rattle.std.specs.Prelude.{AllPairs, IsPermutation}
use Rattle.std.specs.List.{AllByRecursion, list_all}
use Rattle.std.specs.List.Sorted.{IsNonDecreasing}
use Rattle.std.proofs.lemmas.Bool.{cases_lt, eq-eqb, ne_eqb, ltb-true, lt-ltb, true≢false}
use Rattle.std.proofs.lemmas.List.{drop_more, drop_all}
use Rattle.std.proofs.lemmas.List.Elements.{All-from_recursion, All-weaker}
use Rattle.std.proofs.lemmas.List.Kept.{AllPairs-cons}
use Rattle.std.proofs.lemmas.List.Sorted.{IsPermutation-sym}
use Rattle.std.proofs.lemmas.List.Sums.{AllPass-from_list_all, list_all-from_AllPass}
use Rattle.cq_history.proofs.PathOrder.{before_chain}
use Rattle.cq_order.proofs.Sorting.{pairs_permuted}
use Rattle.cq_projects.specs.Ordered.{AreRising}
use Rattle.cq_tokform.specs.Spelling.{Recorded}
use Rattle.cq_tokform.specs.Sound.{rise, is_path_before, are_apart}
use Rattle.cq_tokform.proofs.Records.{both, with_both}

-- ---- as a loop tests it

module _ {X : Type 0} (before : X → X → Bool) where
  pub rise_next : (xs : List X) (n : ℕ) → n + 1 < length xs → ((d : X) → before (get_or xs n d) (get_or xs (n + 1) d) ≡ true) → rise before (drop (n + 1) xs) ≡ rise before (drop n xs)
  rise_next [] n lt is = absurd (omega (arith, lt))
  rise_next (x ∷ xs) n lt is =
      let all = x ∷ xs in
      let first = get_or all n x in
      let second = get_or all (n + 1) x in
      let here : drop n all ≡ first ∷ drop (n + 1) all = drop_more all n x (omega (arith, lt)) in
      let next : drop (n + 1) all ≡ second ∷ drop (n + 1 + 1) all = drop_more all (n + 1) x lt in
      ap (rise before) next
      ∙ sym (ap (λ (b : Bool). b && rise before (second ∷ drop (n + 1 + 1) all)) (is x))
      ∙ ap (λ (rest : List X). rise before (first ∷ rest)) (sym next)
      ∙ ap (rise before) (sym here)

  pub rise_stop : (xs : List X) (n : ℕ) → n + 1 < length xs → ((d : X) → before (get_or xs n d) (get_or xs (n + 1) d) ≡ false) → rise before (drop n xs) ≡ false
  rise_stop [] n lt is = absurd (omega (arith, lt))
  rise_stop (x ∷ xs) n lt is =
      let all = x ∷ xs in
      let first = get_or all n x in
      let second = get_or all (n + 1) x in
      let here : drop n all ≡ first ∷ drop (n + 1) all = drop_more all n x (omega (arith, lt)) in
      let next : drop (n + 1) all ≡ second ∷ drop (n + 1 + 1) all = drop_more all (n + 1) x lt in
      ap (rise before) here
      ∙ ap (λ (rest : List X). rise before (first ∷ rest)) next
      ∙ ap (λ (b : Bool). b && rise before (second ∷ drop (n + 1 + 1) all)) (is x)

  -- where no two are left
  last_rises : (x : X) (xs : List X) (n : ℕ) → length (x ∷ xs) ≤ n + 1 → rise before (drop n (x ∷ xs)) ≡ true
  last_rises x xs n le =
      elim (cases_lt n (length (x ∷ xs))) [
        | inl lt ↦ ap (rise before) (drop_more (x ∷ xs) n x lt ∙ ap (λ (rest : List X). get_or (x ∷ xs) n x ∷ rest) (drop_all (n + 1) (x ∷ xs) le))
        | inr past ↦ ap (rise before) (drop_all n (x ∷ xs) past)
      ]

  pub rise_end : (xs : List X) (n : ℕ) → length xs ≤ n + 1 → rise before (drop n xs) ≡ true
  rise_end [] n le = ap (rise before) (drop_all n [] (omega arith))
  rise_end (x ∷ xs) n le = last_rises x xs n le

  -- each is before the next
  pub rise_all : (xs : List X) → ((n m : ℕ) (d : X) → m ≡ n + 1 → m < length xs → before (get_or xs n d) (get_or xs m d) ≡ true) → rise before xs ≡ true
  rise_all [] h = refl
  rise_all (x ∷ []) h = refl
  rise_all (x ∷ y ∷ xs) h =
      with_both (before x y) (rise before (y ∷ xs)) (h 0 1 x (omega arith) (omega arith))
      (rise_all (y ∷ xs) (λ n m d e lt. h (suc n) (suc m) d (omega (arith, e)) (omega (arith, lt))))

module _ {X : Type 0} (before : X → X → Bool) (chain : (x y z : X) → before x y ≡ true → before y z ≡ true → before x z ≡ true) where
  farther : (x y : X) (zs : List X) → before x y ≡ true → AllByRecursion (λ (z : X). before y z ≡ true) zs → AllByRecursion (λ (z : X). before x z ≡ true) zs
  farther x y [] lt all = tt
  farther x y (z ∷ zs) lt all = (chain x y z lt all.0, farther x y zs lt all.1)

  -- the first is before all others, and these rise
  pub rise_ahead : (x : X) (xs : List X) → rise before (x ∷ xs) ≡ true → AllByRecursion (λ (y : X). before x y ≡ true) xs × (rise before xs ≡ true)
  rise_ahead x [] e = (tt, refl)
  rise_ahead x (y ∷ ys) e =
      let b = both (before x y) (rise before (y ∷ ys)) e in
      let behind = rise_ahead y ys b.1 in
      ((b.0, farther x y ys b.0 behind.0), b.1)

-- seen through a view
pub rise_map : {X Y : Type 0} (view : X → Y) (before : Y → Y → Bool) (xs : List X) → rise before (map view xs) ≡ rise (λ (x y : X). before (view x) (view y)) xs
rise_map view before [] = refl
rise_map view before (x ∷ []) = refl
rise_map view before (x ∷ y ∷ xs) = ap (λ (b : Bool). before (view x) (view y) && b) (rise_map view before (y ∷ xs))

-- ---- files in the order of their paths

paths_chain : (f g h : Recorded) → is_path_before f g ≡ true → is_path_before g h ≡ true → is_path_before f h ≡ true
paths_chain f g h a b = before_chain f.path g.path h.path a b

pub paths_rising : (files : List Recorded) → rise is_path_before files ≡ true → AreRising (λ (f : Recorded). f.path) files
paths_rising [] e = tt
paths_rising (f ∷ files) e = let ahead = rise_ahead is_path_before paths_chain f files e in (ahead.0, paths_rising files ahead.1)

pub rising_paths : (files : List Recorded) → AreRising (λ (f : Recorded). f.path) files → rise is_path_before files ≡ true
rising_paths [] rising = refl
rising_paths (f ∷ []) rising = refl
rising_paths (f ∷ g ∷ files) rising = with_both (is_path_before f g) (rise is_path_before (g ∷ files)) rising.0.0 (rising_paths (g ∷ files) rising.1)

-- ---- numbers of which none is there twice

pub apart_pairs : (numbers : List ℕ) → are_apart numbers ≡ true → AllPairs (λ a b. a ≢ b) numbers
apart_pairs [] e = λ i j d less within. absurd (omega (arith, within))
apart_pairs (n ∷ numbers) e =
    let b = both (list_all (λ (m : ℕ). not (eqb m n)) numbers) (are_apart numbers) e in
    let others = AllPass-from_list_all (λ (m : ℕ). not (eqb m n)) numbers b.0 in
    AllPairs-cons (λ a b. a ≢ b) n numbers
    (λ k d lt same.
    let hit : eqb (get_or numbers k d) n ≡ true = eq-eqb (get_or numbers k d) n (sym same) in
    true≢false (sym (others k d lt) ∙ ap not hit))
    (apart_pairs numbers b.1)

pub pairs_apart : (numbers : List ℕ) → AllPairs (λ a b. a ≢ b) numbers → are_apart numbers ≡ true
pairs_apart [] apart = refl
pairs_apart (n ∷ numbers) apart =
    with_both (list_all (λ (m : ℕ). not (eqb m n)) numbers) (are_apart numbers)
    (list_all-from_AllPass (λ (m : ℕ). not (eqb m n)) numbers (λ k d lt. ap not (ne_eqb (get_or numbers k d) n (λ same. apart 0 (suc k) d (omega arith) (omega (arith, lt)) (sym same)))))
    (pairs_apart numbers (λ i j d less within. apart (suc i) (suc j) d (omega (arith, less)) (omega (arith, within))))

-- ---- sorted, these rise, and no others do

below_chain : (a b c : ℕ) → ltb a b ≡ true → ltb b c ≡ true → ltb a c ≡ true
below_chain a b c p q = let low = ltb-true a b p in let high = ltb-true b c q in lt-ltb a c (omega (arith, low, high))

risen_apart : (numbers : List ℕ) → rise ltb numbers ≡ true → AllPairs (λ a b. a ≢ b) numbers
risen_apart [] e = λ i j d less within. absurd (omega (arith, within))
risen_apart (n ∷ numbers) e =
    let ahead = rise_ahead ltb below_chain n numbers e in
    AllPairs-cons (λ a b. a ≢ b) n numbers
    (All-weaker (λ (m : ℕ). ltb n m ≡ true) (λ (m : ℕ). n ≢ m) (λ m lt same. let less = ltb-true n m lt in omega (arith, less, same)) numbers (All-from_recursion (λ (m : ℕ). ltb n m ≡ true) numbers ahead.0))
    (risen_apart numbers ahead.1)

apart_rises : (numbers : List ℕ) → IsNonDecreasing numbers → AllPairs (λ a b. a ≢ b) numbers → rise ltb numbers ≡ true
apart_rises numbers up apart =
    rise_all ltb numbers (λ n m d e lt.
    let le = up n m d (omega (arith, e)) lt in
    let other = apart n m d (omega (arith, e)) lt in
    lt-ltb _ _ (omega (arith, le, other)))

same_test : (a b : Bool) → (a ≡ true → b ≡ true) → (b ≡ true → a ≡ true) → a ≡ b
same_test true true f g = refl
same_test true false f g = sym (f refl)
same_test false true f g = g refl
same_test false false f g = refl

turned : (a b : ℕ) → a ≢ b → b ≢ a
turned a b other same = other (sym same)

pub sort_tells : (old new : List ℕ) → IsPermutation old new → IsNonDecreasing new → rise ltb new ≡ are_apart old
sort_tells old new moved up =
    same_test (rise ltb new) (are_apart old)
    (λ e. pairs_apart old (pairs_permuted (λ a b. a ≢ b) turned new old (IsPermutation-sym old new moved) (risen_apart new e)))
    (λ e. apart_rises new up (pairs_permuted (λ a b. a ≢ b) turned old new moved (apart_pairs old e)))

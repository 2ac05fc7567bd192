-- A search among a part of things in the order of a text of theirs.
use Rattle.std.proofs.Common.{◌≡◌, ℕ, zero, suc, ◌+◌, ◌-◌, ◌<◌, ◌≤◌, true, List, [], ◌∷◌, ◌++◌, length, get_or, take, drop, refl, sym, ap, ap₂, ◌∙◌, subst, arith}
use Rattle.std.specs.List.{AllByRecursion}
use Rattle.std.proofs.lemmas.List.{append_assoc, length-append, length-take-le, take-append-drop, drop-drop}
use Rattle.std.specs.Ordering.{nat_cmp, is_lt, is_gt}
use Rattle.std.specs.declared.cmp.Ordering.{Ordering}
use Rattle.std.specs.declared.cmp.Ordering.TheVariants.{Less, Equal, Greater}
use Rattle.std.specs.Cmp.Lexicographic.{slice_cmp}
use Rattle.cq_history.specs.Files.{is_before}
use Rattle.cq_history.proofs.PathOrder.{before_chain}
use Rattle.cq_projects.specs.Ordered.{AreRising, AreBelow, AreAbove, IsAt, IsGap}
use Rattle.cq_projects.proofs.Searching.{before_greater}

module _ {X : Type 0} where
  all_take : (P : X → Type 0) (n : ℕ) (xs : List X) → AllByRecursion P xs → AllByRecursion P (take n xs)
  all_take P zero xs all = tt
  all_take P (suc n) [] all = tt
  all_take P (suc n) (x ∷ xs) all = (all.0, all_take P n xs all.1)

  all_append : (P : X → Type 0) (xs ys : List X) → AllByRecursion P xs → AllByRecursion P ys → AllByRecursion P (xs ++ ys)
  all_append P [] ys all more = more
  all_append P (x ∷ xs) ys all more = (all.0, all_append P xs ys all.1 more)

  each_at : (P : X → Type 0) (xs : List X) (i : ℕ) (d : X) → AllByRecursion P xs → i < length xs → P (get_or xs i d)
  each_at P [] i d all lt = absurd (omega (arith, lt))
  each_at P (x ∷ xs) zero d all lt = all.0
  each_at P (x ∷ xs) (suc i) d all lt = each_at P xs i d all.1 (omega (arith, lt))

greater : (r : Ordering) → is_gt r ≡ true → r ≡ Greater
greater Less h = absurd (cc)
greater Equal h = absurd (cc)
greater Greater h = refl

module _ {X : Type 0} (text : X → List ℕ) where
  pub rising_take : (n : ℕ) (xs : List X) → AreRising text xs → AreRising text (take n xs)
  rising_take zero xs rising = tt
  rising_take (suc n) [] rising = tt
  rising_take (suc n) (x ∷ xs) rising = (all_take (λ (y : X). is_before (text x) (text y) ≡ true) n xs rising.0, rising_take n xs rising.1)

  pub rising_drop : (n : ℕ) (xs : List X) → AreRising text xs → AreRising text (drop n xs)
  rising_drop zero xs rising = rising
  rising_drop (suc n) [] rising = tt
  rising_drop (suc n) (x ∷ xs) rising = rising_drop n xs rising.1

  all_above : (p q : List ℕ) (xs : List X) → is_before p q ≡ true → AreAbove text q xs → AreAbove text p xs
  all_above p q [] before all = tt
  all_above p q (x ∷ xs) before all = (before_chain p q (text x) before all.0, all_above p q xs before all.1)

  -- after one of them it is after all before that one
  pub below_at : (p : List ℕ) (xs : List X) (i : ℕ) (d : X) → AreRising text xs → i < length xs → is_before (text (get_or xs i d)) p ≡ true → AreBelow text p (take (suc i) xs)
  below_at p [] i d rising lt before = absurd (omega (arith, lt))
  below_at p (x ∷ xs) zero d rising lt before = (before, tt)
  below_at p (x ∷ xs) (suc i) d rising lt before =
      (before_chain (text x) (text (get_or xs i d)) p (each_at (λ (y : X). is_before (text x) (text y) ≡ true) xs i d rising.0 (omega (arith, lt))) before, below_at p xs i d rising.1 (omega (arith, lt)) before)

  -- before one of them it is before all after that one
  pub above_at : (p : List ℕ) (xs : List X) (i : ℕ) (d : X) → AreRising text xs → i < length xs → is_before p (text (get_or xs i d)) ≡ true → AreAbove text p (drop i xs)
  above_at p [] i d rising lt before = absurd (omega (arith, lt))
  above_at p (x ∷ xs) zero d rising lt before = (before, all_above p (text x) xs before rising.0)
  above_at p (x ∷ xs) (suc i) d rising lt before = above_at p xs i d rising.1 (omega (arith, lt)) before

  -- the same of the one before a place
  pub below_last : (p : List ℕ) (xs : List X) (place : ℕ) (d : X) → AreRising text xs → 0 < place → place ≤ length xs → is_before (text (get_or xs (place - 1) d)) p ≡ true → AreBelow text p (take place xs)
  below_last p xs place d rising some within before =
      let e : suc (place - 1) ≡ place = omega (arith, some) in
      subst (λ n. AreBelow text p (take n xs)) e (below_at p xs (place - 1) d rising (omega (arith, some, within)) before)

  -- what compares as less is before, and what compares as greater after, also by another name
  pub behind_is_lt : (p : List ℕ) (x y : X) → x ≡ y → is_lt (slice_cmp nat_cmp (text x) p) ≡ true → is_before (text y) p ≡ true
  behind_is_lt p x y same lt = subst (λ z. is_before (text z) p ≡ true) same lt

  pub before_is_gt : (p : List ℕ) (x y : X) → x ≡ y → is_gt (slice_cmp nat_cmp (text x) p) ≡ true → is_before p (text y) ≡ true
  before_is_gt p x y same gt = subst (λ z. is_before p (text z) ≡ true) same (before_greater p (text x) (greater _ gt))

  -- the list in its three parts
  parts : (xs : List X) (from to : ℕ) → from ≤ to → take from xs ++ (take (to - from) (drop from xs) ++ drop to xs) ≡ xs
  parts xs from to le =
      let whole : from + (to - from) ≡ to = omega (arith, le) in
      ap (λ ys. take from xs ++ (take (to - from) (drop from xs) ++ ys)) (ap (λ n. drop n xs) (sym whole) ∙ sym (drop-drop (to - from) from xs))
      ∙ ap (λ ys. take from xs ++ ys) (take-append-drop (to - from) (drop from xs))
      ∙ take-append-drop from xs

  around : (before after low high middle : List X) (x : X) → middle ≡ before ++ x ∷ after → low ++ (middle ++ high) ≡ (low ++ before) ++ x ∷ (after ++ high)
  around before after low high middle x is =
      ap (λ ys. low ++ (ys ++ high)) is ∙ ap (λ ys. low ++ ys) (append_assoc before (x ∷ after) high) ∙ sym (append_assoc low before (x ∷ (after ++ high)))

  around_gap : (before after low high middle : List X) → middle ≡ before ++ after → low ++ (middle ++ high) ≡ (low ++ before) ++ (after ++ high)
  around_gap before after low high middle is =
      ap (λ ys. low ++ (ys ++ high)) is ∙ ap (λ ys. low ++ ys) (append_assoc before after high) ∙ sym (append_assoc low before (after ++ high))

  pub found_between : (p : List ℕ) (xs : List X) (from to i : ℕ) → from ≤ to → to ≤ length xs → AreBelow text p (take from xs) → AreAbove text p (drop to xs) → IsAt text p (take (to - from) (drop from xs)) i → IsAt text p xs (from + i)
  found_between p xs from to i le within low high here =
      let P : X → Type 0 = λ (x : X). is_before (text x) p ≡ true in
      let Q : X → Type 0 = λ (x : X). is_before p (text x) ≡ true in
      let size = length-take-le from xs (omega (arith, le, within)) in
      record {
        before = take from xs ++ here.before;
        item = here.item;
        after = here.after ++ drop to xs;
        is = sym (parts xs from to le) ∙ around here.before here.after (take from xs) (drop to xs) (take (to - from) (drop from xs)) here.item here.is;
        index = length-append (take from xs) here.before ∙ ap₂ (λ a b. a + b) size here.index;
        same = here.same;
        low = all_append P (take from xs) here.before low here.low;
        high = all_append Q here.after (drop to xs) here.high high;
      }

  pub gap_between : (p : List ℕ) (xs : List X) (from to i : ℕ) → from ≤ to → to ≤ length xs → AreBelow text p (take from xs) → AreAbove text p (drop to xs) → IsGap text p (take (to - from) (drop from xs)) i → IsGap text p xs (from + i)
  gap_between p xs from to i le within low high here =
      let P : X → Type 0 = λ (x : X). is_before (text x) p ≡ true in
      let Q : X → Type 0 = λ (x : X). is_before p (text x) ≡ true in
      let size = length-take-le from xs (omega (arith, le, within)) in
      record {
        before = take from xs ++ here.before;
        after = here.after ++ drop to xs;
        is = sym (parts xs from to le) ∙ around_gap here.before here.after (take from xs) (drop to xs) (take (to - from) (drop from xs)) here.is;
        index = length-append (take from xs) here.before ∙ ap₂ (λ a b. a + b) size here.index;
        low = all_append P (take from xs) here.before low here.low;
        high = all_append Q here.after (drop to xs) here.high high;
      }

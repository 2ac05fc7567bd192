-- What is over at a floor is taken out, one by one.
use Rattle.std.proofs.Common.{◌≡◌, ℕ, zero, suc, ◌+◌, ◌<◌, ◌≤◌, Bool, true, false, cond, not, ◌||◌, ◌&&◌, nat_eq, nat_lt, nat_le, List, [], ◌∷◌, ◌++◌, length, take, drop, filter, get_or, refl, sym, ap, ap₂, ◌∙◌, subst, ⊎_elim, arith}
use Rattle.std.specs.Prelude.{All, AllPairs, Contains, Option, Some, None, option_map, unwrap_or, sum_by}
use Rattle.std.specs.BTreeMap.{BTreeMap, get_by, is_at}
use Rattle.std.specs.Cmp.{unsigned_tied}
use Rattle.std.specs.List.Sorted.{IsStrictlyIncreasing}
use Rattle.std.specs.Map.{keys_of, values_of, lookup, remove_entry}
use Rattle.std.specs.Ordering.{nat_cmp}
use Rattle.std.proofs.lemmas.Bool.{cases_lt, eqb-true, false_from_ne_true, le-leb, lt-ltb, le-ltb, lt-leb}
use Rattle.std.proofs.lemmas.List.{take_more, drop_more, take-append-drop, drop_all, get_or_default}
use Rattle.std.proofs.lemmas.List.Elements.{All-push, filter-append}
use Rattle.std.proofs.lemmas.List.Folds.{list_any-append}
use Rattle.std.proofs.lemmas.List.Kept.{AllPairs-from_increasing}
use Rattle.std.proofs.lemmas.Map.Entries.{sum_by-remove_entry}
use Rattle.cq_base.proofs.Lists.{Contains-here, Contains-there, Contains-cases, AllPairs-head, AllPairs-tail}
use Rattle.cq_shard.proofs.Taking.{left_same}
use Rattle.cq_history.specs.Changes.{text_len}
use Rattle.cq_kept.specs.Accepted.{text_in, is_over_at, not_over, over_behind}
use Rattle.cq_kept.specs.Over.{IsNoLater}
use Rattle.cq_kept.specs.Slots.{change_of}
use Rattle.cq_kept.specs.declared.kept.Kept.{Kept}
use Rattle.cq_kept.specs.declared.over.Over.{Over}

-- ---- one entry is taken out

abbrev test : ℕ → ℕ → Bool
test number = is_at (nat_cmp number)

module _ {X : Type 0} (number : ℕ) where
  pub removed_part : (es : List (ℕ × X)) (e : ℕ × X) → Contains (remove_entry (test number) es) e → Contains es e
  removed_part [] e there = there
  removed_part (x ∷ es) e there = by_test (test number x.0) (λ later. removed_part es e later) there
    where
      by_test : (b : Bool) → (Contains (remove_entry (test number) es) e → Contains es e) → Contains (cond b es (x ∷ remove_entry (test number) es)) e → Contains (x ∷ es) e
      by_test true rest there = Contains-there x e es there
      by_test false rest there = ⊎_elim (λ (same : x ≡ e). subst (Contains (x ∷ es)) same (Contains-here x es)) (λ later. Contains-there x e es (rest later)) (Contains-cases x e (remove_entry (test number) es) there)

  keys_removed : (es : List (ℕ × X)) → AllPairs (λ a b. a < b) (keys_of es) → keys_of (remove_entry (test number) es) ≡ filter (λ n. not (nat_eq number n)) (keys_of es)
  keys_removed [] rising = refl
  keys_removed (x ∷ es) rising = by_test (nat_eq number x.0) (keys_removed es (AllPairs-tail (λ a b. a < b) x.0 (keys_of es) rising)) refl
    where
      others : nat_eq number x.0 ≡ true → filter (λ n. not (nat_eq number n)) (keys_of es) ≡ keys_of es
      others here = left_same (λ n. not (nat_eq number n)) (keys_of es) (λ n there.
          let less = AllPairs-head (λ a b. a < b) x.0 n (keys_of es) rising there in
          let at = eqb-true number x.0 here in
          ap not (false_from_ne_true (nat_eq number n) (λ same. let e = eqb-true number n same in omega (arith, less, at, e))))

      by_test : (b : Bool) → keys_of (remove_entry (test number) es) ≡ filter (λ n. not (nat_eq number n)) (keys_of es) → nat_eq number x.0 ≡ b → keys_of (cond (test number x.0) es (x ∷ remove_entry (test number) es)) ≡ cond (not (nat_eq number x.0)) (x.0 ∷ filter (λ n. not (nat_eq number n)) (keys_of es)) (filter (λ n. not (nat_eq number n)) (keys_of es))
      by_test true rest is =
          ap (λ b. keys_of (cond b es (x ∷ remove_entry (test number) es))) (unsigned_tied number x.0 ∙ is)
          ∙ sym (others is)
          ∙ ap (λ b. cond (not b) (x.0 ∷ filter (λ n. not (nat_eq number n)) (keys_of es)) (filter (λ n. not (nat_eq number n)) (keys_of es))) (sym is)
      by_test false rest is =
          ap (λ b. keys_of (cond b es (x ∷ remove_entry (test number) es))) (unsigned_tied number x.0 ∙ is)
          ∙ ap (λ ns. x.0 ∷ ns) rest
          ∙ ap (λ b. cond (not b) (x.0 ∷ filter (λ n. not (nat_eq number n)) (keys_of es)) (filter (λ n. not (nat_eq number n)) (keys_of es))) (sym is)

  pub removed_numbers : (old new : List (ℕ × X)) → IsStrictlyIncreasing (keys_of old) → new ≡ remove_entry (test number) old → keys_of new ≡ filter (λ n. not (nat_eq number n)) (keys_of old)
  removed_numbers old new rising is = ap keys_of is ∙ keys_removed old (AllPairs-from_increasing (keys_of old) rising)

-- ---- the notes, one by one

pub filter_twice : (p q r : ℕ → Bool) → ((n : ℕ) → r n ≡ (p n || q n)) → (xs : List ℕ) → filter (λ n. not (q n)) (filter (λ n. not (p n)) xs) ≡ filter (λ n. not (r n)) xs
filter_twice p q r both [] = refl
filter_twice p q r both (x ∷ xs) = by_both (p x) (q x) (r x) (filter_twice p q r both xs) refl refl (both x)
  where
    by_both : (a b c : Bool) → filter (λ n. not (q n)) (filter (λ n. not (p n)) xs) ≡ filter (λ n. not (r n)) xs → p x ≡ a → q x ≡ b → c ≡ (p x || q x) → filter (λ n. not (q n)) (cond (not (p x)) (x ∷ filter (λ n. not (p n)) xs) (filter (λ n. not (p n)) xs)) ≡ cond (not c) (x ∷ filter (λ n. not (r n)) xs) (filter (λ n. not (r n)) xs)
    by_both true b c rest here there is =
        ap (λ a. filter (λ n. not (q n)) (cond (not a) (x ∷ filter (λ n. not (p n)) xs) (filter (λ n. not (p n)) xs))) here ∙ rest
        ∙ ap (λ c. cond (not c) (x ∷ filter (λ n. not (r n)) xs) (filter (λ n. not (r n)) xs)) (sym (is ∙ ap (λ a. a || q x) here))
    by_both false true c rest here there is =
        ap (λ a. filter (λ n. not (q n)) (cond (not a) (x ∷ filter (λ n. not (p n)) xs) (filter (λ n. not (p n)) xs))) here
        ∙ ap (λ b. cond (not b) (x ∷ filter (λ n. not (q n)) (filter (λ n. not (p n)) xs)) (filter (λ n. not (q n)) (filter (λ n. not (p n)) xs))) there ∙ rest
        ∙ ap (λ c. cond (not c) (x ∷ filter (λ n. not (r n)) xs) (filter (λ n. not (r n)) xs)) (sym (is ∙ ap₂ (λ a b. a || b) here there))
    by_both false false c rest here there is =
        ap (λ a. filter (λ n. not (q n)) (cond (not a) (x ∷ filter (λ n. not (p n)) xs) (filter (λ n. not (p n)) xs))) here
        ∙ ap (λ b. cond (not b) (x ∷ filter (λ n. not (q n)) (filter (λ n. not (p n)) xs)) (filter (λ n. not (q n)) (filter (λ n. not (p n)) xs))) there ∙ ap (λ ns. x ∷ ns) rest
        ∙ ap (λ c. cond (not c) (x ∷ filter (λ n. not (r n)) xs) (filter (λ n. not (r n)) xs)) (sym (is ∙ ap₂ (λ a b. a || b) here there))

-- the first `i` notes are at most the floor, and the others are left; the numbers are those that these don't name
pub record IsForgetting (old over : List Over) (floor : ℕ) (before numbers : List ℕ) : Type 0 where
  pub i : ℕ
  pub within : i ≤ length old
  pub left : over ≡ drop i old
  pub early : All (λ o. o.by ≤ floor) (take i old)
  pub numbers_are : numbers ≡ not_over (take i old) floor before

pub forgetting_first : (old : List Over) (floor : ℕ) (before : List ℕ) → IsForgetting old old floor before before
forgetting_first old floor before = record {
  i = 0;
  within = omega arith;
  left = refl;
  early = λ k d within. absurd (omega (arith, within));
  numbers_are = sym (left_same (λ n. not (is_over_at [] floor n)) before (λ n there. refl));
}

heads : (xs ys : List Over) (x y : Over) → x ∷ xs ≡ y ∷ ys → (x ≡ y) × (xs ≡ ys)
heads xs ys x y e = (cc e, cc e)

module _ (old over : List Over) (floor : ℕ) (before numbers : List ℕ) (is : IsForgetting old over floor before numbers) where
  pub forgetting_more : (x : Over) (rest : List Over) (fewer : List ℕ) → over ≡ x ∷ rest → x.by ≤ floor → fewer ≡ filter (λ n. not (nat_eq x.number n)) numbers → IsForgetting old rest floor before fewer
  forgetting_more x rest fewer first low taken = record {
    i = is.i + 1;
    within = omega (arith, inside);
    left = sym both.1;
    early = subst (All (λ o. o.by ≤ floor)) (sym front) (All-push (λ (o : Over). o.by ≤ floor) (take is.i old) x is.early low);
    numbers_are =
        taken ∙ ap (filter (λ n. not (nat_eq x.number n))) is.numbers_are
        ∙ filter_twice (λ n. is_over_at (take is.i old) floor n) (λ n. nat_eq x.number n) (λ n. is_over_at (take (is.i + 1) old) floor n) more before;
  }
    where
      inside : is.i < length old
      inside = ⊎_elim (λ (lt : is.i < length old). lt) (λ past. absurd (let none : x ∷ rest ≡ [] = sym first ∙ is.left ∙ drop_all is.i old past in cc none)) (cases_lt is.i (length old))

      both : (get_or old is.i x ≡ x) × (drop (is.i + 1) old ≡ rest)
      both = heads (drop (is.i + 1) old) rest (get_or old is.i x) x (sym (drop_more old is.i x inside) ∙ sym is.left ∙ first)

      front : take (is.i + 1) old ≡ take is.i old ++ x ∷ []
      front = take_more old is.i x inside ∙ ap (λ y. take is.i old ++ y ∷ []) both.0

      or_none : (a b : Bool) → (a || (b || false)) ≡ (a || b)
      or_none true b = refl
      or_none false true = refl
      or_none false false = refl

      more : (n : ℕ) → is_over_at (take (is.i + 1) old) floor n ≡ (is_over_at (take is.i old) floor n || nat_eq x.number n)
      more n =
          ap (λ all. is_over_at all floor n) front
          ∙ list_any-append (λ (o : Over). nat_le o.by floor && nat_eq o.number n) (take is.i old) (x ∷ [])
          ∙ or_none (is_over_at (take is.i old) floor n) (nat_le x.by floor && nat_eq x.number n)
          ∙ ap (λ b. is_over_at (take is.i old) floor n || (b && nat_eq x.number n)) (le-leb x.by floor low)

  -- all that are left are above the floor
  pub forgetting_last : All (λ o. floor < o.by) over → (over ≡ over_behind floor old) × (numbers ≡ not_over old floor before)
  forgetting_last late = (
    is.left ∙ sym (ap (over_behind floor) (sym (take-append-drop is.i old)) ∙ filter-append (λ (o : Over). nat_lt floor o.by) (take is.i old) (drop is.i old) ∙ ap₂ (λ xs ys. xs ++ ys) none_early all_late),
    is.numbers_are ∙ same_numbers before,
  )
    where
      none_of : (xs : List Over) → All (λ o. o.by ≤ floor) xs → over_behind floor xs ≡ []
      none_of [] early = refl
      none_of (x ∷ xs) early = ap (λ b. cond b (x ∷ over_behind floor xs) (over_behind floor xs)) (le-ltb floor x.by (early 0 x (omega arith))) ∙ none_of xs (λ k d inside. early (suc k) d (omega (arith, inside)))

      all_of : (xs : List Over) → All (λ o. floor < o.by) xs → over_behind floor xs ≡ xs
      all_of [] late = refl
      all_of (x ∷ xs) late = ap (λ b. cond b (x ∷ over_behind floor xs) (over_behind floor xs)) (lt-ltb floor x.by (late 0 x (omega arith))) ∙ ap (λ ys. x ∷ ys) (all_of xs (λ k d inside. late (suc k) d (omega (arith, inside))))

      none_over : (n : ℕ) (xs : List Over) → All (λ o. floor < o.by) xs → is_over_at xs floor n ≡ false
      none_over n [] late = refl
      none_over n (x ∷ xs) late = ap (λ b. (b && nat_eq x.number n) || is_over_at xs floor n) (lt-leb x.by floor (late 0 x (omega arith))) ∙ none_over n xs (λ k d inside. late (suc k) d (omega (arith, inside)))

      late_rest : All (λ o. floor < o.by) (drop is.i old)
      late_rest = subst (All (λ o. floor < o.by)) is.left late

      none_early : over_behind floor (take is.i old) ≡ []
      none_early = none_of (take is.i old) is.early

      all_late : over_behind floor (drop is.i old) ≡ drop is.i old
      all_late = all_of (drop is.i old) late_rest

      or_false : (a : Bool) → (a || false) ≡ a
      or_false true = refl
      or_false false = refl

      same_over : (n : ℕ) → is_over_at old floor n ≡ is_over_at (take is.i old) floor n
      same_over n =
          ap (λ all. is_over_at all floor n) (sym (take-append-drop is.i old))
          ∙ list_any-append (λ (o : Over). nat_le o.by floor && nat_eq o.number n) (take is.i old) (drop is.i old)
          ∙ ap (λ b. is_over_at (take is.i old) floor n || b) (none_over n (drop is.i old) late_rest)
          ∙ or_false (is_over_at (take is.i old) floor n)

      same_numbers : (ns : List ℕ) → not_over (take is.i old) floor ns ≡ not_over old floor ns
      same_numbers [] = refl
      same_numbers (n ∷ ns) =
          ap (λ b. cond (not b) (n ∷ not_over (take is.i old) floor ns) (not_over (take is.i old) floor ns)) (sym (same_over n))
          ∙ ap (λ ms. cond (not (is_over_at old floor n)) (n ∷ ms) ms) (same_numbers ns)

-- what is left is in order, so where the first is above the floor, all are
pub late_all : (old over : List Over) (floor : ℕ) (before numbers : List ℕ) → AllPairs IsNoLater old → IsForgetting old over floor before numbers → (x : Over) → x ≡ get_or over 0 x → 0 < length over → floor < x.by → All (λ o. floor < o.by) over
late_all old over floor before numbers order is x first some late k d within =
    by_place k within
  where
    pairs_behind : (n : ℕ) (xs : List Over) → AllPairs IsNoLater xs → AllPairs IsNoLater (drop n xs)
    pairs_behind zero xs order = order
    pairs_behind (suc n) [] order = order
    pairs_behind (suc n) (x ∷ xs) order = pairs_behind n xs (AllPairs-tail IsNoLater x xs order)

    same_at : (k : ℕ) (a b : Over) → k < length over → get_or over k a ≡ get_or over k b
    same_at k a b lt = get_or_default over k a b lt

    by_place : (k : ℕ) → k < length over → floor < (get_or over k d).by
    by_place zero within = subst (λ (o : Over). floor < o.by) (first ∙ same_at 0 x d some) late
    by_place (suc k) within =
        let pairs = pairs_behind is.i old order in
        let step = subst (AllPairs IsNoLater) (sym is.left) pairs 0 (suc k) d (omega arith) within in
        let here = subst (λ (o : Over). floor < o.by) (first ∙ same_at 0 x d some) late in
        omega (arith, step, here)

-- where there is none, all are
pub none_behind : (over : List Over) (floor : ℕ) → (0 < length over → ⊥) → All (λ o. floor < o.by) over
none_behind over floor none k d within = absurd (none (omega (arith, within)))

-- what was first, and the rest after it
pub popped_first : (over : List Over) (x : Over) (rest : List Over) → x ≡ get_or over 0 x → 0 < length over → rest ≡ drop 1 over → over ≡ x ∷ rest
popped_first over x rest first some is = drop_more over 0 x some ∙ ap₂ (λ y ys. y ∷ ys) (sym first) (sym is)

-- ---- how many bytes go with it

module _ {W : Type 0} where
  abbrev bytes_of : Option (Kept W) → ℕ
  bytes_of None = 0
  bytes_of (Some k) = text_len (change_of k.change)

  opened : (o : Option (Kept W)) → unwrap_or (option_map (λ (k : Kept W). text_len (change_of k.change)) o) 0 ≡ bytes_of o
  opened None = refl
  opened (Some k) = refl

  pub taken_bytes : (number : ℕ) (old new : BTreeMap ℕ (Kept W)) (o : Option (Kept W)) → o ≡ get_by (nat_cmp number) old → new.entries ≡ remove_entry (is_at (nat_cmp number)) old.entries → bytes_of o + text_in new ≡ text_in old
  taken_bytes number old new o value entries =
      let len_of : Kept W → ℕ = λ k. text_len (change_of k.change) in
      let whole = sum_by-remove_entry len_of (is_at (nat_cmp number)) old.entries in
      let rest : text_in new ≡ sum_by len_of (values_of (remove_entry (is_at (nat_cmp number)) old.entries)) = ap (λ es. sum_by len_of (values_of es)) entries in
      let taken : unwrap_or (option_map len_of (lookup (is_at (nat_cmp number)) old.entries)) 0 ≡ bytes_of o = ap (λ x. unwrap_or (option_map len_of x) 0) (sym value) ∙ opened o in
      omega (arith, whole, rest, taken)

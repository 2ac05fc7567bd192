-- How many changes a floor keeps, and how many bytes of their texts: a higher one no more, and each change that is accepted.
use Rattle.std.proofs.Common.{◌≡◌, ℕ, map, ◌+◌, ◌-◌, ◌<◌, ◌≤◌, Bool, true, false, cond, List, [], ◌∷◌, ◌++◌, length, get_or, take, drop, filter, sum_by, refl, sym, subst, ap, ◌∙◌, arith, All, length-append}
use Rattle.std.specs.Prelude.{not, ◌&&◌, nat_le}
use Rattle.std.specs.List.{range_with_len}
use Rattle.std.proofs.lemmas.Bool.{and_parts, and_from, and_left, leb-true, le-leb, lt-leb, not-true, not_from_false, true≢false}
use Rattle.std.proofs.lemmas.List.{append-nil, append_assoc, get_or_append_left, take-append-le, take-append-drop, length-take-le}
use Rattle.std.proofs.lemmas.List.FromFn.{length-range_with_len, map-range_with_len_more}
use Rattle.std.proofs.lemmas.List.Elements.{All-head, All-tail, filter-append}
use Rattle.std.proofs.lemmas.List.Folds.{map_fixed}
use Rattle.std.proofs.lemmas.List.Sums.{sum_by-cons, sum_by_push}
use Rattle.cq_base.specs.declared.change.Change.{Change}
use Rattle.cq_base.specs.declared.change.Change.TheVariants.{Put, Drop, Gate}
use Rattle.cq_base.proofs.Lists.{All-from_contains, Contains-from_filter}
use Rattle.cq_history.specs.Changes.{is_of_file, is_gate_of, text_len, no_change}
use Rattle.cq_history.specs.Gone.{IsFollowed, is_over, is_gone, kept_numbers, kept_count, kept_bytes, bytes_at}
use Rattle.cq_history.proofs.Forgetting.{any_follows, follows_any, followed_higher, in_range}

-- ---- a higher floor

sum_filter-le : (f : ℕ → ℕ) (p q : ℕ → Bool) → ((r : ℕ) → p r ≡ true → q r ≡ true) → (xs : List ℕ) → sum_by f (filter p xs) ≤ sum_by f (filter q xs)
sum_filter-le f p q more [] = omega arith
sum_filter-le f p q more (x ∷ xs) = go (p x) (q x) (sum_filter-le f p q more xs) refl refl
  where
    go : (a b : Bool) → sum_by f (filter p xs) ≤ sum_by f (filter q xs) → p x ≡ a → q x ≡ b → sum_by f (cond a (x ∷ filter p xs) (filter p xs)) ≤ sum_by f (cond b (x ∷ filter q xs) (filter q xs))
    go true true rest e d = omega (arith, sum_by-cons f x (filter p xs), sum_by-cons f x (filter q xs), rest)
    go true false rest e d = absurd (true≢false (sym (more x e) ∙ d))
    go false true rest e d = omega (arith, sum_by-cons f x (filter q xs), rest)
    go false false rest e d = rest

length_filter-le : (p q : ℕ → Bool) → ((r : ℕ) → p r ≡ true → q r ≡ true) → (xs : List ℕ) → length (filter p xs) ≤ length (filter q xs)
length_filter-le p q more [] = omega arith
length_filter-le p q more (x ∷ xs) = go (p x) (q x) (length_filter-le p q more xs) refl refl
  where
    go : (a b : Bool) → length (filter p xs) ≤ length (filter q xs) → p x ≡ a → q x ≡ b → length (cond a (x ∷ filter p xs) (filter p xs)) ≤ length (cond b (x ∷ filter q xs) (filter q xs))
    go true true rest e d = omega (arith, rest)
    go true false rest e d = absurd (true≢false (sym (more x e) ∙ d))
    go false true rest e d = omega (arith, rest)
    go false false rest e d = rest

over_higher_too : (changes : List Change) (floor higher r : ℕ) (c : Change) → floor ≤ higher → is_over c (drop r (take floor changes)) ≡ true → is_over c (drop r (take higher changes)) ≡ true
over_higher_too changes floor higher r (Put project path lang text) low h =
    follows_any (is_of_file project path) changes higher r (subst (λ cs. IsFollowed (is_of_file project path) cs higher r) (append-nil changes) (followed_higher (is_of_file project path) changes [] floor higher r low (any_follows (is_of_file project path) changes floor r h)))
over_higher_too changes floor higher r (Drop project path) low h = refl
over_higher_too changes floor higher r (Gate project conditions) low h =
    follows_any (is_gate_of project) changes higher r (subst (λ cs. IsFollowed (is_gate_of project) cs higher r) (append-nil changes) (followed_higher (is_gate_of project) changes [] floor higher r low (any_follows (is_gate_of project) changes floor r h)))

pub gone_higher : (changes : List Change) (floor higher r : ℕ) → floor ≤ higher → is_gone changes floor r ≡ true → is_gone changes higher r ≡ true
gone_higher changes floor higher r low h =
    let c : Change = get_or changes (r - 1) no_change in
    let both = and_parts (nat_le r floor) (is_over c (drop r (take floor changes))) h in
    and_from (nat_le r higher) (is_over c (drop r (take higher changes))) (le-leb r higher (omega (arith, leb-true r floor both.0, low))) (over_higher_too changes floor higher r c low both.1)

kept_lower : (changes : List Change) (floor higher r : ℕ) → floor ≤ higher → not (is_gone changes higher r) ≡ true → not (is_gone changes floor r) ≡ true
kept_lower changes floor higher r low h = go (is_gone changes floor r) refl
  where
    go : (b : Bool) → is_gone changes floor r ≡ b → not b ≡ true
    go true e = absurd (true≢false (sym (gone_higher changes floor higher r low e) ∙ not-true _ h))
    go false e = refl

pub kept_falls : (changes : List Change) (floor higher : ℕ) → floor ≤ higher → (kept_count changes higher ≤ kept_count changes floor) × (kept_bytes changes higher ≤ kept_bytes changes floor)
kept_falls changes floor higher low =
    let at_higher : ℕ → Bool = λ (r : ℕ). not (is_gone changes higher r) in
    let at_floor : ℕ → Bool = λ (r : ℕ). not (is_gone changes floor r) in
    let numbers = range_with_len 1 (length changes) in (
      length_filter-le at_higher at_floor (λ r h. kept_lower changes floor higher r low h) numbers,
      sum_filter-le (bytes_at changes) at_higher at_floor (λ r h. kept_lower changes floor higher r low h) numbers,
    )

-- ---- one change more

same_numbers : (xs : List ℕ) → map (λ (n : ℕ). n) xs ≡ xs
same_numbers xs = map_fixed (λ (n : ℕ). n) xs (λ k d within. refl)

pub range_more : (a n : ℕ) → range_with_len a (n + 1) ≡ range_with_len a n ++ (a + n) ∷ []
range_more a n = sym (same_numbers (range_with_len a (n + 1))) ∙ map-range_with_len_more (λ (k : ℕ). k) a n (a + n) refl ∙ ap (λ ns. ns ++ (a + n) ∷ []) (same_numbers (range_with_len a n))

pub filter_same_in : (p q : ℕ → Bool) (xs : List ℕ) → All (λ r. p r ≡ q r) xs → filter p xs ≡ filter q xs
filter_same_in p q [] same = refl
filter_same_in p q (x ∷ xs) same =
    ap (λ b. cond b (x ∷ filter p xs) (filter p xs)) (All-head (λ r. p r ≡ q r) x xs same)
    ∙ ap (λ ys. cond (q x) (x ∷ ys) ys) (filter_same_in p q xs (All-tail (λ r. p r ≡ q r) x xs same))

sum_same_in : (f g : ℕ → ℕ) (xs : List ℕ) → All (λ r. f r ≡ g r) xs → sum_by f xs ≡ sum_by g xs
sum_same_in f g [] same = refl
sum_same_in f g (x ∷ xs) same =
    let here = All-head (λ r. f r ≡ g r) x xs same in
    let rest = sum_same_in f g xs (All-tail (λ r. f r ≡ g r) x xs same) in
    omega (arith, sum_by-cons f x xs, sum_by-cons g x xs, here, rest)

last_of : (cs : List Change) (c : Change) → get_or (cs ++ c ∷ []) (length cs) no_change ≡ c
last_of [] c = refl
last_of (d ∷ cs) c = last_of cs c

module _ (changes : List Change) (floor : ℕ) (c : Change) (low : floor ≤ length changes) where
  same_gone : (r : ℕ) → 0 < r → r ≤ length changes → is_gone (changes ++ c ∷ []) floor r ≡ is_gone changes floor r
  same_gone r some within =
      ap (λ d. nat_le r floor && is_over d (drop r (take floor (changes ++ c ∷ [])))) (get_or_append_left changes (c ∷ []) no_change (r - 1) (omega (arith, some, within)))
      ∙ ap (λ ds. nat_le r floor && is_over (get_or changes (r - 1) no_change) (drop r ds)) (take-append-le floor changes (c ∷ []) low)

  newest_kept : not (is_gone (changes ++ c ∷ []) floor (length changes + 1)) ≡ true
  newest_kept = not_from_false _ (and_left (nat_le (length changes + 1) floor) _ (lt-leb (length changes + 1) floor (omega (arith, low))))

  pub kept_more : kept_numbers (changes ++ c ∷ []) floor ≡ kept_numbers changes floor ++ (length changes + 1) ∷ []
  kept_more =
      let new : ℕ → Bool = λ (r : ℕ). not (is_gone (changes ++ c ∷ []) floor r) in
      let old : ℕ → Bool = λ (r : ℕ). not (is_gone changes floor r) in
      let numbers = range_with_len 1 (length changes) in
      let next : length (changes ++ c ∷ []) ≡ length changes + 1 = length-append changes (c ∷ []) in
      let count : 1 + length changes ≡ length changes + 1 = omega arith in
      ap (λ n. filter new (range_with_len 1 n)) next
      ∙ ap (filter new) (range_more 1 (length changes) ∙ ap (λ n. numbers ++ n ∷ []) count)
      ∙ filter-append new numbers ((length changes + 1) ∷ [])
      ∙ ap (λ ns. ns ++ filter new ((length changes + 1) ∷ [])) (filter_same_in new old numbers (All-from_contains (λ r. new r ≡ old r) numbers (λ r has. let is = in_range (length changes) r has in ap not (same_gone r is.0 is.1))))
      ∙ ap (λ b. filter old numbers ++ cond b ((length changes + 1) ∷ []) []) newest_kept

  pub count_more : kept_count (changes ++ c ∷ []) floor ≡ kept_count changes floor + 1
  count_more = ap length kept_more ∙ length-append (kept_numbers changes floor) ((length changes + 1) ∷ [])

  same_bytes : (r : ℕ) → 0 < r → r ≤ length changes → bytes_at (changes ++ c ∷ []) r ≡ bytes_at changes r
  same_bytes r some within = ap text_len (get_or_append_left changes (c ∷ []) no_change (r - 1) (omega (arith, some, within)))

  pub bytes_more : kept_bytes (changes ++ c ∷ []) floor ≡ kept_bytes changes floor + text_len c
  bytes_more =
      let f : ℕ → ℕ = bytes_at (changes ++ c ∷ []) in
      let kept = kept_numbers changes floor in
      let index : length changes + 1 - 1 ≡ length changes = omega arith in
      let newest : f (length changes + 1) ≡ text_len c = ap text_len (ap (λ i. get_or (changes ++ c ∷ []) i no_change) index ∙ last_of changes c) in
      let old : sum_by f kept ≡ sum_by (bytes_at changes) kept =
      sum_same_in f (bytes_at changes) kept (All-from_contains (λ r. f r ≡ bytes_at changes r) kept (λ r has.
      let is = in_range (length changes) r (Contains-from_filter (λ (n : ℕ). not (is_gone changes floor n)) (range_with_len 1 (length changes)) r has).0 in
      same_bytes r is.0 is.1))
      in
      ap (sum_by f) kept_more ∙ sum_by_push f kept (length changes + 1) ∙ ap (λ n. n + f (length changes + 1)) old ∙ ap (λ n. sum_by (bytes_at changes) kept + n) newest

pub one_more : (changes : List Change) (floor : ℕ) (c : Change) → floor ≤ length changes →
    (kept_numbers (changes ++ c ∷ []) floor ≡ kept_numbers changes floor ++ (length changes + 1) ∷ []) × (kept_count (changes ++ c ∷ []) floor ≡ kept_count changes floor + 1) × (kept_bytes (changes ++ c ∷ []) floor ≡ kept_bytes changes floor + text_len c)
one_more changes floor c low = (kept_more changes floor c low, count_more changes floor c low, bytes_more changes floor c low)

-- ---- above the floor

above_more : (floor : ℕ) (cs ds : List Change) → floor ≤ length cs → length cs ≤ floor + kept_count cs floor → length (cs ++ ds) ≤ floor + kept_count (cs ++ ds) floor
above_more floor cs [] low few = subst (λ xs. length xs ≤ floor + kept_count xs floor) (sym (append-nil cs)) few
above_more floor cs (d ∷ ds) low few =
    let long = length-append cs (d ∷ []) in
    let count = count_more cs floor d low in
    subst (λ xs. length xs ≤ floor + kept_count xs floor) (append_assoc cs (d ∷ []) ds)
    (above_more floor (cs ++ d ∷ []) ds (omega (arith, long, low)) (omega (arith, long, count, few)))

pub above_kept : (changes : List Change) (floor : ℕ) → floor ≤ length changes → length changes ≤ floor + kept_count changes floor
above_kept changes floor low =
    let front : length (take floor changes) ≡ floor = length-take-le floor changes low in
    subst (λ xs. length xs ≤ floor + kept_count xs floor) (take-append-drop floor changes)
    (above_more floor (take floor changes) (drop floor changes) (omega (arith, front)) (omega (arith, front)))

-- ---- the lowest floor

filter_all : (p : ℕ → Bool) (xs : List ℕ) → All (λ r. p r ≡ true) xs → filter p xs ≡ xs
filter_all p [] all = refl
filter_all p (x ∷ xs) all =
    ap (λ b. cond b (x ∷ filter p xs) (filter p xs)) (All-head (λ r. p r ≡ true) x xs all)
    ∙ ap (λ ys. x ∷ ys) (filter_all p xs (All-tail (λ r. p r ≡ true) x xs all))

all_numbers : (changes : List Change) → kept_numbers changes 0 ≡ range_with_len 1 (length changes)
all_numbers changes =
    let kept : ℕ → Bool = λ (r : ℕ). not (is_gone changes 0 r) in
    let numbers = range_with_len 1 (length changes) in
    filter_all kept numbers (All-from_contains (λ r. kept r ≡ true) numbers (λ r has. let is = in_range (length changes) r has in not_from_false _ (and_left (nat_le r 0) _ (lt-leb r 0 is.0))))

all_bytes : (cs ds : List Change) → kept_bytes cs 0 ≡ sum_by text_len cs → kept_bytes (cs ++ ds) 0 ≡ sum_by text_len (cs ++ ds)
all_bytes cs [] are = subst (λ xs. kept_bytes xs 0 ≡ sum_by text_len xs) (sym (append-nil cs)) are
all_bytes cs (d ∷ ds) are =
    subst (λ xs. kept_bytes xs 0 ≡ sum_by text_len xs) (append_assoc cs (d ∷ []) ds)
    (all_bytes (cs ++ d ∷ []) ds (bytes_more cs 0 d (omega arith) ∙ ap (λ n. n + text_len d) are ∙ sym (sum_by_push text_len cs d)))

pub all_kept : (changes : List Change) → (kept_count changes 0 ≡ length changes) × (kept_bytes changes 0 ≡ sum_by text_len changes)
all_kept changes = (ap length (all_numbers changes) ∙ length-range_with_len 1 (length changes), all_bytes [] changes refl)

-- Numbers that all stay, numbers that rise, and the puts that changes bring.
use Rattle.std.proofs.Common.{◌≡◌, ℕ, suc, ◌+◌, ◌<◌, ◌≤◌, Bool, true, cond, Option, Some, None, List, [], ◌∷◌, ◌++◌, length, take, drop, get_or, filter, refl, sym, ap, ◌∙◌, subst, ⊎_elim, arith, append-nil, append_assoc}
use Rattle.std.specs.Prelude.{All, AllPairs, Contains}
use Rattle.std.specs.List.Sorted.{IsStrictlyIncreasing}
use Rattle.std.proofs.lemmas.List.{length-take, length-drop, get_or-take, get_or-drop}
use Rattle.std.proofs.Math.Seq.{drop-append_seam, take-append-add, take-append_seam}
use Rattle.std.proofs.lemmas.List.Elements.{All-contains, All-push, Contains-append_left, Contains-append_right, Contains-append_cases, Contains-get_or}
use Rattle.std.proofs.lemmas.List.Kept.{AllPairs-from_increasing}
use Rattle.std.proofs.lemmas.List.Quantifiers.{all_pairs_push}
use Rattle.cq_base.specs.declared.entry.Entry.{Entry}
use Rattle.cq_base.proofs.Lists.{Contains-here, Contains-nil, Contains-cases}
use Rattle.cq_shard.specs.Shard.{brought, all_brought, put_of, puts_among}
use Rattle.cq_shard.proofs.Entries.{from_entries}

pub left_same : (test : ℕ → Bool) (xs : List ℕ) → ((n : ℕ) → Contains xs n → test n ≡ true) → filter test xs ≡ xs
left_same test [] all = refl
left_same test (x ∷ xs) all =
    ap (λ b. cond b (x ∷ filter test xs) (filter test xs)) (all x (0, omega arith, refl))
    ∙ ap (λ ns. x ∷ ns) (left_same test xs (λ n (k, within, is). all n (suc k, omega (arith, within), is)))

-- ---- numbers that rise

rising-from_pairs : (xs : List ℕ) → AllPairs (λ a b. a < b) xs → IsStrictlyIncreasing xs
rising-from_pairs xs pairs k within = pairs k (k + 1) 0 (omega arith) within

rising_push : (xs : List ℕ) (n : ℕ) → IsStrictlyIncreasing xs → ((r : ℕ) → Contains xs r → r < n) → IsStrictlyIncreasing (xs ++ n ∷ [])
rising_push xs n up above =
    rising-from_pairs (xs ++ n ∷ []) (all_pairs_push (λ a b. a < b) xs n (AllPairs-from_increasing xs up) (λ k d lt. above (get_or xs k d) (Contains-get_or xs k d lt)))

pub rising_front : (xs : List ℕ) (n : ℕ) → IsStrictlyIncreasing xs → IsStrictlyIncreasing (take n xs)
rising_front xs n up k within =
    let many = length-take n xs in
    let a = get_or-take n xs k 0 (omega (arith, many, within)) in
    let b = get_or-take n xs (k + 1) 0 (omega (arith, many, within)) in
    let h = up k (omega (arith, many, within)) in
    omega (arith, a, b, h)

pub rising_rest : (xs : List ℕ) (n : ℕ) → IsStrictlyIncreasing xs → IsStrictlyIncreasing (drop n xs)
rising_rest xs n up k within =
    let many = length-drop n xs in
    let a = get_or-drop n xs k 0 in
    let b = get_or-drop n xs (k + 1) 0 in
    let h = up (n + k) (omega (arith, many, within)) in
    let same : get_or xs (n + (k + 1)) 0 ≡ get_or xs (n + k + 1) 0 = ap (λ i. get_or xs i 0) (omega arith) in
    omega (arith, a, b, h, same)

pub rising_behind : (xs ys : List ℕ) → IsStrictlyIncreasing (xs ++ ys) → IsStrictlyIncreasing ys
rising_behind xs ys up = subst IsStrictlyIncreasing (drop-append_seam xs ys) (rising_rest (xs ++ ys) (length xs) up)

pub rising_before : (xs ys : List ℕ) → IsStrictlyIncreasing (xs ++ ys) → IsStrictlyIncreasing xs
rising_before xs ys up = subst IsStrictlyIncreasing (take-append_seam xs ys) (rising_front (xs ++ ys) (length xs) up)

pub rising_part : (xs ys : List ℕ) (n : ℕ) → IsStrictlyIncreasing (xs ++ ys) → IsStrictlyIncreasing (xs ++ take n ys)
rising_part xs ys n up = subst IsStrictlyIncreasing (take-append-add xs ys n) (rising_front (xs ++ ys) (length xs + n) up)

-- ---- the puts that changes bring

module _ {W : Type 0} where
  pub put_is : (change : ℕ) (work : Option W) (n : ℕ) → Contains (put_of change work) n → n ≡ change
  put_is change None n c = absurd (Contains-nil n c)
  put_is change (Some w) n c = ⊎_elim (λ same. sym same) (λ none. absurd (Contains-nil n none)) (Contains-cases change n [] c)

  -- they rise after those before
  pub put_rises : (puts : List ℕ) (applied change : ℕ) (work : Option W) → applied < change → IsStrictlyIncreasing puts → All (λ n. n ≤ applied) puts → IsStrictlyIncreasing (puts ++ put_of change work) × All (λ n. n ≤ change) (puts ++ put_of change work)
  put_rises puts applied change None above up low =
      subst (λ ns. IsStrictlyIncreasing ns × All (λ n. n ≤ change) ns) (sym (append-nil puts))
      (up, λ i d lt. let h = low i d lt in omega (arith, h, above))
  put_rises puts applied change (Some w) above up low = (
    rising_push puts change up (λ r c. let h = All-contains (λ n. n ≤ applied) puts r low c in omega (arith, h, above)),
    All-push (λ n. n ≤ change) puts change (λ i d lt. let h = low i d lt in omega (arith, h, above)) (omega arith),
  )

  pub puts_rise : (puts : List ℕ) (applied : ℕ) (works : List (Option W)) → IsStrictlyIncreasing puts → All (λ n. n ≤ applied) puts → IsStrictlyIncreasing (puts ++ puts_among applied works) × All (λ n. n ≤ applied + length works) (puts ++ puts_among applied works)
  puts_rise puts applied [] up low =
      subst (λ ns. IsStrictlyIncreasing ns × All (λ n. n ≤ applied + 0) ns) (sym (append-nil puts))
      (up, λ i d lt. let h = low i d lt in omega (arith, h))
  puts_rise puts applied (work ∷ works) up low =
      let one = put_rises puts applied (applied + 1) work (omega arith) up low in
      let all = puts_rise (puts ++ put_of (applied + 1) work) (applied + 1) works one.0 one.1 in
      let many : applied + 1 + length works ≡ applied + length (work ∷ works) = omega arith in
      subst (λ k. IsStrictlyIncreasing (puts ++ puts_among applied (work ∷ works)) × All (λ n. n ≤ k) (puts ++ puts_among applied (work ∷ works))) many
      (subst (λ ns. IsStrictlyIncreasing ns × All (λ n. n ≤ applied + 1 + length works) ns) (append_assoc puts (put_of (applied + 1) work) (puts_among (applied + 1) works)) all)

  pub puts_between : (applied : ℕ) (works : List (Option W)) (n : ℕ) → Contains (puts_among applied works) n → (applied < n) × (n ≤ applied + length works)
  puts_between applied [] n c = absurd (Contains-nil n c)
  puts_between applied (work ∷ works) n c = ⊎_elim
      (λ here. let same = put_is (applied + 1) work n here in (omega (arith, same), omega (arith, same)))
      (λ later. let more = puts_between (applied + 1) works n later in (omega (arith, more.0), omega (arith, more.1)))
      (Contains-append_cases (put_of (applied + 1) work) (puts_among (applied + 1) works) n c)

  -- each entry is of one of them
  pub brought_put : (keys_in : W → List ℕ) (change shard shards : ℕ) (work : Option W) (e : Entry) → Contains (brought keys_in change shard shards work) e → Contains (put_of change work) e.change
  brought_put keys_in change shard shards None e c = absurd (Contains-nil e c)
  brought_put keys_in change shard shards (Some w) e c =
      subst (Contains (change ∷ [])) (sym (from_entries change shard shards 0 (keys_in w) e c).change) (Contains-here change [])

  pub brought_puts : (keys_in : W → List ℕ) (applied shard shards : ℕ) (works : List (Option W)) (e : Entry) → Contains (all_brought keys_in applied shard shards works) e → Contains (puts_among applied works) e.change
  brought_puts keys_in applied shard shards [] e c = absurd (Contains-nil e c)
  brought_puts keys_in applied shard shards (work ∷ works) e c = ⊎_elim
      (λ here. Contains-append_left (put_of (applied + 1) work) (puts_among (applied + 1) works) e.change (brought_put keys_in (applied + 1) shard shards work e here))
      (λ later. Contains-append_right (put_of (applied + 1) work) (puts_among (applied + 1) works) e.change (brought_puts keys_in (applied + 1) shard shards works e later))
      (Contains-append_cases (brought keys_in (applied + 1) shard shards work) (all_brought keys_in (applied + 1) shard shards works) e c)

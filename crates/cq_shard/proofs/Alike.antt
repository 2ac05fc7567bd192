-- Numbers that rise, and a part of them: up to the first that goes both are alike, and from there on no longer.
use Rattle.std.proofs.Common.{◌≡◌, ℕ, zero, suc, ◌+◌, ◌-◌, ◌<◌, ◌≤◌, List, length, get_or, refl, sym, ap, ◌∙◌, subst, ⊎_elim, arith}
use Rattle.std.specs.List.Sorted.{IsStrictlyIncreasing}
use Rattle.std.proofs.lemmas.Bool.{cases_lt}
use Rattle.std.proofs.lemmas.List.{get_or_default, same_lists}
use Rattle.std.proofs.lemmas.List.Elements.{Contains-get_or}
use Rattle.cq_shard.specs.Tables.{AreAmong, IsAlike, AreAlikeInFront, AreAlikeUpTo}
use Rattle.cq_shard.proofs.Live.{rises}

-- what is to be kept at a place stands no nearer than so many places further on
abbrev pub IsBehind : List ℕ → List ℕ → ℕ → ℕ → Type 0
IsBehind xs ys gone at = at < length ys → (at + gone < length xs) × (get_or xs (at + gone) 0 ≤ get_or ys at 0)

module _ (xs ys : List ℕ) (up : IsStrictlyIncreasing xs) (part_up : IsStrictlyIncreasing ys) (among : AreAmong ys xs) where
  place : (i : ℕ) → i < length ys → (k : ℕ) × (k < length xs) × (get_or xs k 0 ≡ get_or ys i 0)
  place i within =
      let (k, inside, is) = among (get_or ys i 0) (Contains-get_or ys i 0 within) in
      (k, inside, get_or_default xs k 0 (get_or ys i 0) inside ∙ is)

  -- a greater number stands further on
  later : (a k : ℕ) → a < length xs → get_or xs a 0 < get_or xs k 0 → a < k
  later a k within less = ⊎_elim
      (λ lt. lt)
      (λ (no : k ≤ a). let h = rises xs up k a no within in absurd (omega (arith, h, less)))
      (cases_lt a k)

  low_next : (i g : ℕ) → i + 1 < length ys → i + g < length xs → get_or xs (i + g) 0 ≤ get_or ys i 0 → (i + 1 + g < length xs) × (get_or xs (i + 1 + g) 0 ≤ get_or ys (i + 1) 0)
  low_next i g next within low =
      let (k, inside, is) = place (i + 1) next in
      let more = part_up i next in
      let on : i + g < k = later (i + g) k within (omega (arith, low, more, is)) in
      let h = rises xs up (i + 1 + g) k (omega (arith, on)) inside in
      (omega (arith, on, inside), omega (arith, h, is))

  -- where it stands further on, it does so after the next
  past : (i g : ℕ) → i < length ys → i + g < length xs → get_or xs (i + g) 0 < get_or ys i 0 → (i + (g + 1) < length xs) × (get_or xs (i + (g + 1)) 0 ≤ get_or ys i 0)
  past i g here within less =
      let (k, inside, is) = place i here in
      let on : i + g < k = later (i + g) k within (omega (arith, less, is)) in
      let h = rises xs up (i + (g + 1)) k (omega (arith, on)) inside in
      (omega (arith, on, inside), omega (arith, h, is))

  less_next : (i g : ℕ) → i + 1 < length ys → i + g < length xs → get_or xs (i + g) 0 < get_or ys i 0 → (i + 1 + g < length xs) × (get_or xs (i + 1 + g) 0 < get_or ys (i + 1) 0)
  less_next i g next within less =
      let (long, low) = past i g (omega (arith, next)) within less in
      let more = part_up i next in
      let same : get_or xs (i + (g + 1)) 0 ≡ get_or xs (i + 1 + g) 0 = ap (λ k. get_or xs k 0) (omega arith) in
      (omega (arith, long), omega (arith, low, more, same))

  lows : (g at d i : ℕ) → i ≡ at + d → at + g < length xs → get_or xs (at + g) 0 ≤ get_or ys at 0 → i < length ys → (i + g < length xs) × (get_or xs (i + g) 0 ≤ get_or ys i 0)
  lows g at zero i is within low inside =
      let same : at ≡ i = omega (arith, is) in
      subst (λ k. (k + g < length xs) × (get_or xs (k + g) 0 ≤ get_or ys k 0)) same (within, low)
  lows g at (suc d) i is within low inside =
      let (long, before) = lows g at d (at + d) refl within low (omega (arith, is, inside)) in
      let next : at + d + 1 ≡ i = omega (arith, is) in
      subst (λ k. (k + g < length xs) × (get_or xs (k + g) 0 ≤ get_or ys k 0)) next (low_next (at + d) g (omega (arith, next, inside)) long before)

  lesses : (g at d i : ℕ) → i ≡ at + d → at + g < length xs → get_or xs (at + g) 0 < get_or ys at 0 → i < length ys → (i + g < length xs) × (get_or xs (i + g) 0 < get_or ys i 0)
  lesses g at zero i is within less inside =
      let same : at ≡ i = omega (arith, is) in
      subst (λ k. (k + g < length xs) × (get_or xs (k + g) 0 < get_or ys k 0)) same (within, less)
  lesses g at (suc d) i is within less inside =
      let (long, before) = lesses g at d (at + d) refl within less (omega (arith, is, inside)) in
      let next : at + d + 1 ≡ i = omega (arith, is) in
      subst (λ k. (k + g < length xs) × (get_or xs (k + g) 0 < get_or ys k 0)) next (less_next (at + d) g (omega (arith, next, inside)) long before)

  pub first_behind : IsBehind xs ys 0 0
  first_behind here =
      let (k, inside, is) = place 0 here in
      let h = rises xs up 0 k (omega arith) inside in
      (omega (arith, inside), omega (arith, h, is))

  low_from : (g at i : ℕ) → IsBehind xs ys g at → at ≤ i → i < length ys → (i + g < length xs) × (get_or xs (i + g) 0 ≤ get_or ys i 0)
  low_from g at i behind from within =
      let (long, low) = behind (omega (arith, from, within)) in
      lows g at (i - at) i (omega (arith, from)) long low within

  pub alike_in_front : (g at : ℕ) → IsBehind xs ys g at → AreAlikeInFront xs ys g at
  alike_in_front g at behind i j from to within same =
      let (long, low) = low_from g at i behind from (omega (arith, to, within)) in
      ⊎_elim
      (λ (less : get_or xs (i + g) 0 < get_or ys i 0). let (far, on) = lesses g i (j - i) j (omega (arith, to)) long less within in absurd (omega (arith, on, same)))
      (λ (no : get_or ys i 0 ≤ get_or xs (i + g) 0). omega (arith, low, no))
      (cases_lt (get_or xs (i + g) 0) (get_or ys i 0))

  -- after the first that is not alike one more is gone
  pub next_behind : (g at to : ℕ) → IsBehind xs ys g at → AreAlikeUpTo xs ys g at to → IsBehind xs ys (g + 1) to
  next_behind g at to behind alike here =
      let begins = alike.begins in
      let (long, low) = low_from g at to behind begins here in
      ⊎_elim
      (λ less. past to g here long less)
      (λ (no : get_or ys to 0 ≤ get_or xs (to + g) 0). absurd (alike.differs here (omega (arith, low, no))))
      (cases_lt (get_or xs (to + g) 0) (get_or ys to 0))

  -- a part is no longer
  pub part_fits : length ys ≤ length xs
  part_fits = ⊎_elim
      (λ (some : 0 < length ys). let (long, low) = low_from 0 0 (length ys - 1) first_behind (omega arith) (omega (arith, some)) in omega (arith, long))
      (λ (none : length ys ≤ 0). omega (arith, none))
      (cases_lt 0 (length ys))

  module _ (more : ℕ) (number : length xs ≡ length ys + more) where
    highs : (d i : ℕ) → i + d + 1 ≡ length ys → get_or ys i 0 ≤ get_or xs (i + more) 0
    highs zero i is =
        let (k, inside, at) = place i (omega (arith, is)) in
        let h = rises xs up k (i + more) (omega (arith, inside, number, is)) (omega (arith, number, is)) in
        omega (arith, h, at)
    highs (suc d) i is =
        let (k, inside, at) = place i (omega (arith, is)) in
        let next = highs d (i + 1) (omega (arith, is)) in
        let less = part_up i (omega (arith, is)) in
        let lt : k < i + 1 + more = later k (i + 1 + more) inside (omega (arith, at, less, next)) in
        let h = rises xs up k (i + more) (omega (arith, lt)) (omega (arith, number, is)) in
        omega (arith, h, at)

    -- where all that go are passed over, the rest is alike
    pub rest_alike : (at : ℕ) → IsBehind xs ys more at → (i : ℕ) → at ≤ i → i < length ys → IsAlike xs ys more i
    rest_alike at behind i from within =
        let (long, low) = low_from more at i behind from within in
        let high = highs (length ys - i - 1) i (omega (arith, within)) in
        omega (arith, low, high)

-- a part that is as long is all
pub part_is_all : (xs ys : List ℕ) → IsStrictlyIncreasing xs → IsStrictlyIncreasing ys → AreAmong ys xs → length ys ≡ length xs → xs ≡ ys
part_is_all xs ys up part_up among long =
    let number : length xs ≡ length ys + 0 = omega (arith, long) in
    same_lists xs ys (sym long) (λ k d lt.
    let inside : k < length ys = omega (arith, lt, long) in
    let same = rest_alike xs ys up part_up among 0 number 0 (first_behind xs ys up part_up among) k (omega arith) inside in
    let place : k + 0 ≡ k = omega arith in
    get_or_default xs k d 0 lt ∙ sym (ap (λ i. get_or xs i 0) place) ∙ same ∙ get_or_default ys k 0 d inside)

-- two that rise and have the same numbers are the same
pub rising_same : (xs ys : List ℕ) → IsStrictlyIncreasing xs → IsStrictlyIncreasing ys → AreAmong xs ys → AreAmong ys xs → xs ≡ ys
rising_same xs ys up other_up there here =
    let few = part_fits xs ys up other_up here in
    let many = part_fits ys xs other_up up there in
    part_is_all xs ys up other_up here (omega (arith, few, many))

-- ---- by halves

-- from one place up to a second they are alike, and not at a third, unless nothing more is to be kept
pub record IsHalving (changes keep : List ℕ) (gone from low high : ℕ) : Type 0 where
  pub begins : from ≤ low
  pub ordered : low ≤ high
  pub within : high ≤ length keep
  pub same : (i : ℕ) → from ≤ i → i < low → IsAlike changes keep gone i
  pub differs : high < length keep → IsAlike changes keep gone high → ⊥

module _ (changes keep : List ℕ) (gone from : ℕ) where
  pub halving_first : from ≤ length keep → IsHalving changes keep gone from from (length keep)
  halving_first low = record {
    begins = omega arith;
    ordered = low;
    within = omega arith;
    same = λ i above below. absurd (omega (arith, above, below));
    differs = λ here. absurd (omega (arith, here));
  }

  module _ (low high middle : ℕ) (was : IsHalving changes keep gone from low high) (above : low ≤ middle) (below : middle < high) where
    pub halving_behind : AreAlikeInFront changes keep gone from → IsAlike changes keep gone middle → IsHalving changes keep gone from (middle + 1) high
    halving_behind front is =
        let begins = was.begins in
        let most = was.within in
        record {
          begins = omega (arith, begins, above);
          ordered = omega (arith, below);
          within = was.within;
          same = λ i after before. front i middle after (omega (arith, before)) (omega (arith, below, most)) is;
          differs = was.differs;
        }

    pub halving_before : (IsAlike changes keep gone middle → ⊥) → IsHalving changes keep gone from low middle
    halving_before other =
        let most = was.within in
        record {
          begins = was.begins;
          ordered = above;
          within = omega (arith, below, most);
          same = was.same;
          differs = λ here. other;
        }

  pub halving_last : (low high : ℕ) → high ≤ low → IsHalving changes keep gone from low high → AreAlikeUpTo changes keep gone from low
  halving_last low high past was =
      let ordered = was.ordered in
      let most = was.within in
      let same : low ≡ high = omega (arith, ordered, past) in
      record {
        begins = was.begins;
        within = omega (arith, same, most);
        same = was.same;
        differs = λ here is. was.differs (omega (arith, same, here)) (subst (IsAlike changes keep gone) same is);
      }

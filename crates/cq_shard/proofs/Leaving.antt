-- What a sweep leaves of the puts: those to keep up to the floor, and all after it.
use Rattle.std.proofs.Common.{◌≡◌, ℕ, ◌+◌, ◌-◌, ◌<◌, ◌≤◌, Bool, nat_le, List, ◌++◌, length, take, drop, filter, sym, ap₂, ap, ◌∙◌, subst, ⊎_elim, arith, append-nil}
use Rattle.std.specs.Prelude.{All, Contains}
use Rattle.std.specs.List.Sorted.{IsStrictlyIncreasing, IsPartitionedBy}
use Rattle.std.proofs.lemmas.Bool.{cases_lt, le-leb, leb-true, false_from_ne_true}
use Rattle.std.proofs.lemmas.List.{take-append-drop, length-take, length-drop, get_or-take, get_or-drop, get_or_default}
use Rattle.std.proofs.lemmas.List.Elements.{All-contains, All-take, filter-append}
use Rattle.std.proofs.lemmas.List.Kept.{IsStrictlyIncreasing-filter}
use Rattle.cq_base.proofs.Lists.{Contains-filter, Contains-from_filter}
use Rattle.cq_shard.specs.Tables.{AreAmong, IsUpTo, IsPart, no_later, stays, staying}
use Rattle.cq_shard.proofs.Alike.{first_behind, part_fits, part_is_all, rising_same}
use Rattle.cq_shard.proofs.Closing.{rest_stands}
use Rattle.cq_shard.proofs.Finding.{none_kept}
use Rattle.cq_shard.proofs.Live.{rises}
use Rattle.cq_shard.proofs.Staying.{stays_above, stays_kept, stays_cases}
use Rattle.cq_shard.proofs.Taking.{left_same, rising_front}

-- a search by halves finds how many are at most the floor
pub parted_numbers : (xs : List ℕ) (floor : ℕ) → IsStrictlyIncreasing xs → IsPartitionedBy (λ n. nat_le n floor) xs
parted_numbers xs floor up i j d low within later =
    let a = get_or_default xs i d 0 (omega (arith, low, within)) in
    let b = get_or_default xs j d 0 within in
    let h = rises xs up i j low within in
    grind arith

module _ (xs : List ℕ) (floor many : ℕ) (up_to : IsUpTo xs floor many) where
  pub front_in : (n : ℕ) → Contains (take many xs) n → Contains xs n × (n ≤ floor)
  front_in n (k, within, is) =
      let few = length-take many xs in
      let near : k < many = omega (arith, few, within) in
      let there = sym (get_or-take many xs k n near) ∙ is in
      let low = up_to.low k n (omega arith) near in
      ((k, omega (arith, few, within), there), omega (arith, low, there))

  pub front_has : (n : ℕ) → Contains xs n → n ≤ floor → Contains (take many xs) n
  front_has n (k, within, is) low =
      let few = length-take many xs in
      ⊎_elim
      (λ (lt : k < many). (k, omega (arith, few, within, lt), get_or-take many xs k n lt ∙ is))
      (λ (no : many ≤ k). let high = up_to.high k n no within in absurd (omega (arith, high, is, low)))
      (cases_lt k many)

  pub rest_above : (n : ℕ) → Contains (drop many xs) n → floor < n
  rest_above n (k, within, is) =
      let few = length-drop many xs in
      let there = sym (get_or-drop many xs k n) ∙ is in
      let high = up_to.high (many + k) n (omega arith) (omega (arith, few, within)) in
      omega (arith, high, there)

module _ (changes keep : List ℕ) (floor end kept : ℕ) (up : IsStrictlyIncreasing changes) (keep_up : IsStrictlyIncreasing keep) (known : AreAmong keep changes) (ends : IsUpTo changes floor end) (keeps : IsUpTo keep floor kept) where
  among : AreAmong (take kept keep) (take end changes)
  among n there = let (here, low) = front_in keep floor kept keeps n there in front_has changes floor end ends n (known n here) low

  pub fewer_kept : kept ≤ end
  fewer_kept =
      let fits = part_fits (take end changes) (take kept keep) (rising_front changes end up) (rising_front keep kept keep_up) among in
      let a = length-take end changes in
      let b = length-take kept keep in
      let c = keeps.within in
      omega (arith, fits, a, b, c)

  pub kept_part : (number : ℕ) → number ≡ end - kept → (length (take kept keep) + number ≤ length changes) × IsPart (take (length (take kept keep) + number) changes) (take kept keep) number
  kept_part number is =
      let fits = fewer_kept in
      let long = ends.within in
      let most = keeps.within in
      let many = length-take end changes in
      let few : length (take kept keep) ≡ kept = (let few = length-take kept keep in omega (arith, few, most)) in
      let same : end ≡ length (take kept keep) + number = omega (arith, is, fits, few) in (
        omega (arith, same, long),
        subst (λ k. IsPart (take k changes) (take kept keep) number) same (record {
          rising = rising_front changes end up;
          part_rises = rising_front keep kept keep_up;
          among = among;
          number = omega (arith, many, long, same);
        }),
      )

  abbrev test : ℕ → Bool
  test = λ n. stays floor keep n

  front_stays : filter test (take end changes) ≡ take kept keep
  front_stays = rising_same (filter test (take end changes)) (take kept keep)
      (IsStrictlyIncreasing-filter test (take end changes) (rising_front changes end up))
      (rising_front keep kept keep_up)
      (λ n c.
      let (there, stands) = Contains-from_filter test (take end changes) n c in
      let (here, low) = front_in changes floor end ends n there in
      ⊎_elim
      (λ (above : floor < n). absurd (omega (arith, above, low)))
      (λ kept_there. front_has keep floor kept keeps n kept_there low)
      (stays_cases floor keep n stands))
      (λ n c.
      let (here, low) = front_in keep floor kept keeps n c in
      Contains-filter test (take end changes) n (among n c) (stays_kept floor keep n here))

  pub left_is : take kept keep ++ drop end changes ≡ staying floor keep changes
  left_is =
      sym (
      ap (filter test) (sym (take-append-drop end changes))
      ∙ filter-append test (take end changes) (drop end changes)
      ∙ ap₂ (λ xs ys. xs ++ ys) front_stays (left_same test (drop end changes) (λ n c. stays_above floor keep n (rest_above changes floor end ends n c))))

  pub left_stays : take kept keep ++ drop (length (take kept keep) + (end - kept)) changes ≡ staying floor keep changes
  left_stays =
      let fits = fewer_kept in
      let few = length-take kept keep in
      let most = keeps.within in
      ap (λ k. take kept keep ++ drop k changes) (omega (arith, fits, few, most)) ∙ left_is

  -- where none is less, none goes
  pub none_goes : end - kept ≡ 0 → staying floor keep changes ≡ changes
  none_goes none =
      let fits = fewer_kept in
      let (within, part) = kept_part 0 (sym none) in
      let few : length (take kept keep) + 0 ≡ end = (let a = length-take kept keep in let b = keeps.within in omega (arith, a, b, fits, none)) in
      sym (rest_stands changes (take kept keep) 0 within part 0 (omega arith) (first_behind (take (length (take kept keep) + 0) changes) (take kept keep) part.rising part.part_rises part.among)
      ∙ ap (λ k. take kept keep ++ drop k changes) few ∙ left_is)

-- where as many are to be kept as there are, none goes
pub all_stay : (changes keep : List ℕ) (floor : ℕ) → IsStrictlyIncreasing changes → IsStrictlyIncreasing keep → AreAmong keep changes → length keep ≡ length changes → staying floor keep changes ≡ changes
all_stay changes keep floor up keep_up known number =
    let same = part_is_all changes keep up keep_up known number in
    left_same (λ n. stays floor keep n) changes (λ n c. stays_kept floor keep n (subst (λ ns. Contains ns n) same c))

-- what is cut after a last number
pub cut_is : (xs : List ℕ) (last many : ℕ) → IsUpTo xs last many → take many xs ≡ no_later last xs
cut_is xs last many up_to = sym (
    ap (filter (λ n. nat_le n last)) (sym (take-append-drop many xs))
    ∙ filter-append (λ n. nat_le n last) (take many xs) (drop many xs)
    ∙ ap₂ (λ xs ys. xs ++ ys)
    (left_same (λ n. nat_le n last) (take many xs) (λ n c. le-leb n last (front_in xs last many up_to n c).1))
    (none_kept (λ n. nat_le n last) (drop many xs) (λ n c. false_from_ne_true (nat_le n last) (λ h. let low = leb-true n last h in let high = rest_above xs last many up_to n c in omega (arith, low, high))))
    ∙ append-nil (take many xs))

-- if none is after a last number but for some that came later, these are cut
pub cut_back : (old more : List ℕ) (last many : ℕ) → All (λ n. n ≤ last) old → All (λ n. last < n) more → no_later last (old ++ take many more) ≡ old
cut_back old more last many low high =
    filter-append (λ n. nat_le n last) old (take many more)
    ∙ ap₂ (λ xs ys. xs ++ ys)
    (left_same (λ n. nat_le n last) old (λ n c. le-leb n last (All-contains (λ n. n ≤ last) old n low c)))
    (none_kept (λ n. nat_le n last) (take many more) (λ n c. false_from_ne_true (nat_le n last) (λ h. let under = leb-true n last h in let above = All-contains (λ n. last < n) (take many more) n (All-take (λ n. last < n) many more high) c in omega (arith, under, above))))
    ∙ append-nil old

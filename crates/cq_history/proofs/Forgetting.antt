-- Which changes are gone at a floor: what is computed is what is said.
use Rattle.std.proofs.Common.{◌≡◌, ℕ, ◌+◌, ◌-◌, ◌<◌, ◌≤◌, Bool, true, List, ◌++◌, length, get_or, take, drop, min, Some, refl, sym, subst, ap, ◌∙◌, arith, Contains, length-append}
use Rattle.std.specs.Prelude.{◌↔◌, not, slice_get, nat_le}
use Rattle.std.specs.List.{list_any, range_with_len}
use Rattle.std.specs.List.Sorted.{IsStrictlyIncreasing}
use Rattle.std.proofs.lemmas.Bool.{and_parts, and_from, leb-true, le-leb, not-true, not_from_false, false_from_ne_true, true≢false}
use Rattle.std.proofs.lemmas.List.{get_or-take, get_or-drop, length-take, length-drop}
use Rattle.std.proofs.lemmas.List.Folds.{Any-from_list_any, list_any_at}
use Rattle.std.proofs.lemmas.List.FromFn.{length-range_with_len, get_or-range_with_len}
use Rattle.std.proofs.lemmas.List.Kept.{IsStrictlyIncreasing-filter}
use Rattle.std.proofs.lemmas.Option.{slice_get-get_or, slice_get_within, get_or_from_slice_get}
use Rattle.cq_base.specs.declared.change.Change.{Change}
use Rattle.cq_base.specs.declared.change.Change.TheVariants.{Put, Drop, Gate}
use Rattle.cq_base.proofs.Lists.{Contains-filter, Contains-from_filter}
use Rattle.cq_history.specs.Changes.{is_of_file, is_gate_of, change_at, no_change, IsNumber}
use Rattle.cq_history.specs.Gone.{IsFollowed, IsOver, IsGone, AreKept, is_over, is_gone, kept_numbers}
use Rattle.cq_history.proofs.Numbers.{change_at-append}

-- ---- a later change passes a test

pub any_follows : (test : Change → Bool) (changes : List Change) (floor r : ℕ) → list_any test (drop r (take floor changes)) ≡ true → IsFollowed test changes floor r
any_follows test changes floor r h =
    let (k, x, lt, at, found) = Any-from_list_any test (drop r (take floor changes)) h in
    let many : length (drop r (take floor changes)) ≡ min floor (length changes) - r = length-drop r (take floor changes) ∙ ap (λ n. n - r) (length-take floor changes) in
    let within : r + k < floor = grind (arith, lt, many) in
    let inside : r + k < length changes = grind (arith, lt, many) in
    let read : get_or changes (r + k) x ≡ x = sym (get_or-take floor changes (r + k) x within) ∙ sym (get_or-drop r (take floor changes) k x) ∙ at in
    let index : r + k + 1 - 1 ≡ r + k = omega arith in
    record {
      later = r + k + 1;
      change = x;
      behind = omega arith;
      within = omega (arith, within);
      next = ap (slice_get changes) index ∙ slice_get-get_or changes (r + k) x inside ∙ ap (λ c. Some c) read;
      passes = found;
    }

pub follows_any : (test : Change → Bool) (changes : List Change) (floor r : ℕ) → IsFollowed test changes floor r → list_any test (drop r (take floor changes)) ≡ true
follows_any test changes floor r f =
    let inside : f.later - 1 < length changes = slice_get_within changes (f.later - 1) f.change f.next in
    let many : length (drop r (take floor changes)) ≡ min floor (length changes) - r = length-drop r (take floor changes) ∙ ap (λ n. n - r) (length-take floor changes) in
    let lt : f.later - 1 - r < length (drop r (take floor changes)) = grind (arith, inside, many, f.behind, f.within) in
    let index : r + (f.later - 1 - r) ≡ f.later - 1 = omega (arith, f.behind) in
    let read : get_or (drop r (take floor changes)) (f.later - 1 - r) no_change ≡ f.change =
    get_or-drop r (take floor changes) (f.later - 1 - r) no_change ∙ ap (λ n. get_or (take floor changes) n no_change) index
    ∙ get_or-take floor changes (f.later - 1) no_change (omega (arith, f.behind, f.within)) ∙ get_or_from_slice_get changes (f.later - 1) f.change no_change f.next
    in
    list_any_at test (drop r (take floor changes)) (f.later - 1 - r) no_change lt (subst (λ c. test c ≡ true) (sym read) f.passes)

pub followed_higher : (test : Change → Bool) (changes later : List Change) (floor higher r : ℕ) → floor ≤ higher → IsFollowed test changes floor r → IsFollowed test (changes ++ later) higher r
followed_higher test changes later floor higher r low f =
    let inside = slice_get_within changes (f.later - 1) f.change f.next in
    record {
      later = f.later;
      change = f.change;
      behind = f.behind;
      within = omega (arith, f.within, low);
      next = change_at-append changes later f.later (omega (arith, f.behind), omega (arith, inside)) ∙ f.next;
      passes = f.passes;
    }

-- ---- what is gone

over_is : (changes : List Change) (floor r : ℕ) (c : Change) → (is_over c (drop r (take floor changes)) ≡ true) ↔ IsOver changes floor r c
over_is changes floor r (Put project path lang text) = (any_follows (is_of_file project path) changes floor r, follows_any (is_of_file project path) changes floor r)
over_is changes floor r (Drop project path) = (λ h. tt, λ h. refl)
over_is changes floor r (Gate project conditions) = (any_follows (is_gate_of project) changes floor r, follows_any (is_gate_of project) changes floor r)

over_higher : (changes later : List Change) (floor higher r : ℕ) (c : Change) → floor ≤ higher → IsOver changes floor r c → IsOver (changes ++ later) higher r c
over_higher changes later floor higher r (Put project path lang text) low over = followed_higher (is_of_file project path) changes later floor higher r low over
over_higher changes later floor higher r (Drop project path) low over = tt
over_higher changes later floor higher r (Gate project conditions) low over = followed_higher (is_gate_of project) changes later floor higher r low over

-- the change of a number
pub change_there : (changes : List Change) (r : ℕ) → IsNumber changes r → change_at changes r ≡ Some (get_or changes (r - 1) no_change)
change_there changes r is = slice_get-get_or changes (r - 1) no_change (omega (arith, is.0, is.1))

pub gone_is : (changes : List Change) (floor r : ℕ) → IsNumber changes r → (is_gone changes floor r ≡ true) ↔ IsGone changes floor r
gone_is changes floor r is =
    let c : Change = get_or changes (r - 1) no_change in (
      λ h.
          let both = and_parts (nat_le r floor) (is_over c (drop r (take floor changes))) h in
          record {
            change = c;
            accepted = is;
            within = leb-true r floor both.0;
            is = change_there changes r is;
            over = (over_is changes floor r c).0 both.1;
          },
      λ g.
          let same : g.change ≡ c = sym (get_or_from_slice_get changes (r - 1) g.change no_change g.is) in
          and_from (nat_le r floor) (is_over c (drop r (take floor changes))) (le-leb r floor g.within) ((over_is changes floor r c).1 (subst (IsOver changes floor r) same g.over)),
    )

pub stays_gone : (changes later : List Change) (floor higher r : ℕ) → floor ≤ higher → IsGone changes floor r → IsGone (changes ++ later) higher r
stays_gone changes later floor higher r low g = record {
  change = g.change;
  accepted = (g.accepted.0, omega (arith, g.accepted.1, more));
  within = omega (arith, g.within, low);
  is = change_at-append changes later r g.accepted ∙ g.is;
  over = over_higher changes later floor higher r g.change low g.over;
}
  where
    more : length changes ≤ length (changes ++ later)
    more = omega (arith, length-append changes later)

-- ---- what is kept

pub rising_range : (a n : ℕ) → IsStrictlyIncreasing (range_with_len a n)
rising_range a n k lt =
    let many = length-range_with_len a n in
    let here = get_or-range_with_len a n k 0 (omega (arith, lt, many)) in
    let next = get_or-range_with_len a n (k + 1) 0 (omega (arith, lt, many)) in
    omega (arith, here, next)

pub in_range : (n r : ℕ) → Contains (range_with_len 1 n) r → (0 < r) × (r ≤ n)
in_range n r (k, lt, at) =
    let many = length-range_with_len 1 n in
    let is = get_or-range_with_len 1 n k r (omega (arith, lt, many)) in
    (omega (arith, is, at), omega (arith, is, at, lt, many))

pub range_has : (n r : ℕ) → 0 < r → r ≤ n → Contains (range_with_len 1 n) r
range_has n r some low =
    let many = length-range_with_len 1 n in
    let is = get_or-range_with_len 1 n (r - 1) r (omega (arith, some, low)) in
    (r - 1, omega (arith, some, low, many), is ∙ (let e : 1 + (r - 1) ≡ r = omega (arith, some) in e))

pub kept_are : (changes : List Change) (floor : ℕ) → AreKept changes floor (kept_numbers changes floor)
kept_are changes floor = record {
  rising = IsStrictlyIncreasing-filter test (range_with_len 1 (length changes)) (rising_range 1 (length changes));
  each = λ r. (
    λ has.
        let found = Contains-from_filter test (range_with_len 1 (length changes)) r has in
        let number = in_range (length changes) r found.0 in
        (number, λ g. true≢false (sym ((gone_is changes floor r number).1 g) ∙ not-true _ found.1)),
    λ is.
        Contains-filter test (range_with_len 1 (length changes)) r (range_has (length changes) r is.0.0 is.0.1)
        (not_from_false (is_gone changes floor r) (false_from_ne_true (is_gone changes floor r) (λ h. is.1 ((gone_is changes floor r is.0).0 h)))),
  );
}
  where
    test : ℕ → Bool
    test r = not (is_gone changes floor r)

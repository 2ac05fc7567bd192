-- What is found among the changes that are held: at a number, after one, and the puts up to the floor.
use Rattle.std.proofs.Common.{◌≡◌, ℕ, ◌+◌, ◌-◌, ◌<◌, ◌≤◌, Bool, true, false, cond, nat_le, List, [], ◌∷◌, ◌++◌, filter, get_or, Option, Some, None, refl, sym, ap, ◌∙◌, subst, Bor, arith}
use Rattle.std.specs.Prelude.{◌↔◌, Contains, IsSome, IfSome, is_some, option_copied}
use Rattle.std.specs.BTreeMap.{BTreeMap, get}
use Rattle.std.specs.BTreeMap.Range.{IsRangeOf, entries_between, range_contains}
use Rattle.std.specs.List.Sorted.{IsStrictlyIncreasing}
use Rattle.std.specs.Map.{keys_of}
use Rattle.std.specs.Ordering.{nat_cmp, is_gt}
use Rattle.std.specs.declared.ops.Bound.TheVariants.{Included, Unbounded}
use Rattle.std.proofs.Math.ListN.{get_or-map}
use Rattle.std.proofs.lemmas.Bool.{false≢true}
use Rattle.std.proofs.lemmas.Bool.Decides.{nat_tests}
use Rattle.std.proofs.lemmas.List.Elements.{All-contains}
use Rattle.std.proofs.lemmas.List.Kept.{IsStrictlyIncreasing-filter}
use Rattle.std.proofs.lemmas.Map.Keys.{le_from_not_gt}
use Rattle.cq_base.proofs.Lists.{Contains-here, Contains-there, Contains-filter, Contains-from_filter}
use Rattle.cq_base.specs.declared.change.Change.{Change}
use Rattle.cq_base.specs.declared.change.Change.TheVariants.{Put, Drop, Gate}
use Rattle.cq_base.specs.declared.lang.Lang.{Lang}
use Rattle.cq_base.specs.declared.settings.Settings.{Settings}
use Rattle.cq_history.specs.Changes.{is_put, no_change}
use Rattle.cq_history.specs.Gone.{IsKept, AreKeptPuts, kept_numbers}
use Rattle.cq_history.specs.State.{Slot, no_slot}
use Rattle.cq_history.proofs.Forgetting.{kept_are}
use Rattle.cq_kept.specs.declared.kept.Kept.{Kept}
use Rattle.cq_kept.specs.Accepted.{IsHeldAs, HoldsKept, IsNextHeld, accepted_from}
use Rattle.cq_kept.specs.Slots.{slot_from, slot_at, change_of, changes_of, put_by, IsWorked}
use Rattle.cq_kept.proofs.Changing.{held_at, none_at}

not_gt : (a b : ℕ) → a ≤ b → is_gt (nat_cmp a b) ≡ false
not_gt a b le = grind (arith, nat_tests)

up_to : (floor n : ℕ) → range_contains nat_cmp Unbounded (Included floor) n ≡ nat_le n floor
up_to floor n = grind (arith, nat_tests)

within : (floor n : ℕ) → nat_le n floor ≡ true → n ≤ floor
within floor n h = grind (arith, nat_tests)

is_within : (floor n : ℕ) → n ≤ floor → nat_le n floor ≡ true
is_within floor n h = grind (arith, nat_tests)

-- a part of the entries, by a test that their numbers pass as well, has those of the numbers
keys_filtered : {X : Type 0} (p : ℕ × X → Bool) (q : ℕ → Bool) (es : List (ℕ × X)) → ((e : ℕ × X) → Contains es e → p e ≡ q e.0) → keys_of (filter p es) ≡ filter q (keys_of es)
keys_filtered p q [] same = refl
keys_filtered p q (e ∷ es) same = by (q e.0) (keys_filtered p q es (λ f there. same f (Contains-there e f es there))) (same e (Contains-here e es))
  where
    picked : (b : Bool) → keys_of (filter p es) ≡ filter q (keys_of es) → keys_of (cond b (e ∷ filter p es) (filter p es)) ≡ cond b (e.0 ∷ filter q (keys_of es)) (filter q (keys_of es))
    picked true rest = ap (λ ns. e.0 ∷ ns) rest
    picked false rest = rest

    by : (b : Bool) → keys_of (filter p es) ≡ filter q (keys_of es) → p e ≡ b → keys_of (cond (p e) (e ∷ filter p es) (filter p es)) ≡ cond b (e.0 ∷ filter q (keys_of es)) (filter q (keys_of es))
    by b rest is = ap (λ c. keys_of (cond c (e ∷ filter p es) (filter p es))) is ∙ picked b rest

module _ {W : Type 0} where
  abbrev is_kept_put : ℕ × Kept W → Bool
  is_kept_put e = is_put (change_of e.1.change)

  -- the numbers of the puts among entries
  abbrev pub puts_in : List (ℕ × Kept W) → List ℕ
  puts_in [] = []
  puts_in (e ∷ es) = put_by (change_of e.1.change) e.0 ++ puts_in es

  puts_are : (es : List (ℕ × Kept W)) → puts_in es ≡ keys_of (filter is_kept_put es)
  puts_are [] = refl
  puts_are (e ∷ es) = by (change_of e.1.change) (puts_are es) refl
    where
      by : (c : Change) → puts_in es ≡ keys_of (filter is_kept_put es) → change_of e.1.change ≡ c → put_by (change_of e.1.change) e.0 ++ puts_in es ≡ keys_of (cond (is_put (change_of e.1.change)) (e ∷ filter is_kept_put es) (filter is_kept_put es))
      by (Put project path lang text) rest is =
          ap (λ d. put_by d e.0 ++ puts_in es) is ∙ ap (λ ns. e.0 ∷ ns) rest
          ∙ ap (λ d. keys_of (cond (is_put d) (e ∷ filter is_kept_put es) (filter is_kept_put es))) (sym is)
      by (Drop project path) rest is =
          ap (λ d. put_by d e.0 ++ puts_in es) is ∙ rest
          ∙ ap (λ d. keys_of (cond (is_put d) (e ∷ filter is_kept_put es) (filter is_kept_put es))) (sym is)
      by (Gate project conditions) rest is =
          ap (λ d. put_by d e.0 ++ puts_in es) is ∙ rest
          ∙ ap (λ d. keys_of (cond (is_put d) (e ∷ filter is_kept_put es) (filter is_kept_put es))) (sym is)

-- ---- what is found

module _ {W : Type 0} (IsWork : Lang → List ℕ → W → Type 0) (slots : List Slot) (floor : ℕ) (kept : BTreeMap ℕ (Kept W)) (holds : HoldsKept IsWork slots floor kept) where
  -- a change that is kept is found at its number
  pub held_there : (n : ℕ) → IsKept (changes_of slots) floor n → (k : Kept W) × (get nat_cmp kept n ≡ Some k)
  held_there n is = found (get nat_cmp kept n) refl
    where
      found : (o : Option (Kept W)) → get nat_cmp kept n ≡ o → (k : Kept W) × (get nat_cmp kept n ≡ Some k)
      found None none = absurd (none_at IsWork slots floor kept holds n none is)
      found (Some k) there = (k, there)

  -- ---- at a number

  pub got_some : (n : ℕ) (r : Option (Bor (Kept W))) → option_copied r ≡ get nat_cmp kept n → IsSome r ↔ IsKept (changes_of slots) floor n
  got_some n None is = (λ e. absurd (false≢true e), λ held. absurd (none_at IsWork slots floor kept holds n (sym is) held))
  got_some n (Some k) is = (λ _. (held_at IsWork slots floor kept holds n k.now (sym is)).1, λ _. refl)

  pub got_slot : (n : ℕ) (r : Option (Bor (Kept W))) → option_copied r ≡ get nat_cmp kept n → IfSome r (λ k. slot_from k.now ≡ slot_at slots n)
  got_slot n None is = tt
  got_slot n (Some k) is = (held_at IsWork slots floor kept holds n k.now (sym is)).0.0

  pub got_work : (n : ℕ) (r : Option (Bor (Kept W))) → option_copied r ≡ get nat_cmp kept n → IfSome r (λ k. IsWorked IsWork k.now)
  got_work n None is = tt
  got_work n (Some k) is = (held_at IsWork slots floor kept holds n k.now (sym is)).0.1

  -- ---- after a number

  module _ (settings : Settings) (after : ℕ) (range : List (ℕ × Kept W)) (is_range : IsRangeOf nat_cmp (Included (after + 1)) Unbounded kept range) where
    pub next_is : (n : ℕ) (k : Kept W) (rest : List (ℕ × Kept W)) → range ≡ (n, k) ∷ rest → IsNextHeld (accepted_from settings slots floor) after n × IsHeldAs IsWork slots (n, k)
    next_is n k rest is =
        let here : IsRangeOf nat_cmp (Included (after + 1)) Unbounded kept ((n, k) ∷ rest) = subst (IsRangeOf nat_cmp (Included (after + 1)) Unbounded kept) is is_range in
        let found = held_at IsWork slots floor kept holds n k here.1.1 in
        let behind : after + 1 ≤ n = le_from_not_gt (after + 1) n here.1.0.0 in (
          record {
            behind = omega (arith, behind);
            held = found.1;
            first = λ r low high held.
                let there = held_there r held in
                let inside : is_gt (nat_cmp (after + 1) r) ≡ false = not_gt (after + 1) r (omega (arith, low)) in
                let least : n ≤ r = le_from_not_gt n r (here.2 r (inside, tt) (ap (is_some {T = Kept W}) there.1)) in
                omega (arith, least, high);
          },
          found.0,
        )

    pub next_none : range ≡ [] → (n : ℕ) → after < n → IsKept (changes_of slots) floor n → ⊥
    next_none is n low = none_at IsWork slots floor kept holds n (is_range.5 is n (not_gt (after + 1) n (omega (arith, low)), tt))

  -- ---- the puts up to the floor

  abbrev put_at : ℕ → Bool
  put_at n = is_put (slot_at slots n).change

  abbrev inside : ℕ → Bool
  inside n = range_contains nat_cmp Unbounded (Included floor) n

  put_is : (n : ℕ) → put_at n ≡ is_put (get_or (changes_of slots) (n - 1) no_change)
  put_is n = ap is_put (sym (get_or-map (λ (s : Slot). s.change) slots (n - 1) no_slot))

  module _ (keep : List ℕ) (range : List (ℕ × Kept W)) (between : range ≡ entries_between nat_cmp Unbounded (Included floor) kept.entries) (all : keep ≡ puts_in range) where
    numbers : keep ≡ filter put_at (filter inside (kept_numbers (changes_of slots) floor))
    numbers =
        all
        ∙ puts_are range
        ∙ keys_filtered is_kept_put put_at range (λ e there.
        let entry = (Contains-from_filter (λ (f : ℕ × Kept W). inside f.0) kept.entries e (subst (λ es. Contains es e) between there)).0 in
        ap (λ (s : Slot). is_put s.change) (All-contains (IsHeldAs IsWork slots) kept.entries e holds.each entry).0)
        ∙ ap (λ es. filter put_at (keys_of es)) between
        ∙ ap (filter put_at) (keys_filtered (λ (f : ℕ × Kept W). inside f.0) inside kept.entries (λ e there. refl))
        ∙ ap (λ ns. filter put_at (filter inside ns)) holds.numbers

    pub keep_is : AreKeptPuts (changes_of slots) floor keep
    keep_is =
        let all_kept : List ℕ = kept_numbers (changes_of slots) floor in
        let are = kept_are (changes_of slots) floor in
        record {
          rising = subst IsStrictlyIncreasing (sym numbers) (IsStrictlyIncreasing-filter put_at (filter inside all_kept) (IsStrictlyIncreasing-filter inside all_kept are.rising));
          each = λ n. (
            λ has.
                let put = Contains-from_filter put_at (filter inside all_kept) n (subst (λ ns. Contains ns n) numbers has) in
                let low = Contains-from_filter inside all_kept n put.0 in
                ((are.each n).0 low.0, within floor n (sym (up_to floor n) ∙ low.1), sym (put_is n) ∙ put.1),
            λ is.
                subst (λ ns. Contains ns n) (sym numbers)
                (Contains-filter put_at (filter inside all_kept) n (Contains-filter inside all_kept n ((are.each n).1 is.0) (up_to floor n ∙ is_within floor n is.1)) (put_is n ∙ is.2)),
          );
        }

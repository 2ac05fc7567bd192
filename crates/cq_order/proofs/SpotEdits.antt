-- The spots of files of which one is replaced, put in or taken out.
use Rattle.std.proofs.Common.{◌≡◌, ◌≢◌, ◌⊎◌, ◌↔◌, ℕ, zero, suc, ◌+◌, ◌-◌, ◌<◌, ◌≤◌, nat_eq, not, cond, Bool, true, false, None, List, [], ◌∷◌, ◌++◌, length, map, filter, set, slice_get, Some, refl, sym, ap, ap₂, ◌∙◌, subst, inl, inr, ⊎_elim, arith}
use Rattle.std.specs.Prelude.{All, AllPairs, Contains, insert, remove}
use Rattle.std.proofs.lemmas.Bool.{cases_lt, cases_eq}
use Rattle.std.proofs.lemmas.Bool.Decides.{nat_tests}
use Rattle.std.proofs.lemmas.List.Elements.{All-contains, Contains-append_left, Contains-append_right, Contains-append_cases}
use Rattle.std.proofs.lemmas.List.Kept.{AllPairs-filter}
use Rattle.std.proofs.lemmas.Option.{same_Some, none-some, slice_get_within}
use Rattle.std.proofs.lemmas.List.{length-map}
use Rattle.cq_base.proofs.Lists.{Contains-here, Contains-cases, Contains-nil, Contains-map, Contains-from_map, Contains-there, Contains-filter, Contains-from_filter, AllPairs-append, AllPairs-map}
use Rattle.cq_order.specs.declared.spots.Spot.{Spot}
use Rattle.cq_order.specs.Spots.{AreSpots, SpotBefore}
use Rattle.cq_order.proofs.Spotting.{spots_from, spot_each, tail_rises}
use Rattle.cq_order.specs.Spots.{IsPositionOf, Replaces, Inserts, Removes, opened, closed, changes_of}
use Rattle.cq_order.proofs.Pairing.{moved_by, absent_at}

-- ---- what stands at a position of a list that was edited at one

pub got_in : {X : Type 0} (xs : List X) (i : ℕ) (x : X) → slice_get xs i ≡ Some x → (i < length xs) × Contains xs x
got_in [] i x is = absurd (none-some x is)
got_in (y ∷ xs) zero x is = (omega arith, (0, omega arith, same_Some y x is))
got_in (y ∷ xs) (suc i) x is = let (within, (k, inside, at)) = got_in xs i x is in (omega (arith, within), (suc k, omega (arith, inside), at))

module _ {X : Type 0} where
  got_set : (xs : List X) (i : ℕ) (y : X) → i < length xs → slice_get (set xs i y) i ≡ Some y
  got_set [] i y within = absurd (omega (arith, within))
  got_set (x ∷ xs) zero y within = refl
  got_set (x ∷ xs) (suc i) y within = got_set xs i y (omega (arith, within))

  got_unset : (xs : List X) (i j : ℕ) (y : X) → j ≢ i → slice_get (set xs i y) j ≡ slice_get xs j
  got_unset [] i j y other = refl
  got_unset (x ∷ xs) zero zero y other = absurd (other refl)
  got_unset (x ∷ xs) zero (suc j) y other = refl
  got_unset (x ∷ xs) (suc i) zero y other = refl
  got_unset (x ∷ xs) (suc i) (suc j) y other = got_unset xs i j y (λ e. other (ap suc e))

  got_inserted : (xs : List X) (i : ℕ) (y : X) → i ≤ length xs → slice_get (insert xs i y) i ≡ Some y
  got_inserted xs zero y within = refl
  got_inserted [] (suc i) y within = absurd (omega (arith, within))
  got_inserted (x ∷ xs) (suc i) y within = got_inserted xs i y (omega (arith, within))

  got_before : (xs : List X) (i j : ℕ) (y : X) → j < i → i ≤ length xs → slice_get (insert xs i y) j ≡ slice_get xs j
  got_before xs zero j y lt within = absurd (omega (arith, lt))
  got_before [] (suc i) j y lt within = absurd (omega (arith, within))
  got_before (x ∷ xs) (suc i) zero y lt within = refl
  got_before (x ∷ xs) (suc i) (suc j) y lt within = got_before xs i j y (omega (arith, lt)) (omega (arith, within))

  got_behind : (xs : List X) (i j : ℕ) (y : X) → i ≤ j → i ≤ length xs → slice_get (insert xs i y) (suc j) ≡ slice_get xs j
  got_behind xs zero j y le within = refl
  got_behind [] (suc i) j y le within = absurd (omega (arith, within))
  got_behind (x ∷ xs) (suc i) zero y le within = absurd (omega (arith, le))
  got_behind (x ∷ xs) (suc i) (suc j) y le within = got_behind xs i j y (omega (arith, le)) (omega (arith, within))

  got_below : (xs : List X) (i j : ℕ) → j < i → slice_get (remove xs i) j ≡ slice_get xs j
  got_below [] zero j lt = absurd (omega (arith, lt))
  got_below [] (suc i) j lt = refl
  got_below (x ∷ xs) zero j lt = absurd (omega (arith, lt))
  got_below (x ∷ xs) (suc i) zero lt = refl
  got_below (x ∷ xs) (suc i) (suc j) lt = got_below xs i j (omega (arith, lt))

  got_above : (xs : List X) (i j : ℕ) → i ≤ j → slice_get (remove xs i) j ≡ slice_get xs (suc j)
  got_above [] zero j le = refl
  got_above [] (suc i) j le = refl
  got_above (x ∷ xs) zero j le = refl
  got_above (x ∷ xs) (suc i) zero le = absurd (omega (arith, le))
  got_above (x ∷ xs) (suc i) (suc j) le = got_above xs i j (omega (arith, le))

-- ---- spots

pub is_other : (n m : ℕ) → (not (nat_eq n m) ≡ true) ↔ (n ≢ m)
is_other n m = (λ h e. grind (arith, nat_tests, h, e), λ other. grind (arith, nat_tests, other))

pub same_spot : (s t : Spot) → s.change ≡ t.change → s.file ≡ t.file → s ≡ t
same_spot s t a b = ap₂ (λ (x y : ℕ). let made : Spot = record { change = x; file = y } in made) a b

-- a change stands at one position
one_place : (changes : List ℕ) (spots : List Spot) → AreSpots changes spots → (i j c : ℕ) → slice_get changes i ≡ Some c → slice_get changes j ≡ Some c → i ≡ j
one_place changes spots are i j c here there = same_Some i j (sym ((are.each c i).1 here) ∙ (are.each c j).1 there)

pub single : (s t : Spot) → Contains (s ∷ []) t → s ≡ t
single s t there = ⊎_elim (λ e. e) (λ none. absurd (Contains-nil t none)) (Contains-cases s t [] there)

one_spot : (s : Spot) → AllPairs SpotBefore (s ∷ [])
one_spot s i j d lt within = absurd (omega (arith, lt, within))

-- the latest change after those that stay
spots_with : (changes : List ℕ) (kept : List Spot) (s : Spot) → AllPairs SpotBefore kept → ((t : Spot) → Contains kept t → t.change < s.change) → ((t : Spot) → (slice_get changes t.file ≡ Some t.change) ↔ (Contains kept t ⊎ (s ≡ t))) → AreSpots changes (kept ++ s ∷ [])
spots_with changes kept s rising latest each =
    spots_from changes (kept ++ s ∷ [])
    (AllPairs-append SpotBefore kept (s ∷ []) rising (one_spot s) (λ x y a b. subst (λ (z : Spot). x.change < z.change) (single s y b) (latest x a)))
    (λ t. (
      λ there. (each t).1 (⊎_elim (λ k. inl k) (λ e. inr (single s t e)) (Contains-append_cases kept (s ∷ []) t there)),
      λ put. ⊎_elim (λ k. Contains-append_left kept (s ∷ []) t k) (λ e. Contains-append_right kept (s ∷ []) t (subst (Contains (s ∷ [])) e (Contains-here s []))) ((each t).0 put),
    ))

older : (changes : List ℕ) (spots : List Spot) (c : ℕ) → AreSpots changes spots → All (λ n. n < c) changes → (t : Spot) → Contains spots t → t.change < c
older changes spots c are all t there = All-contains (λ n. n < c) changes t.change all (got_in changes t.file t.change ((spot_each changes spots are t).0 there)).1

pub replaces : (keep : Spot → Bool) (gone : ℕ) (s : Spot) (old : List Spot) → ((t : Spot) → (keep t ≡ true) ↔ (t.change ≢ gone)) → Replaces gone s old (filter keep old ++ s ∷ [])
replaces keep gone s old says changes are here latest =
    spots_with (set changes s.file s.change) (filter keep old) s (AllPairs-filter SpotBefore keep old are.rising)
    (λ t there. older changes old s.change are latest t (Contains-from_filter keep old t there).0)
    (λ t. ⊎_elim (same t) (other t) (cases_eq t.file s.file))
  where
    within : s.file < length changes
    within = (got_in changes s.file gone here).0

    same : (t : Spot) → t.file ≡ s.file → (slice_get (set changes s.file s.change) t.file ≡ Some t.change) ↔ (Contains (filter keep old) t ⊎ (s ≡ t))
    same t at = (
      λ put. inr (same_spot s t (same_Some _ _ (sym (got_set changes s.file s.change within) ∙ ap (slice_get (set changes s.file s.change)) (sym at) ∙ put)) (sym at)),
      λ either. ⊎_elim
          (λ kept. let (there, stays) = Contains-from_filter keep old t kept in
          absurd ((says t).0 stays (same_Some _ _ (sym ((spot_each changes old are t).0 there) ∙ ap (slice_get changes) at ∙ here))))
          (λ e. ap (slice_get (set changes s.file s.change)) at ∙ got_set changes s.file s.change within ∙ ap (λ (x : Spot). Some x.change) e)
          either,
    )

    other : (t : Spot) → t.file ≢ s.file → (slice_get (set changes s.file s.change) t.file ≡ Some t.change) ↔ (Contains (filter keep old) t ⊎ (s ≡ t))
    other t apart =
        let stayed = got_unset changes s.file t.file s.change apart in (
          λ put. let was = sym stayed ∙ put in
              inl (Contains-filter keep old t ((spot_each changes old are t).1 was)
              ((says t).1 (λ e. apart (one_place changes old are t.file s.file gone (was ∙ ap Some e) here)))),
          λ either. ⊎_elim
              (λ kept. stayed ∙ (spot_each changes old are t).0 (Contains-from_filter keep old t kept).0)
              (λ e. absurd (apart (ap (λ (x : Spot). x.file) (sym e))))
              either,
        )

-- ---- one is put in

open_low : (at : ℕ) (t : Spot) → t.file < at → opened at t.file ≡ t.file
open_low at t lt = grind (arith, nat_tests, lt)

open_high : (at : ℕ) (t : Spot) → at ≤ t.file → opened at t.file ≡ suc t.file
open_high at t le = grind (arith, nat_tests, le)

pub inserts : (len : ℕ) (s : Spot) (old : List Spot) → s.file ≤ len → Inserts len s old (map (moved_by (opened s.file)) old ++ s ∷ [])
inserts len s old low changes are size latest =
    spots_with (insert changes s.file s.change) (map (moved_by (opened s.file)) old) s
    (AllPairs-map SpotBefore (moved_by (opened s.file)) old are.rising)
    (λ t there. let (u, was, is) = Contains-from_map (moved_by (opened s.file)) old t there in subst (λ (x : Spot). x.change < s.change) is (older changes old s.change are latest u was))
    (λ t. (
      λ put. ⊎_elim (λ low. inl (before t low put)) (λ le. ⊎_elim (λ at. inr (here t at put)) (λ apart. inl (behind t le apart put)) (cases_eq t.file s.file)) (cases_lt t.file s.file),
      λ either. ⊎_elim
          (λ there. let (u, was, is) = Contains-from_map (moved_by (opened s.file)) old t there in
          subst (λ (x : Spot). slice_get (insert changes s.file s.change) x.file ≡ Some x.change) is (moved u ((spot_each changes old are u).0 was)))
          (λ e. subst (λ (x : Spot). slice_get (insert changes s.file s.change) x.file ≡ Some x.change) e (got_inserted changes s.file s.change within))
          either,
    ))
  where
    within : s.file ≤ length changes
    within = omega (arith, low, size)

    moved : (u : Spot) → slice_get changes u.file ≡ Some u.change → slice_get (insert changes s.file s.change) (moved_by (opened s.file) u).file ≡ Some u.change
    moved u was =
        ⊎_elim
        (λ (lt : u.file < s.file). ap (slice_get (insert changes s.file s.change)) (open_low s.file u lt) ∙ got_before changes s.file u.file s.change lt within ∙ was)
        (λ (le : s.file ≤ u.file). ap (slice_get (insert changes s.file s.change)) (open_high s.file u le) ∙ got_behind changes s.file u.file s.change le within ∙ was)
        (cases_lt u.file s.file)

    here : (t : Spot) → t.file ≡ s.file → slice_get (insert changes s.file s.change) t.file ≡ Some t.change → s ≡ t
    here t at put = same_spot s t (same_Some _ _ (sym (got_inserted changes s.file s.change within) ∙ ap (slice_get (insert changes s.file s.change)) (sym at) ∙ put)) (sym at)

    before : (t : Spot) → t.file < s.file → slice_get (insert changes s.file s.change) t.file ≡ Some t.change → Contains (map (moved_by (opened s.file)) old) t
    before t lt put =
        let was = sym (got_before changes s.file t.file s.change lt within) ∙ put in
        subst (Contains (map (moved_by (opened s.file)) old)) (same_spot (moved_by (opened s.file) t) t refl (open_low s.file t lt)) (Contains-map (moved_by (opened s.file)) old t ((spot_each changes old are t).1 was))

    behind : (t : Spot) → s.file ≤ t.file → t.file ≢ s.file → slice_get (insert changes s.file s.change) t.file ≡ Some t.change → Contains (map (moved_by (opened s.file)) old) t
    behind t le apart put =
        let u : Spot = record { change = t.change; file = t.file - 1 } in
        let up : suc u.file ≡ t.file = omega (arith, le, apart) in
        let high : s.file ≤ u.file = omega (arith, le, apart) in
        let was : slice_get changes u.file ≡ Some t.change = sym (got_behind changes s.file u.file s.change high within) ∙ ap (slice_get (insert changes s.file s.change)) up ∙ put in
        subst (Contains (map (moved_by (opened s.file)) old)) (same_spot (moved_by (opened s.file) u) t refl (open_high s.file u high ∙ up)) (Contains-map (moved_by (opened s.file)) old u ((spot_each changes old are u).1 was))

-- after all others nothing moves
none_moved : (at : ℕ) (spots : List Spot) → ((t : Spot) → Contains spots t → t.file < at) → map (moved_by (opened at)) spots ≡ spots
none_moved at [] below = refl
none_moved at (t ∷ spots) below =
    ap₂ (λ (x : Spot) xs. x ∷ xs) (same_spot (moved_by (opened at) t) t refl (open_low at t (below t (Contains-here t spots))))
    (none_moved at spots (λ u there. below u (Contains-there t u spots there)))

pub appends : (len : ℕ) (s : Spot) (old : List Spot) → s.file ≡ len → Inserts len s old (old ++ s ∷ [])
appends len s old at changes are size latest =
    let stay = none_moved s.file old (λ t there. let within = (got_in changes t.file t.change ((spot_each changes old are t).0 there)).0 in omega (arith, within, size, at)) in
    subst (λ ss. AreSpots (insert changes s.file s.change) (ss ++ s ∷ [])) stay (inserts len s old (omega (arith, at)) changes are size latest)

-- ---- one is taken out

-- among spots that rise, that of a change is the one at its index
abbrev pub is_not : ℕ → Spot → Bool
is_not gone t = not (nat_eq t.change gone)

stays : (gone : ℕ) (t : Spot) (spots : List Spot) → t.change ≢ gone → filter (is_not gone) (t ∷ spots) ≡ t ∷ filter (is_not gone) spots
stays gone t spots other = ap (λ b. cond b (t ∷ filter (is_not gone) spots) (filter (is_not gone) spots)) ((is_other t.change gone).1 other)

all_stay : (gone : ℕ) (spots : List Spot) → ((t : Spot) → Contains spots t → t.change ≢ gone) → filter (is_not gone) spots ≡ spots
all_stay gone [] other = refl
all_stay gone (t ∷ spots) other =
    stays gone t spots (other t (Contains-here t spots)) ∙ ap (λ ss. t ∷ ss) (all_stay gone spots (λ u there. other u (Contains-there t u spots there)))

is_first : (t : Spot) (spots : List Spot) (u : Spot) → AllPairs SpotBefore (t ∷ spots) → Contains spots u → t.change < u.change
is_first t spots u rising (k, within, at) =
    subst (λ (x : Spot). t.change < x.change) at (rising 0 (suc k) u (omega arith) (omega (arith, within)))

pub taken_out : (gone : ℕ) (spots : List Spot) (i : ℕ) → AllPairs SpotBefore spots → slice_get (changes_of spots) i ≡ Some gone → remove spots i ≡ filter (is_not gone) spots
taken_out gone [] i rising here = absurd (none-some gone here)
taken_out gone (t ∷ spots) zero rising here =
    let same : t.change ≡ gone = same_Some _ _ here in
    let out : is_not gone t ≡ false = grind (arith, nat_tests, same) in
    sym (ap (λ b. cond b (t ∷ filter (is_not gone) spots) (filter (is_not gone) spots)) out
    ∙ all_stay gone spots (λ u there e. let less = is_first t spots u rising there in omega (arith, less, same, e)))
taken_out gone (t ∷ spots) (suc i) rising here =
    let (u, there, is) = Contains-from_map (λ (x : Spot). x.change) spots gone (got_in (changes_of spots) i gone here).1 in
    let less = is_first t spots u rising there in
    let at : u.change ≡ gone = is in
    ap (λ ss. t ∷ ss) (taken_out gone spots i (tail_rises t spots rising) here) ∙ sym (stays gone t spots (λ e. omega (arith, less, at, e)))

pub remove_pushed : (spots : List Spot) (s : Spot) (i : ℕ) → i < length spots → remove (spots ++ s ∷ []) i ≡ remove spots i ++ s ∷ []
remove_pushed [] s i within = absurd (omega (arith, within))
remove_pushed (t ∷ spots) s zero within = refl
remove_pushed (t ∷ spots) s (suc i) within = ap (λ ss. t ∷ ss) (remove_pushed spots s i (omega (arith, within)))

pub index_in : (spots : List Spot) (change i : ℕ) → IsPositionOf (changes_of spots) change (Some i) → i < length spots
index_in spots change i is =
    let inside = slice_get_within (changes_of spots) i change ((is i).0 refl) in
    let many = length-map spots (λ (t : Spot). t.change) in
    omega (arith, inside, many)

pub replaced : (gone : ℕ) (s : Spot) (old new : List Spot) (i : ℕ) → AllPairs SpotBefore old → IsPositionOf (changes_of old) gone (Some i) → new ≡ remove (old ++ s ∷ []) i → Replaces gone s old new
replaced gone s old new i rising is now =
    let at = taken_out gone old i rising ((is i).0 refl) in
    subst (Replaces gone s old) (sym (now ∙ remove_pushed old s i (index_in old gone i is) ∙ ap (λ ss. ss ++ s ∷ []) at)) (replaces (is_not gone) gone s old (λ t. is_other t.change gone))

-- a change that stands at a file is among the spots
not_absent : (changes : List ℕ) (spots : List Spot) (s : Spot) → AreSpots changes spots → slice_get changes s.file ≡ Some s.change → IsPositionOf (changes_of spots) s.change None → ⊥
not_absent changes spots s are here is =
    let (k, within, at) = (spot_each changes spots are s).1 here in
    absent_at spots s.change is k s within (ap (λ (t : Spot). t.change) at)

pub replaced_none : (gone : ℕ) (s : Spot) (old new : List Spot) → IsPositionOf (changes_of old) gone None → Replaces gone s old new
replaced_none gone s old new is changes are here latest =
    absurd (not_absent changes old (record { change = gone; file = s.file }) are here is)

pub removed_none : (s : Spot) (old new : List Spot) → IsPositionOf (changes_of old) s.change None → Removes s old new
removed_none s old new is changes are here = absurd (not_absent changes old s are here is)

close_low : (at : ℕ) (t : Spot) → t.file ≤ at → closed at t.file ≡ t.file
close_low at t le = grind (arith, nat_tests, le)

close_high : (at : ℕ) (t : Spot) → at < t.file → suc (closed at t.file) ≡ t.file
close_high at t lt = grind (arith, nat_tests, lt)

pub removes : (keep : Spot → Bool) (s : Spot) (old : List Spot) → ((t : Spot) → (keep t ≡ true) ↔ (t.change ≢ s.change)) → Removes s old (map (moved_by (closed s.file)) (filter keep old))
removes keep s old says changes are here =
    spots_from (remove changes s.file) (map (moved_by (closed s.file)) (filter keep old))
    (AllPairs-map SpotBefore (moved_by (closed s.file)) (filter keep old) (AllPairs-filter SpotBefore keep old are.rising))
    (λ t. (
      λ there. let (u, kept, is) = Contains-from_map (moved_by (closed s.file)) (filter keep old) t there in
          let (was, stays) = Contains-from_filter keep old u kept in
          subst (λ (x : Spot). slice_get (remove changes s.file) x.file ≡ Some x.change) is (moved u ((says u).0 stays) ((spot_each changes old are u).0 was)),
      λ put. ⊎_elim (λ low. below t low put) (λ le. above t le put) (cases_lt t.file s.file),
    ))
  where
    stays_there : (u : Spot) → u.file ≢ s.file → slice_get changes u.file ≡ Some u.change → Contains (filter keep old) u
    stays_there u apart was =
        Contains-filter keep old u ((spot_each changes old are u).1 was) ((says u).1 (λ e. apart (one_place changes old are u.file s.file s.change (was ∙ ap Some e) here)))

    moved : (u : Spot) → u.change ≢ s.change → slice_get changes u.file ≡ Some u.change → slice_get (remove changes s.file) (moved_by (closed s.file) u).file ≡ Some u.change
    moved u apart was =
        ⊎_elim
        (λ (lt : u.file < s.file). ap (slice_get (remove changes s.file)) (close_low s.file u (omega (arith, lt))) ∙ got_below changes s.file u.file lt ∙ was)
        (λ (le : s.file ≤ u.file).
        let other : u.file ≢ s.file = λ e. apart (same_Some _ _ (sym was ∙ ap (slice_get changes) e ∙ here)) in
        let lt : s.file < u.file = omega (arith, le, other) in
        let up = close_high s.file u lt in
        got_above changes s.file (moved_by (closed s.file) u).file (omega (arith, lt, up)) ∙ ap (slice_get changes) up ∙ was)
        (cases_lt u.file s.file)

    below : (t : Spot) → t.file < s.file → slice_get (remove changes s.file) t.file ≡ Some t.change → Contains (map (moved_by (closed s.file)) (filter keep old)) t
    below t lt put =
        let was = sym (got_below changes s.file t.file lt) ∙ put in
        subst (Contains (map (moved_by (closed s.file)) (filter keep old))) (same_spot (moved_by (closed s.file) t) t refl (close_low s.file t (omega (arith, lt))))
        (Contains-map (moved_by (closed s.file)) (filter keep old) t (stays_there t (λ e. omega (arith, lt, e)) was))

    above : (t : Spot) → s.file ≤ t.file → slice_get (remove changes s.file) t.file ≡ Some t.change → Contains (map (moved_by (closed s.file)) (filter keep old)) t
    above t le put =
        let u : Spot = record { change = t.change; file = t.file + 1 } in
        let up : suc t.file ≡ u.file = omega arith in
        let was : slice_get changes u.file ≡ Some t.change = ap (slice_get changes) (sym up) ∙ sym (got_above changes s.file t.file le) ∙ put in
        let back = close_high s.file u (omega (arith, le)) in
        let down : (moved_by (closed s.file) u).file ≡ t.file = omega (arith, back) in
        subst (Contains (map (moved_by (closed s.file)) (filter keep old))) (same_spot (moved_by (closed s.file) u) t refl down)
        (Contains-map (moved_by (closed s.file)) (filter keep old) u (stays_there u (λ e. omega (arith, le, e)) was))

pub removed : (s : Spot) (old left new : List Spot) (i : ℕ) → AllPairs SpotBefore old → IsPositionOf (changes_of old) s.change (Some i) → left ≡ remove old i → new ≡ map (moved_by (closed s.file)) left → Removes s old new
removed s old left new i rising is out now =
    subst (Removes s old) (sym (now ∙ ap (map (moved_by (closed s.file))) (out ∙ taken_out s.change old i rising ((is i).0 refl))))
    (removes (is_not s.change) s old (λ t. is_other t.change s.change))

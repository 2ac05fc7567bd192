-- The spot of a change, in lists of spots that rise.
use Rattle.std.proofs.Common.{◌≡◌, ◌≢◌, ◌↔◌, ℕ, zero, suc, ◌+◌, ◌<◌, ◌≤◌, IsTrue, List, [], ◌∷◌, ◌++◌, length, get_or, take, slice_get, add-zero, Option, Some, None, refl, sym, ap, ap₂, ◌∙◌, subst, ⊎_elim, arith}
use Rattle.std.specs.Prelude.{AllPairs, Contains}
use Rattle.std.specs.Cmp.{IsStrictWeakOrder}
use Rattle.std.proofs.lemmas.Bool.{cases_eq, cases_order}
use Rattle.std.proofs.lemmas.List.{take_more, take_all, length-take-le}
use Rattle.std.proofs.lemmas.Bool.Decides.{nat_tests}
use Rattle.std.proofs.lemmas.Option.{same_Some, slice_get_within}
use Rattle.cq_base.proofs.Lists.{Contains-nil, Contains-cases, Contains-there}
use Rattle.cq_order.specs.declared.spots.Spot.{Spot}
use Rattle.cq_order.specs.Spots.{SpotBefore, spot_of, IsPositionOf, AreSpots, is_spot_before, with_positions}
use Rattle.cq_order.specs.Order.{IsOrderOf, AreOrdered}
use Rattle.cq_order.proofs.Sorting.{weak_order}

pub tail_rises : (s : Spot) (spots : List Spot) → AllPairs SpotBefore (s ∷ spots) → AllPairs SpotBefore spots
tail_rises s spots rising i j d lt within = rising (suc i) (suc j) d (omega (arith, lt)) (omega (arith, within))

-- the one at a position is found
pub spot_at : (spots : List Spot) (change i : ℕ) (d : Spot) → AllPairs SpotBefore spots → i < length spots → (get_or spots i d).change ≡ change → spot_of spots change ≡ Some (get_or spots i d).file
spot_at [] change i d rising within is = absurd (omega (arith, within))
spot_at (s ∷ spots) change zero d rising within is = grind (arith, nat_tests, is)
spot_at (s ∷ spots) change (suc i) d rising within is =
    let less = rising 0 (suc i) d (omega arith) within in
    let later = spot_at spots change i d (tail_rises s spots rising) (omega (arith, within)) is in
    grind (arith, nat_tests, less, later, is)

-- and none where no one has the change
pub spot_none : (spots : List Spot) (change : ℕ) → ((k : ℕ) (d : Spot) → k < length spots → (get_or spots k d).change ≢ change) → spot_of spots change ≡ None
spot_none [] change other = refl
spot_none (s ∷ spots) change other =
    let first = other 0 s (omega arith) in
    let later = spot_none spots change (λ k d within. other (suc k) d (omega (arith, within))) in
    grind (arith, nat_tests, first, later)

pub spot_is : (a b : Spot) → a.change ≡ b.change → a.file ≡ b.file → a ≡ b
spot_is a b change file = ap₂ (λ (x y : ℕ). let made : Spot = record { change = x; file = y } in made) change file

-- what is found is there
pub spot_there : (spots : List Spot) (change file : ℕ) → spot_of spots change ≡ Some file → Contains spots (record { change = change; file = file })
spot_there [] change file found = absurd (cc)
spot_there (s ∷ spots) change file found =
    ⊎_elim
    (λ same.
    let first : spot_of (s ∷ spots) change ≡ Some s.file = grind (arith, nat_tests, same) in
    (0, omega arith, spot_is s (record { change = change; file = file }) same (same_Some _ _ (sym first ∙ found))))
    (λ other.
    let later : spot_of (s ∷ spots) change ≡ spot_of spots change = grind (arith, nat_tests, other) in
    let (k, within, at) = spot_there spots change file (sym later ∙ found) in (suc k, omega (arith, within), at))
    (cases_eq s.change change)

-- among those that rise the spot of a change is the one that is there
pub spot_iff : (spots : List Spot) (change file : ℕ) → AllPairs SpotBefore spots → (spot_of spots change ≡ Some file) ↔ Contains spots (record { change = change; file = file })
spot_iff spots change file rising = (
  spot_there spots change file,
  λ (k, within, at).
      spot_at spots change k (record { change = change; file = file }) rising within (ap (λ (s : Spot). s.change) at) ∙ ap (λ (s : Spot). Some s.file) at,
)

-- spots that rise and have exactly the pairs of a change and its position
pub spots_from : (changes : List ℕ) (spots : List Spot) → AllPairs SpotBefore spots → ((s : Spot) → Contains spots s ↔ (slice_get changes s.file ≡ Some s.change)) → AreSpots changes spots
spots_from changes spots rising each = record {
  rising = rising;
  each = λ change file. (
    λ found. (each _).0 ((spot_iff spots change file rising).0 found),
    λ put. (spot_iff spots change file rising).1 ((each _).1 put),
  );
}

-- the other way
pub spot_each : (changes : List ℕ) (spots : List Spot) → AreSpots changes spots → (s : Spot) → Contains spots s ↔ (slice_get changes s.file ≡ Some s.change)
spot_each changes spots are s = (
  λ there. (are.each s.change s.file).0 ((spot_iff spots s.change s.file are.rising).1 there),
  λ put. (spot_iff spots s.change s.file are.rising).0 ((are.each s.change s.file).1 put),
)

pub position_of : (changes : List ℕ) (spots : List Spot) (change : ℕ) (found : Option ℕ) → found ≡ spot_of spots change → AreSpots changes spots → IsPositionOf changes change found
position_of changes spots change found is are = subst (IsPositionOf changes change) (sym is) (are.each change)

-- the changes with their positions

pub is_spot_before-says : (a b : Spot) → IsTrue (is_spot_before a b) ↔ SpotBefore a b
is_spot_before-says a b = (λ h. grind arith, λ h. grind arith)

SpotBefore-apart : (a b : Spot) → SpotBefore a b → SpotBefore b a → ⊥
SpotBefore-apart a b h k = omega (arith, h, k)

SpotBefore-chain : (a b c : Spot) → ¬ SpotBefore a b → ¬ SpotBefore b c → ¬ SpotBefore a c
SpotBefore-chain a b c h k e = grind arith

pub is_spot_before-order : IsStrictWeakOrder is_spot_before
is_spot_before-order = weak_order SpotBefore is_spot_before is_spot_before-says SpotBefore-apart SpotBefore-chain

-- one change more
pub spots_more : (first : ℕ) (changes : List ℕ) (change : ℕ) → with_positions first (changes ++ change ∷ []) ≡ with_positions first changes ++ record { change = change; file = first + length changes } ∷ []
spots_more first [] change = ap (λ n. (let s : Spot = record { change = change; file = n } in s) ∷ []) (sym (add-zero first))
spots_more first (c ∷ changes) change =
    let later = spots_more (first + 1) changes change in
    let at : first + 1 + length changes ≡ first + suc (length changes) = omega arith in
    ap (λ ss. (let s : Spot = record { change = c; file = first } in s) ∷ ss) (later ∙ ap (λ n. with_positions (first + 1) changes ++ (let s : Spot = record { change = change; file = n } in s) ∷ []) at)

pub spots_pushed : (changes : List ℕ) (i : ℕ) (old new : List Spot) → i < length changes → new ≡ old ++ record { change = get_or changes i 0; file = i } ∷ [] → old ≡ with_positions 0 (take i changes) → new ≡ with_positions 0 (take (i + 1) changes)
spots_pushed changes i old new within pushed so_far =
    let size : 0 + length (take i changes) ≡ i = omega (arith, length-take-le i changes (omega (arith, within))) in
    pushed
    ∙ ap₂ (λ (ss : List Spot) (n : ℕ). ss ++ (let s : Spot = record { change = get_or changes i 0; file = n } in s) ∷ []) so_far (sym size)
    ∙ sym (spots_more 0 (take i changes) (get_or changes i 0))
    ∙ ap (with_positions 0) (sym (take_more changes i 0 within))

pub spots_none : (changes : List ℕ) (spots : List Spot) → spots ≡ [] → spots ≡ with_positions 0 (take 0 changes)
spots_none changes spots none = none

pub spots_all : (changes : List ℕ) (n : ℕ) (spots : List Spot) → length changes ≤ n → spots ≡ with_positions 0 (take n changes) → spots ≡ with_positions 0 changes
spots_all changes n spots past is = is ∙ ap (with_positions 0) (take_all n changes past)

-- exactly the pairs of a change and its position

pair_of : (first : ℕ) (changes : List ℕ) (s : Spot) → Contains (with_positions first changes) s → (i : ℕ) × (s.file ≡ first + i) × (slice_get changes i ≡ Some s.change)
pair_of first [] s there = absurd (Contains-nil s there)
pair_of first (c ∷ changes) s there =
    ⊎_elim
    (λ e. (0, sym (ap (λ (z : Spot). z.file) e) ∙ sym (add-zero first), ap (λ (z : Spot). Some z.change) e))
    (λ later. let (i, file, put) = pair_of (first + 1) changes s later in (suc i, omega (arith, file), put))
    (Contains-cases (let h : Spot = record { change = c; file = first } in h) s (with_positions (first + 1) changes) there)

from_pair : (first : ℕ) (changes : List ℕ) (s : Spot) (i : ℕ) → s.file ≡ first + i → slice_get changes i ≡ Some s.change → Contains (with_positions first changes) s
from_pair first [] s i file put = let h = slice_get_within [] i s.change put in absurd (omega (arith, h))
from_pair first (c ∷ changes) s zero file put = (0, omega arith, spot_is (record { change = c; file = first }) s (same_Some _ _ put) (omega (arith, file)))
from_pair first (c ∷ changes) s (suc i) file put =
    Contains-there (record { change = c; file = first }) s (with_positions (first + 1) changes) (from_pair (first + 1) changes s i (omega (arith, file)) put)

pub spots_each : (changes : List ℕ) (s : Spot) → Contains (with_positions 0 changes) s ↔ (slice_get changes s.file ≡ Some s.change)
spots_each changes s = (
  λ there. let (i, file, put) = pair_of 0 changes s there in let e : i ≡ s.file = omega (arith, file) in subst (λ n. slice_get changes n ≡ Some s.change) e put,
  λ put. from_pair 0 changes s s.file (omega arith) put,
)

length-spots : (first : ℕ) (changes : List ℕ) → length (with_positions first changes) ≡ length changes
length-spots first [] = refl
length-spots first (c ∷ changes) = ap suc (length-spots (first + 1) changes)

change_at : (first : ℕ) (changes : List ℕ) (i : ℕ) (d : Spot) → (get_or (with_positions first changes) i d).change ≡ get_or changes i d.change
change_at first [] i d = refl
change_at first (c ∷ changes) zero d = refl
change_at first (c ∷ changes) (suc i) d = change_at (first + 1) changes i d

pub spots_ordered : (changes : List ℕ) → AllPairs (λ a b. a ≢ b) changes → AllPairs (AreOrdered SpotBefore) (with_positions 0 changes)
spots_ordered changes apart i j d lt within =
    let size = length-spots 0 changes in
    let a = change_at 0 changes i d in
    let b = change_at 0 changes j d in
    let differ = apart i j d.change lt (omega (arith, within, size)) in
    ⊎_elim
    (λ same. absurd (differ (sym a ∙ same ∙ b)))
    (λ sides. sides)
    (cases_order (get_or (with_positions 0 changes) i d).change (get_or (with_positions 0 changes) j d).change)

-- in order they are the spots
pub sorted_spots : (changes : List ℕ) (unsorted sorted : List Spot) → AllPairs (λ a b. a ≢ b) changes → unsorted ≡ with_positions 0 changes → IsOrderOf SpotBefore unsorted sorted → AreSpots changes sorted
sorted_spots changes unsorted sorted apart is order =
    spots_from changes sorted
    (order.strict (subst (AllPairs (AreOrdered SpotBefore)) (sym is) (spots_ordered changes apart)))
    (λ s. (
      λ there. (spots_each changes s).0 (subst (λ ss. Contains ss s) is ((order.each s).0 there)),
      λ put. (order.each s).1 (subst (λ ss. Contains ss s) (sym is) ((spots_each changes s).1 put)),
    ))

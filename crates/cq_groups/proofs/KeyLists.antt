-- Lists of the keys of files, as they grow, and how often an index was asked.
use Rattle.std.proofs.Common.{◌≡◌, ◌↔◌, ℕ, ◌+◌, ◌*◌, ◌<◌, ◌≤◌, List, [], ◌++◌, length, get_or, Some, sym, ap, ◌∙◌, subst, ⊎_elim, arith}
use Rattle.std.specs.Prelude.{Contains, OnOk}
use Rattle.std.proofs.Common.{Result, Ok, Err}
use Rattle.std.proofs.Math.Nat.{add-mul, mul-le-mul_right}
use Rattle.std.proofs.lemmas.Bool.{cases_lt}
use Rattle.std.proofs.lemmas.List.{get_or_past}
use Rattle.std.proofs.lemmas.List.Elements.{Contains-append_left, Contains-append_right, Contains-append_cases}
use Rattle.std.proofs.lemmas.Option.{slice_get-get_or, get_or_from_slice_get, slice_get_within}
use Rattle.cq_base.specs.declared.group.Place.{Place}
use Rattle.cq_clones.specs.Groups.{file_at}
use Rattle.cq_clones.proofs.InOrder.{AreAllInOrder-same}
use Rattle.cq_base.proofs.Lists.{Contains-nil}
use Rattle.cq_clones.specs.Windows.{HasKey}
use Rattle.cq_groups.specs.Listing.{IsKey, IsKeyIn, AreAllRising, Rises, RisesAtMost}

-- the keys of the first files
abbrev pub AreKeysUpto : List (List ℕ) → ℕ → List ℕ → Type 0
AreKeysUpto keys n all = (k : ℕ) → Contains all k ↔ ((p : Place) × (p.file < n) × HasKey keys k p)

has_from : (keys : List (List ℕ)) (i at k d : ℕ) → at < length (file_at keys i) → get_or (file_at keys i) at d ≡ k → HasKey keys k (record { file = i; at = at })
has_from keys i at k d within is = slice_get-get_or (file_at keys i) at d within ∙ ap Some is

pub contains_from_has : (keys : List (List ℕ)) (k : ℕ) (p : Place) → HasKey keys k p → Contains (file_at keys p.file) k
contains_from_has keys k p has = (p.at, slice_get_within (file_at keys p.file) p.at k has, get_or_from_slice_get (file_at keys p.file) p.at k k has)

pub keys_more : (keys : List (List ℕ)) (n : ℕ) (old new here : List ℕ) → file_at keys n ≡ here → new ≡ old ++ here → AreKeysUpto keys n old → AreKeysUpto keys (n + 1) new
keys_more keys n old new here file is before k = (
  λ c. ⊎_elim
      (λ a. let (p, lt, has) = (before k).0 a in (p, omega (arith, lt), has))
      (λ b. let (at, within, at_is) = subst (λ xs. Contains xs k) (sym file) b in (record { file = n; at = at }, omega arith, has_from keys n at k k within at_is))
      (Contains-append_cases old here k (subst (λ xs. Contains xs k) is c)),
  λ (p, lt, has). subst (λ xs. Contains xs k) (sym is) (⊎_elim
      (λ below. Contains-append_left old here k ((before k).1 (p, below, has)))
      (λ ge.
      let e : p.file ≡ n = omega (arith, lt, ge) in
      Contains-append_right old here k (subst (λ xs. Contains xs k) (ap (file_at keys) e ∙ file) (contains_from_has keys k p has)))
      (cases_lt p.file n)),
)

pub keys_none : (keys : List (List ℕ)) (all : List ℕ) → all ≡ [] → AreKeysUpto keys 0 all
keys_none keys all none k = (λ c. absurd (Contains-nil k (subst (λ xs. Contains xs k) none c)), λ (p, lt, has). absurd (omega (arith, lt)))

pub keys_all : (keys : List (List ℕ)) (n : ℕ) (all : List ℕ) → length keys ≤ n → AreKeysUpto keys n all → (k : ℕ) → Contains all k ↔ IsKey keys k
keys_all keys n all past upto k = (
  λ c. let (p, lt, has) = (upto k).0 c in (p, has),
  λ (p, has). (upto k).1 (
    p,
    ⊎_elim (λ h. h)
        (λ ge.
        let w = slice_get_within (file_at keys p.file) p.at k has in
        let e = ap length (get_or_past keys p.file [] (omega (arith, ge, past))) in absurd (omega (arith, w, e)))
        (cases_lt p.file n),
    has,
  ),
)

pub keys_of_file : (keys : List (List ℕ)) (file : ℕ) (here ks : List ℕ) → file_at keys file ≡ here → AreAllRising (Contains here) ks → AreAllRising (IsKeyIn keys file) ks
keys_of_file keys file here ks is are = subst (λ xs. AreAllRising (Contains xs) ks) (sym is) are

-- there is one list of different keys
pub one_list : (Is : ℕ → Type 0) (xs ys : List ℕ) → AreAllRising Is xs → AreAllRising Is ys → length xs ≡ length ys
one_list Is xs ys a b = ap length (AreAllInOrder-same (λ x y. x < y) (λ x y p q. omega (arith, p, q)) Is xs ys a b)

-- counts
pub rises_more : (a b c n : ℕ) → Rises a b n → Rises b c 1 → Rises a c (n + 1)
rises_more a b c n h k = omega (arith, h, k)

pub rises_to : (a b m n : ℕ) → n ≤ m → m ≤ n → Rises a b n → Rises a b m
rises_to a b m n le ge h = omega (arith, h, le, ge)

pub rises_most : (a b m n : ℕ) → n ≤ m → Rises a b n → RisesAtMost a b m
rises_most a b m n le h = (omega (arith, h), omega (arith, h, le))

-- some and then the others
pub rises_both : (a b c n k m all : ℕ) → n ≡ k → all ≡ k + m → Rises a b n → Rises b c m → Rises a c all
rises_both a b c n k m all is sum h then = omega (arith, h, then, is, sum)

pub rises_all : (a b n : ℕ) → Rises a b n → RisesAtMost a b n
rises_all a b n h = rises_most a b n n (omega arith) h

-- some of them
pub most_of : (a b n k m all : ℕ) → n ≡ k → all ≡ k + m → RisesAtMost a b n → RisesAtMost a b all
most_of a b n k m all is sum h = (h.0, let most = h.1 in omega (arith, most, is, sum))

pub rises_none : (a n : ℕ) → RisesAtMost a a n
rises_none a n = (omega arith, omega arith)

pub most_to : (a b m n : ℕ) → n ≡ m → RisesAtMost a b n → RisesAtMost a b m
most_to a b m n e h = subst (λ k. RisesAtMost a b k) e h

-- reads
pub reads_more : (start old new sum sum' n longest : ℕ) → sum' ≡ sum + n → old ≤ start + sum * (longest + 2) → new ≤ old + n * (longest + 2) → new ≤ start + sum' * (longest + 2)
reads_more start old new sum sum' n longest e h k =
    let times : sum' * (longest + 2) ≡ sum * (longest + 2) + n * (longest + 2) = ap (λ m. m * (longest + 2)) e ∙ add-mul sum n (longest + 2) in
    omega (arith, h, k, times)

pub reads_within : (start now sum all longest : ℕ) → sum ≤ all → now ≤ start + sum * (longest + 2) → now ≤ start + all * (longest + 2)
reads_within start now sum all longest le h = let t = mul-le-mul_right (longest + 2) le in omega (arith, h, t)

-- a fact, also where there is a value
pub on_ok : {T E P : Type 0} (r : Result T E) → P → OnOk r P
on_ok (Ok x) p = p
on_ok (Err e) p = tt

-- The least key of an object, whose members stand in the order of their keys.
use Rattle.std.proofs.Common.{◌≡◌, ℕ, List, [], ◌∷◌, Option, Some, None, Bool, true, false, cond, String, Global, Ordering, Less, Equal, Greater, string_bytes, string_cmp, nat_cmp, refl, ap, ◌∙◌}
use Rattle.std.specs.Prelude.{IfSome}
use Rattle.std.specs.List.{AllByRecursion}
use Rattle.std.specs.List.Sorted.{IsStrictlySortedBy}
use Rattle.std.specs.Cmp.Lexicographic.{slice_cmp}
use Rattle.std.specs.Ordering.{match_ordering}
use Rattle.std.specs.Map.{keys_of}
use Rattle.serde_json.specs.View.{members_view}
use Rattle.serde_json.specs.declared.value.Value.{Value}
use Rattle.cq_request.specs.Members.{least_key, lesser}

abbrev pub least_in : (List ℕ → Bool) → List (String Global) → Option (List ℕ)
least_in p [] = None
least_in p (k ∷ ks) = cond (p (string_bytes k)) (Some (lesser (string_bytes k) (least_in p ks))) (least_in p ks)

pub least_in_keys : (p : List ℕ → Bool) (es : List (String Global × Value)) → least_key p (members_view es) ≡ least_in p (keys_of es)
least_in_keys p [] = refl
least_in_keys p (e ∷ es) = ap (λ o. cond (p (string_bytes e.0)) (Some (lesser (string_bytes e.0) o)) o) (least_in_keys p es)

by_order : (o : Ordering) (P : List ℕ → Type 0) (a b : List ℕ) → P a → P b → P (match_ordering o a a b)
by_order Less P a b pa pb = pa
by_order Equal P a b pa pb = pa
by_order Greater P a b pa pb = pb

lesser_has : (P : List ℕ → Type 0) (k : List ℕ) (o : Option (List ℕ)) → P k → IfSome o P → P (lesser k o)
lesser_has P k None pk po = pk
lesser_has P k (Some l) pk po = by_order (slice_cmp nat_cmp k l) P k l pk po

by_test : (b : Bool) (P : List ℕ → Type 0) (k : List ℕ) (o : Option (List ℕ)) → P (lesser k o) → IfSome o P → IfSome (cond b (Some (lesser k o)) o) P
by_test true P k o here there = here
by_test false P k o here there = there

above : (p : List ℕ → Bool) (k : String Global) (ks : List (String Global)) → AllByRecursion (λ y. string_cmp k y ≡ Less) ks → IfSome (least_in p ks) (λ l. slice_cmp nat_cmp (string_bytes k) l ≡ Less)
above p k [] below = tt
above p k (x ∷ ks) below =
    let later = above p k ks below.1 in
    by_test (p (string_bytes x)) (λ l. slice_cmp nat_cmp (string_bytes k) l ≡ Less) (string_bytes x) (least_in p ks) (lesser_has (λ l. slice_cmp nat_cmp (string_bytes k) l ≡ Less) (string_bytes x) (least_in p ks) below.0 later) later

lesser_first : (k : List ℕ) (o : Option (List ℕ)) → IfSome o (λ l. slice_cmp nat_cmp k l ≡ Less) → lesser k o ≡ k
lesser_first k None below = refl
lesser_first k (Some l) below = ap (λ o. match_ordering o k k l) below

-- the first that passes is the least
pub least_first : (p : List ℕ → Bool) (k : String Global) (ks : List (String Global)) → IsStrictlySortedBy string_cmp (k ∷ ks) → p (string_bytes k) ≡ true → least_in p (k ∷ ks) ≡ Some (string_bytes k)
unfolding IsStrictlySortedBy
least_first p k ks sorted passes =
    ap (λ b. cond b (Some (lesser (string_bytes k) (least_in p ks))) (least_in p ks)) passes ∙ ap Some (lesser_first (string_bytes k) (least_in p ks) (above p k ks sorted.0))

pub least_later : (p : List ℕ → Bool) (k : String Global) (ks : List (String Global)) → p (string_bytes k) ≡ false → least_in p (k ∷ ks) ≡ least_in p ks
least_later p k ks passes = ap (λ b. cond b (Some (lesser (string_bytes k) (least_in p ks))) (least_in p ks)) passes

pub sorted_later : (k : String Global) (ks : List (String Global)) → IsStrictlySortedBy string_cmp (k ∷ ks) → IsStrictlySortedBy string_cmp ks
unfolding IsStrictlySortedBy
sorted_later k ks sorted = sorted.1

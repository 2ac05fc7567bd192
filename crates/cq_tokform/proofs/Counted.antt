-- Lists: what is read is spelled so, and what is spelled so is read, one element after the other, as a loop does.
use Rattle.std.proofs.Common.{◌≡◌, ℕ, zero, suc, ◌-◌, ◌+◌, ◌≤◌, ◌<◌, List, [], ◌∷◌, ◌++◌, length, Option, Some, None, refl, sym, ap, subst, ◌∙◌, append_assoc, arith}
use Rattle.std.specs.List.{flat_map, AllByRecursion}
use Rattle.std.specs.Int.{w32, to_be_bytes}
use Rattle.std.proofs.lemmas.List.{append-nil}
use Rattle.std.proofs.lemmas.List.Concat.{flat_map-cons}
use Rattle.cq_tokform.specs.declared.unread.Unread.{Unread}
use Rattle.cq_tokform.specs.declared.unread.Unread.TheVariants as unread
use Rattle.cq_tokform.specs.Spelling.{counted}
use Rattle.cq_tokform.specs.Sound.{AreCounted}
use Rattle.cq_tokform.specs.Reading.{◌>>=◌, Fails, number_at, items_at, counted_at}
use Rattle.cq_tokform.proofs.Fields.{IsBytes, IsReader, Takes, Takes-then, bind_some, some_is, number32}

module _ {A : Type 0} (spell : A → List ℕ) (IsSound : A → Type 0) (one : List ℕ → Option (A × List ℕ)) (reader : IsReader spell IsSound one) where
  items_take : (n : ℕ) (bytes : List ℕ) (x : List A × List ℕ) → IsBytes bytes → items_at one n bytes ≡ Some x → Takes bytes (flat_map spell x.0) x.1 × (length x.0 ≡ n) × AllByRecursion IsSound x.0
  unfolding items_at
  items_take zero bytes x fits e =
      subst (λ (y : List A × List ℕ). Takes bytes (flat_map spell y.0) y.1 × (length y.0 ≡ 0) × AllByRecursion IsSound y.0) (some_is ([], bytes) x e) (record { parts = refl; rest_fits = fits }, refl, tt)
  items_take (suc n) bytes x fits e =
      let a = bind_some (one bytes) (λ first. items_at one n first.1 >>= λ others. Some (first.0 ∷ others.0, others.1)) x e in
      let b = bind_some (items_at one n a.0.1) (λ others. Some (a.0.0 ∷ others.0, others.1)) x a.2 in
      let first = reader.takes bytes a.0 fits a.1 in
      let second = items_take n a.0.1 b.0 first.0.rest_fits b.1 in
      let both = Takes-then bytes (spell a.0.0) a.0.1 (flat_map spell b.0.0) b.0.1 first.0 second.0 in
      let made : List A × List ℕ = (a.0.0 ∷ b.0.0, b.0.1) in
      subst (λ (y : List A × List ℕ). Takes bytes (flat_map spell y.0) y.1 × (length y.0 ≡ suc n) × AllByRecursion IsSound y.0) (some_is made x b.2) (rw flat_map-cons both, ap suc second.1, (first.1, second.2))

  items_again : (xs : List A) (rest : List ℕ) → AllByRecursion IsSound xs → items_at one (length xs) (flat_map spell xs ++ rest) ≡ Some (xs, rest)
  unfolding items_at
  items_again [] rest sound = refl
  items_again (x ∷ xs) rest sound =
      let regrouped : flat_map spell (x ∷ xs) ++ rest ≡ spell x ++ (flat_map spell xs ++ rest) = ap (λ (y : List ℕ). y ++ rest) (flat_map-cons spell x xs) ∙ append_assoc (spell x) (flat_map spell xs) rest in
      ap (items_at one (suc (length xs))) regrouped ∙ rw (reader.again x (flat_map spell xs ++ rest) sound.0, items_again xs rest sound.1) refl

  counted_takes : (bytes : List ℕ) (x : List A × List ℕ) → IsBytes bytes → counted_at one bytes ≡ Some x → Takes bytes (counted spell x.0) x.1 × AreCounted IsSound x.0
  unfolding counted_at
  counted_takes bytes x fits e =
      let n = bind_some (number_at w32 bytes) (λ n. items_at one n.0 n.1) x e in
      let first = number32.takes bytes n.0 fits n.1 in
      let second = items_take n.0.0 n.0.1 x first.0.rest_fits n.2 in
      let both = Takes-then bytes (to_be_bytes w32 n.0.0) n.0.1 (flat_map spell x.0) x.1 first.0 second.0 in
      let few = first.1 in
      let many = second.1 in
      (subst (λ (k : ℕ). Takes bytes (to_be_bytes w32 k ++ flat_map spell x.0) x.1) (sym many) both, record { few = omega (arith, few, many); each = second.2 })

  counted_again : (xs : List A) (rest : List ℕ) → AreCounted IsSound xs → counted_at one (counted spell xs ++ rest) ≡ Some (xs, rest)
  unfolding counted_at
  counted_again xs rest sound =
      ap (counted_at one) (append_assoc (to_be_bytes w32 (length xs)) (flat_map spell xs) rest)
      ∙ rw (number32.again (length xs) (flat_map spell xs ++ rest) sound.few) (items_again xs rest sound.each)

  pub lists : IsReader (counted spell) (AreCounted IsSound) (counted_at one)
  lists = record { takes = counted_takes; again = counted_again }

-- what was read before, and what is still read
abbrev pub with_front : {A : Type 0} → List A → Option (List A × List ℕ) → Option (List A × List ℕ)
with_front front read = read >>= λ x. Some (front ++ x.0, x.1)

regroup : {A : Type 0} (front : List A) (first : A) (read : Option (List A × List ℕ)) → with_front front (read >>= λ x. Some (first ∷ x.0, x.1)) ≡ with_front (front ++ first ∷ []) read
regroup {A = A} front first (Some x) = ap (λ (xs : List A). Some (xs, x.1)) (simp append_assoc)
regroup front first None = refl

module _ {A : Type 0} (one : List ℕ → Option (A × List ℕ)) (front : List A) (count i : ℕ) (bytes : List ℕ) where
  pub goes_on : (first : A) (after : List ℕ) (total : Option (List A × List ℕ)) → i < count → one bytes ≡ Some (first, after)
      → with_front front (items_at one (count - i) bytes) ≡ total → with_front (front ++ first ∷ []) (items_at one (count - (i + 1)) after) ≡ total
  unfolding items_at
  goes_on first after total lt h so_far =
      let k : count - i ≡ suc (count - (i + 1)) = omega arith in
      let step : with_front front (items_at one (count - i) bytes) ≡ with_front (front ++ first ∷ []) (items_at one (count - (i + 1)) after) = rw (k, h) (regroup front first (items_at one (count - (i + 1)) after)) in
      sym step ∙ so_far

  pub ends : (e : Unread) (total : Option (List A × List ℕ)) → i < count → Fails e (one bytes)
      → with_front front (items_at one (count - i) bytes) ≡ total → Fails e total
  unfolding items_at
  ends unread.Memory total lt h so_far = tt
  ends unread.Refused total lt h so_far =
      let k : count - i ≡ suc (count - (i + 1)) = omega arith in
      let step : with_front front (items_at one (count - i) bytes) ≡ None = rw (k, h) refl in
      sym so_far ∙ step

  pub is_done : (total : Option (List A × List ℕ)) → count ≤ i → with_front front (items_at one (count - i) bytes) ≡ total → total ≡ Some (front, bytes)
  unfolding items_at
  is_done total le so_far =
      let k : count - i ≡ 0 = omega arith in
      let step : with_front front (items_at one (count - i) bytes) ≡ Some (front, bytes) = rw k (ap (λ (xs : List A). Some (xs, bytes)) (append-nil front)) in
      sym so_far ∙ step

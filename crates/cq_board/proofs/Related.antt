-- Two lists of the same files, with different things kept of each.
use Rattle.std.proofs.Common.{◌≡◌, ℕ, zero, suc, ◌+◌, true, false, cond, not, List, [], ◌∷◌, refl, ap₂, subst}
use Rattle.std.specs.List.{insert}
use Rattle.std.specs.Str.{bytes_eq}
use Rattle.cq_history.specs.Files.{File, is_before, with_file, without_file, place_of}
use Rattle.cq_board.specs.Related.{IsSameFile, AreSameFiles}

module _ {X Y : Type 0} (Body : Rattle.cq_base.specs.declared.lang.Lang.Lang → X → Y → Type 0) where
  pub same_without : (p : List ℕ) (xs : List (File X)) (ys : List (File Y)) → AreSameFiles Body xs ys → AreSameFiles Body (without_file p xs) (without_file p ys)
  same_without p [] [] h = tt
  same_without p (x ∷ xs) (y ∷ ys) h =
      subst (λ r. AreSameFiles Body (without_file p (x ∷ xs)) (cond (not (bytes_eq p r)) (y ∷ without_file p ys) (without_file p ys))) h.0.path
      (elim (bytes_eq p x.path) as (λ b. AreSameFiles Body (cond (not b) (x ∷ without_file p xs) (without_file p xs)) (cond (not b) (y ∷ without_file p ys) (without_file p ys)))
      [ true ↦ same_without p xs ys h.1 | false ↦ (h.0, same_without p xs ys h.1) ])
  same_without p [] (y ∷ ys) h = absurd h
  same_without p (x ∷ xs) [] h = absurd h

  pub same_place : (p : List ℕ) (xs : List (File X)) (ys : List (File Y)) → AreSameFiles Body xs ys → place_of p xs ≡ place_of p ys
  same_place p [] [] h = refl
  same_place p (x ∷ xs) (y ∷ ys) h = ap₂ (λ r n. cond (not (is_before p r)) (1 + n) 0) h.0.path (same_place p xs ys h.1)
  same_place p [] (y ∷ ys) h = absurd h
  same_place p (x ∷ xs) [] h = absurd h

  same_insert : (xs : List (File X)) (ys : List (File Y)) (n : ℕ) (x : File X) (y : File Y) → AreSameFiles Body xs ys → IsSameFile Body x y → AreSameFiles Body (insert xs n x) (insert ys n y)
  same_insert xs ys zero x y h e = (e, h)
  same_insert [] [] (suc n) x y h e = (e, tt)
  same_insert (w ∷ ws) (z ∷ zs) (suc n) x y h e = (h.0, same_insert ws zs n x y h.1 e)
  same_insert [] (z ∷ zs) (suc n) x y h e = absurd h
  same_insert (w ∷ ws) [] (suc n) x y h e = absurd h

  pub same_with : (xs : List (File X)) (ys : List (File Y)) (x : File X) (y : File Y) → AreSameFiles Body xs ys → IsSameFile Body x y → AreSameFiles Body (with_file x xs) (with_file y ys)
  same_with xs ys x y h e =
      let rest : AreSameFiles Body (without_file x.path xs) (without_file x.path ys) = same_without x.path xs ys h in
      let made : AreSameFiles Body (insert (without_file x.path xs) (place_of x.path (without_file x.path xs)) x) (insert (without_file x.path ys) (place_of x.path (without_file x.path xs)) y) = same_insert _ _ _ x y rest e in
      let there : AreSameFiles Body (with_file x xs) (insert (without_file x.path ys) (place_of x.path (without_file x.path ys)) y) =
      subst (λ n. AreSameFiles Body (with_file x xs) (insert (without_file x.path ys) n y)) (same_place x.path _ _ rest) made in
      subst (λ p. AreSameFiles Body (with_file x xs) (insert (without_file p ys) (place_of p (without_file p ys)) y)) e.path there

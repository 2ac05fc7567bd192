-- A list whose items are moved to another one by one.
use Rattle.std.proofs.Common.{◌≡◌, ◌↔◌, ℕ, suc, zero, ◌+◌, ◌-◌, ◌<◌, ◌≤◌, true≢false, List, [], ◌∷◌, ◌++◌, length, map, take, drop, Option, Some, None, refl, sym, ap, ◌∙◌, subst, arith}
use Rattle.std.specs.Prelude.{IsSome}
use Rattle.std.specs.Option.{option_to_list}
use Rattle.std.proofs.lemmas.List.{append_assoc, append-nil, map-append, drop-drop}

one_more : (n : ℕ) → n + 1 ≡ suc n
one_more n = omega arith

module _ {X : Type 0} where
  taken_next : (n : ℕ) (xs : List X) (x : X) (ys : List X) → drop n xs ≡ x ∷ ys → take (suc n) xs ≡ take n xs ++ x ∷ []
  taken_next zero [] x ys e = absurd (cc)
  taken_next zero (y ∷ xs) x ys e = let same : y ≡ x = cc e in ap (λ z. z ∷ []) same
  taken_next (suc n) [] x ys e = absurd (cc)
  taken_next (suc n) (y ∷ xs) x ys e = ap (λ zs. y ∷ zs) (taken_next n xs x ys e)

  taken_last : (n : ℕ) (xs : List X) → drop n xs ≡ [] → take (suc n) xs ≡ take n xs
  taken_last zero [] e = refl
  taken_last zero (y ∷ xs) e = absurd (cc)
  taken_last (suc n) [] e = refl
  taken_last (suc n) (y ∷ xs) e = ap (λ zs. y ∷ zs) (taken_last n xs e)

  taken_on : (n : ℕ) (xs : List X) (x : X) (ys : List X) → drop n xs ≡ x ∷ ys → take (n + 1) xs ≡ take n xs ++ x ∷ []
  taken_on n xs x ys e = ap (λ k. take k xs) (one_more n) ∙ taken_next n xs x ys e

  taken_all : (n : ℕ) (xs : List X) → drop n xs ≡ [] → take (n + 1) xs ≡ take n xs
  taken_all n xs e = ap (λ k. take k xs) (one_more n) ∙ taken_last n xs e

  module _ (n : ℕ) (xs rest : List X) (is : rest ≡ drop n xs) where
    module _ (len : ℕ) (o : Option X) (now : List X) (size : len ≡ length rest) (some : IsSome o ↔ (0 < len)) (gone : rest ≡ option_to_list o ++ now) where
      -- where no item came, none was left
      none_came : o ≡ None → rest ≡ []
      none_came none = none_left rest (λ few. true≢false (sym (subst IsSome none (some.1 (omega (arith, few, size))))))
        where
          none_left : (xs : List X) → (0 < length xs → ⊥) → xs ≡ []
          none_left [] few = refl
          none_left (x ∷ xs) few = absurd (few (omega arith))

      pub left_on : now ≡ drop (n + 1) xs
      left_on = step o refl
        where
          step : (r : Option X) → o ≡ r → now ≡ drop (n + 1) xs
          step (Some x) e = ap (drop 1) (sym (gone ∙ ap (λ r. option_to_list r ++ now) e) ∙ is) ∙ drop-drop 1 n xs
          step None e = sym (gone ∙ ap (λ r. option_to_list r ++ now) e) ∙ none_came e ∙ ap (drop 1) (sym (none_came e) ∙ is) ∙ drop-drop 1 n xs

      pub moved_some : (done before after : List X) (x : X) → o ≡ Some x → before ≡ done ++ take n xs → after ≡ before ++ x ∷ [] → after ≡ done ++ take (n + 1) xs
      moved_some done before after x e was pushed =
          pushed ∙ ap (λ ys. ys ++ x ∷ []) was ∙ append_assoc done (take n xs) (x ∷ []) ∙ ap (λ ys. done ++ ys) (sym (taken_on n xs x now (sym is ∙ gone ∙ ap (λ r. option_to_list r ++ now) e)))

      pub moved_none : (done before : List X) → o ≡ None → before ≡ done ++ take n xs → before ≡ done ++ take (n + 1) xs
      moved_none done before e was = was ∙ ap (λ ys. done ++ ys) (sym (taken_all n xs (sym is ∙ none_came e)))

  -- what is left after some that were moved and some that went
  pub left_behind : (from before behind : ℕ) (xs rest now : List X) → from ≤ before → before ≤ behind → rest ≡ drop from xs → now ≡ drop (behind - before) (drop (before - from) rest) → now ≡ drop behind xs
  left_behind from before behind xs rest now first second is gone =
      gone ∙ ap (λ ys. drop (behind - before) (drop (before - from) ys)) is ∙ ap (drop (behind - before)) (drop-drop (before - from) from xs) ∙ drop-drop (behind - before) (from + (before - from)) xs
      ∙ ap (λ k. drop k xs) (omega (arith, first, second))

module _ {X Y : Type 0} (f : X → Y) (done low before : List X) (moved : before ≡ done ++ low) where
  pub joined_one : (now : List X) (x : X) → now ≡ before ++ x ∷ [] → map f now ≡ map f done ++ (map f low ++ f x ∷ [])
  joined_one now x pushed =
      ap (map f) (pushed ∙ ap (λ xs. xs ++ x ∷ []) moved ∙ append_assoc done low (x ∷ [])) ∙ map-append f done (low ++ x ∷ []) ∙ ap (λ ys. map f done ++ ys) (map-append f low (x ∷ []))

  pub joined_none : map f before ≡ map f done ++ (map f low ++ [])
  joined_none = ap (map f) moved ∙ map-append f done low ∙ ap (λ ys. map f done ++ ys) (sym (append-nil (map f low)))

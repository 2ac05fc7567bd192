-- What follows somewhere in a list is what comes after a front of it.
use Rattle.std.proofs.Common.{◌≡◌, ◌↔◌, List, [], ◌∷◌, ◌++◌, Bool, true, false, ◌||◌, refl, ap, ◌∙◌}
use Rattle.std.specs.List.{list_any}
use Rattle.cq_scope.specs.Fits.{suffixes}
use Rattle.cq_scope.specs.Laws.{HasFrontBefore}

or_nothing : (b : Bool) → (b || false) ≡ true → b ≡ true
or_nothing true h = refl
or_nothing false h = h

or_later : (a b : Bool) → b ≡ true → (a || b) ≡ true
or_later true b h = refl
or_later false b h = h

module _ {X : Type 0} (passes : List X → Bool) where
  front_of : (xs : List X) → list_any passes (suffixes xs) ≡ true → HasFrontBefore passes xs
  front_of [] h = ([], [], refl, or_nothing (passes []) h)
  front_of (x ∷ xs) h = by (passes (x ∷ xs)) refl h (front_of xs)
    where
      by : (b : Bool) → passes (x ∷ xs) ≡ b → (b || list_any passes (suffixes xs)) ≡ true → (list_any passes (suffixes xs) ≡ true → HasFrontBefore passes xs) → HasFrontBefore passes (x ∷ xs)
      by true here h later = ([], x ∷ xs, refl, here)
      by false here h later = let (front, back, is, fits) = later h in (x ∷ front, back, ap (λ (l : List X). x ∷ l) is, fits)

  behind : (front back : List X) → passes back ≡ true → list_any passes (suffixes (front ++ back)) ≡ true
  behind [] [] fits = ap (λ b. b || false) fits
  behind [] (x ∷ xs) fits = ap (λ b. b || list_any passes (suffixes xs)) fits
  behind (x ∷ front) back fits = or_later (passes (x ∷ (front ++ back))) (list_any passes (suffixes (front ++ back))) (behind front back fits)

  pub suffix_is_behind : (xs : List X) → (list_any passes (suffixes xs) ≡ true) ↔ HasFrontBefore passes xs
  suffix_is_behind xs = (front_of xs, λ h. ap (λ ys. list_any passes (suffixes ys)) h.2 ∙ behind h.0 h.1 h.3)

-- What a row says of the rest of a list: that it fits from some place that is set.
use Rattle.std.proofs.Common.{◌≡◌, ℕ, suc, ◌+◌, ◌<◌, List, [], ◌∷◌, length, drop, get_or, Bool, true, false, ◌&&◌, ◌||◌, refl, sym, ap, ◌∙◌, arith}
use Rattle.std.specs.List.{list_any}
use Rattle.std.proofs.lemmas.List.{drop_more, drop_all}
use Rattle.cq_scope.specs.Fits.{suffixes, is_nothing, begins, leads}
use Rattle.cq_scope.specs.Rows.{begun, spread, passed, advanced}

abbrev pub reached : {X : Type 0} → (List X → Bool) → List Bool → List X → Bool
reached rest [] xs = false
reached rest (r ∷ rs) [] = r && rest []
reached rest (r ∷ rs) (x ∷ xs) = (r && rest (x ∷ xs)) || reached rest rs xs

or_nothing : (b : Bool) → (b || false) ≡ b
or_nothing true = refl
or_nothing false = refl

-- ---- a star

star_last : (before r here : Bool) → ((before && (here || false)) || (r && (here || false))) ≡ ((before || r) && here)
star_last true r true = refl
star_last true true false = refl
star_last true false false = refl
star_last false true true = refl
star_last false true false = refl
star_last false false here = refl

star_next : (before r here later rest : Bool) → ((before && (here || later)) || ((r && (here || later)) || rest)) ≡ (((before || r) && here) || (((before || r) && later) || rest))
star_next true r true later rest = refl
star_next true r false true rest = refl
star_next true true false false rest = refl
star_next true false false false rest = refl
star_next false true true later rest = refl
star_next false true false later rest = refl
star_next false false here later rest = refl

module _ {X : Type 0} (rest : List X → Bool) where
  spread_reached : (before : Bool) (row : List Bool) (xs : List X) → length xs < length row
      → ((before && list_any rest (suffixes xs)) || reached (λ ys. list_any rest (suffixes ys)) row xs) ≡ reached rest (spread before row) xs
  spread_reached before [] xs room = absurd (omega (arith, room))
  spread_reached before (r ∷ rs) [] room = star_last before r (rest [])
  spread_reached before (r ∷ rs) (x ∷ xs) room =
      star_next before r (rest (x ∷ xs)) (list_any rest (suffixes xs)) (reached (λ ys. list_any rest (suffixes ys)) rs xs)
      ∙ ap (λ b. ((before || r) && rest (x ∷ xs)) || b) (spread_reached (before || r) rs xs (omega (arith, room)))

-- ---- anything else

or_neither : (b r : Bool) → (b || (r && false)) ≡ b
or_neither true r = refl
or_neither false true = refl
or_neither false false = refl

and_both : (r passes here : Bool) → (r && (passes && here)) ≡ ((r && passes) && here)
and_both true passes here = refl
and_both false passes here = refl

module _ {X : Type 0} (passes : X → Bool) (rest : List X → Bool) where
  passed_reached : (before : Bool) (row : List Bool) (xs : List X) → length xs < length row
      → ((before && rest xs) || reached (begins passes rest) row xs) ≡ reached rest (passed passes before row xs) xs
  passed_reached before [] xs room = absurd (omega (arith, room))
  passed_reached before (r ∷ rs) [] room = or_neither (before && rest []) r
  passed_reached before (r ∷ rs) (x ∷ xs) room =
      ap (λ b. (before && rest (x ∷ xs)) || (b || reached (begins passes rest) rs xs)) (and_both r (passes x) (rest xs))
      ∙ ap (λ b. (before && rest (x ∷ xs)) || b) (passed_reached (r && passes x) rs xs (omega (arith, room)))

  pub advanced_reached : (is_star : Bool) (row : List Bool) (xs : List X) → length xs < length row
      → reached (leads is_star passes rest) row xs ≡ reached rest (advanced is_star passes row xs) xs
  advanced_reached true row xs room = spread_reached rest false row xs room
  advanced_reached false row xs room = passed_reached false row xs room

-- ---- the first row and the last

module _ {X : Type 0} (rest : List X → Bool) where
  none_begun : (row : List Bool) (xs : List X) → reached rest (begun false row) xs ≡ false
  none_begun [] xs = refl
  none_begun (r ∷ rs) [] = refl
  none_begun (r ∷ rs) (x ∷ xs) = none_begun rs xs

  pub begun_reached : (row : List Bool) (xs : List X) → length xs < length row → reached rest (begun true row) xs ≡ rest xs
  begun_reached [] xs room = absurd (omega (arith, room))
  begun_reached (r ∷ rs) [] room = refl
  begun_reached (r ∷ rs) (x ∷ xs) room = ap (λ b. rest (x ∷ xs) || b) (none_begun rs xs) ∙ or_nothing (rest (x ∷ xs))

and_true : (b : Bool) → (b && true) ≡ b
and_true true = refl
and_true false = refl

not_here : (r b : Bool) → ((r && false) || b) ≡ b
not_here true b = refl
not_here false b = refl

pub all_reached : {X : Type 0} (row : List Bool) (xs : List X) → length xs < length row → reached is_nothing row xs ≡ get_or row (length xs) false
all_reached [] xs room = absurd (omega (arith, room))
all_reached (r ∷ rs) [] room = and_true r
all_reached (r ∷ rs) (x ∷ xs) room = not_here r (reached is_nothing rs xs) ∙ all_reached rs xs (omega (arith, room))

pub length-spread : (before : Bool) (row : List Bool) → length (spread before row) ≡ length row
length-spread before [] = refl
length-spread before (r ∷ rs) = ap suc (length-spread (before || r) rs)

pub length-passed : {X : Type 0} (passes : X → Bool) (before : Bool) (row : List Bool) (xs : List X) → length (passed passes before row xs) ≡ length row
length-passed passes before [] xs = refl
length-passed passes before (r ∷ rs) [] = refl
length-passed passes before (r ∷ rs) (x ∷ xs) = ap suc (length-passed passes (r && passes x) rs xs)

pub length-begun : (first : Bool) (row : List Bool) → length (begun first row) ≡ length row
length-begun first [] = refl
length-begun first (r ∷ rs) = ap suc (length-begun false rs)

pub length-advanced : {X : Type 0} (is_star : Bool) (passes : X → Bool) (row : List Bool) (xs : List X) → length (advanced is_star passes row xs) ≡ length row
length-advanced true passes row xs = length-spread false row
length-advanced false passes row xs = length-passed passes false row xs

-- ---- a walk over the elements of a pattern, of which each is a star or not

module _ {S X : Type 0} (fit : List S → List X → Bool) (star : S → Bool) (one : S → X → Bool) (at_end : fit [] ≡ is_nothing) (at : (s : S) (ss : List S) → fit (s ∷ ss) ≡ leads (star s) (one s) (fit ss)) where
  pub walk_begun : (symbols : List S) (row was : List Bool) (xs : List X) → row ≡ begun true was → length xs < length row → reached (fit symbols) row xs ≡ fit symbols xs
  walk_begun symbols row was xs is room =
      let same = ap length is ∙ length-begun true was in
      ap (λ v. reached (fit symbols) v xs) is ∙ begun_reached (fit symbols) was xs (omega (arith, room, same))

  pub walk_on : (symbols : List S) (n more : ℕ) (s : S) (row was : List Bool) (xs : List X) (b : Bool) → more ≡ n + 1 → n < length symbols → s ≡ get_or symbols n s → length xs < length was
      → row ≡ advanced (star s) (one s) was xs → reached (fit (drop n symbols)) was xs ≡ b → reached (fit (drop more symbols)) row xs ≡ b
  walk_on symbols n more s row was xs b next inside is room moved so_far =
      let rest = drop (n + 1) symbols in
      ap (λ k. reached (fit (drop k symbols)) row xs) next
      ∙ ap (λ v. reached (fit rest) v xs) moved
      ∙ sym (advanced_reached (one s) (fit rest) (star s) was xs room)
      ∙ sym (ap (λ f. reached f was xs) (at s rest))
      ∙ ap (λ v. reached (fit (v ∷ rest)) was xs) is
      ∙ sym (ap (λ v. reached (fit v) was xs) (drop_more symbols n s inside))
      ∙ so_far

  pub walk_ended : (symbols : List S) (n count : ℕ) (row : List Bool) (xs : List X) (b : Bool) → n ≡ length symbols → count ≡ length xs → length xs < length row → reached (fit (drop n symbols)) row xs ≡ b → get_or row count false ≡ b
  walk_ended symbols n count row xs b end counted room so_far =
      ap (λ k. get_or row k false) counted
      ∙ sym (all_reached row xs room)
      ∙ sym (ap (λ f. reached f row xs) at_end)
      ∙ sym (ap (λ v. reached (fit v) row xs) (drop_all n symbols (omega (arith, end))))
      ∙ so_far

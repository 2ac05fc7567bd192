-- A row that is written place by place.
use Rattle.std.proofs.Common.{◌≡◌, ℕ, suc, ◌+◌, ◌<◌, ◌≤◌, List, [], ◌∷◌, ◌++◌, length, take, drop, get_or, set, Bool, false, ◌&&◌, ◌||◌, sym, ap, ◌∙◌, append_assoc, arith}
use Rattle.std.proofs.lemmas.List.{append-nil, drop_more, drop_all, take_all, take_more_set, drop-set-lt, set_split}
use Rattle.cq_scope.specs.Rows.{begun, spread, passed}

-- the next place is written
put_next : (row : List Bool) (i : ℕ) (b : Bool) (rest : List Bool) → i < length row → take (i + 1) (set row i b) ++ rest ≡ take i row ++ b ∷ rest
put_next row i b rest inside = ap (λ v. v ++ rest) (take_more_set row i b inside) ∙ append_assoc (take i row) (b ∷ []) rest

-- all places are written
pub filled : (later : List Bool → List Bool) (row all : List Bool) (i : ℕ) → later [] ≡ [] → length row ≤ i → take i row ++ later (drop i row) ≡ all → row ≡ all
filled later row all i none end so_far =
    sym (ap (λ v. take i row ++ later v) (drop_all i row end) ∙ ap (λ v. take i row ++ v) none ∙ append-nil (take i row) ∙ take_all i row end) ∙ so_far

pub begun_next : (row all : List Bool) (i : ℕ) (first : Bool) → i < length row → take i row ++ begun first (drop i row) ≡ all
    → take (i + 1) (set row i first) ++ begun false (drop (i + 1) (set row i first)) ≡ all
begun_next row all i first inside so_far =
    ap (λ v. take (i + 1) (set row i first) ++ begun false v) (drop-set-lt (i + 1) row i first (omega arith))
    ∙ put_next row i first (begun false (drop (i + 1) row)) inside
    ∙ sym (ap (λ v. take i row ++ begun first v) (drop_more row i false inside))
    ∙ so_far

pub spread_next : (row all : List Bool) (i : ℕ) (before now : Bool) → i < length row → now ≡ (before || get_or row i false) → take i row ++ spread before (drop i row) ≡ all
    → take (i + 1) (set row i now) ++ spread now (drop (i + 1) (set row i now)) ≡ all
spread_next row all i before now inside is so_far =
    ap (λ v. take (i + 1) (set row i now) ++ spread now v) (drop-set-lt (i + 1) row i now (omega arith))
    ∙ put_next row i now (spread now (drop (i + 1) row)) inside
    ∙ ap (λ (b : Bool). take i row ++ b ∷ spread b (drop (i + 1) row)) is
    ∙ sym (ap (λ v. take i row ++ spread before v) (drop_more row i false inside))
    ∙ so_far

module _ {X : Type 0} (passes : X → Bool) (xs : List X) where
  -- the place before the element at n, where the row has a place for each element and one more
  pub passed_next : (row all : List Bool) (i n : ℕ) (before now : Bool) (x : X) → i ≡ n → n < length xs → length xs < length row → x ≡ get_or xs n x → now ≡ (get_or row i false && passes x)
      → take i row ++ passed passes before (drop i row) (drop i xs) ≡ all
      → take (i + 1) (set row i before) ++ passed passes now (drop (i + 1) (set row i before)) (drop (i + 1) xs) ≡ all
  passed_next row all i n before now x same within room here is so_far =
      let left = drop (i + 1) xs in
      let inside : i < length row = omega (arith, same, within, room) in
      let at : x ≡ get_or xs i x = here ∙ ap (λ k. get_or xs k x) (sym same) in
      ap (λ v. take (i + 1) (set row i before) ++ passed passes now v left) (drop-set-lt (i + 1) row i before (omega arith))
      ∙ put_next row i before (passed passes now (drop (i + 1) row) left) inside
      ∙ ap (λ b. take i row ++ before ∷ passed passes b (drop (i + 1) row) left) is
      ∙ ap (λ v. take i row ++ passed passes before (get_or row i false ∷ drop (i + 1) row) (v ∷ left)) at
      ∙ sym (ap (λ v. take i row ++ passed passes before (get_or row i false ∷ drop (i + 1) row) v) (drop_more xs i x (omega (arith, same, within))))
      ∙ sym (ap (λ v. take i row ++ passed passes before v (drop i xs)) (drop_more row i false inside))
      ∙ so_far

  pub passed_last : (row all : List Bool) (i n : ℕ) (before : Bool) → i ≡ n → n ≡ length xs → length xs < length row → take i row ++ passed passes before (drop i row) (drop i xs) ≡ all → set row i before ≡ all
  passed_last row all i n before same end room so_far =
      let next : suc i ≡ i + 1 = omega arith in
      let inside : i < length row = omega (arith, same, end, room) in
      set_split row i before inside
      ∙ ap (λ n. take i row ++ before ∷ drop n row) next
      ∙ sym (ap (λ v. take i row ++ passed passes before v []) (drop_more row i false inside))
      ∙ sym (ap (λ v. take i row ++ passed passes before (drop i row) v) (drop_all i xs (omega (arith, same, end))))
      ∙ so_far

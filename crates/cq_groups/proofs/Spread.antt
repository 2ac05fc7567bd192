-- The spots of marked rows, each with its row's mark.
use Rattle.std.proofs.Common.{Global, Vec, ◌≡◌, ◌≢◌, ℕ, suc, ◌+◌, ◌<◌, ◌≤◌, Bool, cond, List, [], ◌∷◌, ◌++◌, length, map, get_or, refl, sym, ap, ap₂, ◌∙◌, subst, ⊎_elim, arith, eqb}
use Rattle.std.specs.Prelude.{All, Contains, filter}
use Rattle.std.proofs.lemmas.Bool.{cases_eq, eq-eqb, ne_eqb}
use Rattle.std.proofs.lemmas.List.{map-append, get_or-map, length-map}
use Rattle.std.proofs.lemmas.List.Elements.{All-contains, Contains-get_or, Contains-append_cases, filter-append}
use Rattle.cq_base.proofs.Lists.{Contains-here, Contains-there, Contains-nil, Contains-map, Contains-from_map, Contains-from_filter}
use Rattle.cq_clones.specs.Groups.{token_behind}
use Rattle.cq_groups.specs.declared.spots.Spot.{Spot}
use Rattle.cq_groups.specs.declared.spots.Row.{Row}
use Rattle.cq_groups.specs.declared.spots.MarkedRow.{MarkedRow}
use Rattle.cq_groups.specs.Rows.{row_spots, all_of, IsRow, AreRows}
use Rattle.cq_groups.specs.Sets.{Marked, all_marked, spread, part_of, rows_of, AreAlike, IsMark, AreMarked, AreRowsMarked, AreByMark}
use Rattle.cq_groups.specs.Steps.{ArePartRows}
use Rattle.cq_groups.proofs.RowLaws.{goes_on}

-- ---- spots with one mark

pub all_spots : (m : ℕ) (spots : List Spot) → map (λ x. x.spot) (all_marked m spots) ≡ spots
all_spots m [] = refl
all_spots m (s ∷ ss) = ap (λ (zs : List Spot). s ∷ zs) (all_spots m ss)

pub all_part : (m : ℕ) (spots : List Spot) → part_of m (all_marked m spots) ≡ spots
all_part m [] = refl
all_part m (s ∷ ss) = rw (eq-eqb m m refl) (ap (λ (zs : List Spot). s ∷ zs) (all_part m ss))

pub all_mark : (m : ℕ) (spots : List Spot) (x : Marked) → Contains (all_marked m spots) x → (x.mark ≡ m) × Contains spots x.spot
all_mark m spots x c =
    let (s, s_in, is) = Contains-from_map (λ (s : Spot). let x : Marked = record { spot = s; mark = m } in x) spots x c in
    (sym (ap (λ (z : Marked). z.mark) is), subst (Contains spots) (ap (λ (z : Marked). z.spot) is) s_in)

-- those with another mark are none of them
no_part : (m k : ℕ) (spots : List Spot) → k ≢ m → part_of m (all_marked k spots) ≡ []
no_part m k [] other = refl
no_part m k (s ∷ ss) other = rw (ne_eqb k m other) (no_part m k ss other)

-- ---- the spots of marked rows

from_spread : (xs : List MarkedRow) (y : Marked) → Contains (spread xs) y → (x : MarkedRow) × Contains xs x × Contains (all_marked x.mark (row_spots x.row)) y
from_spread [] y c = absurd (Contains-nil y c)
from_spread (x ∷ xs) y c =
    ⊎_elim
    (λ here. (x, Contains-here x xs, here))
    (λ later. let (z, z_in, y_in) = from_spread xs y later in (z, Contains-there x z xs z_in, y_in))
    (Contains-append_cases (all_marked x.mark (row_spots x.row)) (spread xs) y c)

pub spread_spots : (xs : List MarkedRow) → map (λ x. x.spot) (spread xs) ≡ all_of (map (λ x. x.row) xs)
spread_spots [] = refl
spread_spots (x ∷ xs) =
    map-append (λ (z : Marked). z.spot) (all_marked x.mark (row_spots x.row)) (spread xs)
    ∙ ap₂ (λ (a b : List Spot). a ++ b) (all_spots x.mark (row_spots x.row)) (spread_spots xs)

part_append : (m : ℕ) (xs ys : List Marked) → part_of m (xs ++ ys) ≡ part_of m xs ++ part_of m ys
part_append m xs ys =
    ap (map (λ (z : Marked). z.spot)) (filter-append (λ (z : Marked). eqb z.mark m) xs ys)
    ∙ map-append (λ (z : Marked). z.spot) (filter (λ (z : Marked). eqb z.mark m) xs) (filter (λ (z : Marked). eqb z.mark m) ys)

-- the spots with a mark are those of the rows with it
pub spread_part : (m : ℕ) (xs : List MarkedRow) → part_of m (spread xs) ≡ all_of (rows_of m xs)
spread_part m [] = refl
spread_part m (x ∷ xs) =
    let ss = row_spots x.row in
    let more : List MarkedRow = filter (λ (z : MarkedRow). eqb z.mark m) xs in
    let apart = part_append m (all_marked x.mark ss) (spread xs) in
    let rest = spread_part m xs in
    ⊎_elim
    (λ same.
    let here : part_of m (all_marked x.mark ss) ≡ ss = ap (λ (k : ℕ). part_of k (all_marked x.mark ss)) (sym same) ∙ all_part x.mark ss in
    apart
    ∙ ap₂ (λ (a b : List Spot). a ++ b) here rest
    ∙ ap (λ (b : Bool). all_of (map (λ (z : MarkedRow). z.row) (cond b (x ∷ more) more))) (sym (eq-eqb x.mark m same)))
    (λ other.
    apart
    ∙ ap₂ (λ (a b : List Spot). a ++ b) (no_part m x.mark ss other) rest
    ∙ ap (λ (b : Bool). all_of (map (λ (z : MarkedRow). z.row) (cond b (x ∷ more) more))) (sym (ne_eqb x.mark m other)))
    (cases_eq x.mark m)

pub spread_low : (most : ℕ) (xs : List MarkedRow) → All (λ x. x.mark ≤ most) xs → All (λ x. x.mark ≤ most) (spread xs)
spread_low most xs low k d within =
    let y : Marked = get_or (spread xs) k d in
    let (x, x_in, y_in) = from_spread xs y (Contains-get_or (spread xs) k d within) in
    subst (λ (n : ℕ). n ≤ most) (sym (all_mark x.mark (row_spots x.row) y y_in).0) (All-contains (λ (z : MarkedRow). z.mark ≤ most) xs x low x_in)

-- the mark of a row is that of the token after each of its spots
pub spread_marked : {T : Type 0} (corpus : List (List T)) (n : ℕ) (rows : List Row) (xs : List MarkedRow) → AreAlike corpus n (all_of rows) → AreRows n rows → map (λ x. x.row) xs ≡ rows → AreRowsMarked corpus n xs → AreMarked corpus n (spread xs)
spread_marked {T} corpus n rows xs alike are rows_are marked = record {
  seen = marked.seen;
  apart = marked.apart;
  marks = λ y c.
      let (x, x_in, y_in) = from_spread xs y c in
      let (mark, s_in) = all_mark x.mark (row_spots x.row) y y_in in
      let r_in : Contains rows x.row = subst (λ (rs : List Row). Contains rs x.row) rows_are (Contains-map (λ (z : MarkedRow). z.row) xs x x_in) in
      let same = goes_on corpus rows n alike are x.row y.spot r_in s_in in
      subst (IsMark marked.seen (token_behind corpus y.spot.place n)) (sym mark)
      (subst (λ o. IsMark marked.seen o x.mark) (sym same) (marked.marks x x_in));
}

-- ---- the rows of parts

-- what all rows have, those with a mark have
rows_of_all : (P : Row → Type 0) (m : ℕ) (xs : List MarkedRow) → All (λ x. P x.row) xs → All P (rows_of m xs)
rows_of_all P m xs all k d within =
    let kept : List MarkedRow = filter (λ (z : MarkedRow). eqb z.mark m) xs in
    let (x, x_in, is) = Contains-from_map (λ (z : MarkedRow). z.row) kept (get_or (rows_of m xs) k d) (Contains-get_or (rows_of m xs) k d within) in
    subst P is (All-contains (λ (z : MarkedRow). P z.row) xs x all (Contains-from_filter (λ (z : MarkedRow). eqb z.mark m) xs x x_in).0)

pub rows_of_parts : (depth highest : ℕ) (marked : List MarkedRow) (parts : List (Vec Row Global)) → AreByMark highest marked (map (λ part. part.items) parts) → All (λ x. IsRow depth x.row) marked → All (λ part. All (IsRow depth) part.items) parts
rows_of_parts depth highest marked parts are all k d within =
    let size : length parts ≡ highest = sym (length-map parts (λ part. part.items)) ∙ are.number in
    let e : (get_or parts k d).items ≡ rows_of (k + 1) marked = sym (get_or-map (λ part. part.items) parts k d [] within) ∙ are.each k [] (subst (λ (n : ℕ). k < n) size within) in
    subst (All (IsRow depth)) (sym e) (rows_of_all (IsRow depth) (k + 1) marked all)

pub marked_rows : (P : Row → Type 0) (rows : List Row) (xs : List MarkedRow) → map (λ x. x.row) xs ≡ rows → All P rows → All (λ x. P x.row) xs
marked_rows P rows xs are all k d within =
    All-contains P rows (get_or xs k d).row all
    (subst (λ (rs : List Row). Contains rs (get_or xs k d).row) are (Contains-map (λ (z : MarkedRow). z.row) xs (get_or xs k d) (Contains-get_or xs k d within)))

-- one list of rows of several
pub part_rows_head : (depth : ℕ) (part : Vec Row Global) (rest : List (Vec Row Global)) → ArePartRows depth (part ∷ rest) → All (IsRow depth) part.items
part_rows_head depth part rest all = all 0 part (omega arith)

pub part_rows_tail : (depth : ℕ) (part : Vec Row Global) (rest : List (Vec Row Global)) → ArePartRows depth (part ∷ rest) → ArePartRows depth rest
part_rows_tail depth part rest all k d within = all (suc k) d (omega (arith, within))

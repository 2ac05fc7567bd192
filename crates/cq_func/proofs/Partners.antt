-- What is looked up by levels is what the definitions count.
use Rattle.std.proofs.Common.{◌≡◌, ℕ, ◌+◌, ◌-◌, ◌*◌, ◌<◌, ◌≤◌, Bool, true, false, cond, eqb, ◌&&◌, List, length, get_or, take, drop, codes, refl, sym, ap, ◌∙◌, subst, arith}
use Rattle.std.specs.Prelude.{All, map}
use Rattle.std.specs.List.{range_with_len}
use Rattle.std.proofs.lemmas.Bool.{ne_eqb}
use Rattle.std.proofs.lemmas.List.{get_or_default, get_or-take, get_or-drop, length-take-le, length-drop}
use Rattle.cq_base.specs.declared.lang.Lang.{Lang}
use Rattle.cq_base.specs.declared.lang.Lang.TheVariants as lang
use Rattle.cq_base.specs.declared.token.Spelled.{Spelled}
use Rattle.cq_func.specs.declared.brackets.Kind.{Kind}
use Rattle.cq_func.specs.declared.brackets.Kind.TheVariants as kind
use Rattle.cq_func.specs.Places.{place_above, place_below}
use Rattle.cq_func.specs.Brackets.{stands, are_even, from_to, between, partner}
use Rattle.cq_func.specs.Levels.{level, AreLevels, end_mark}
use Rattle.cq_func.specs.Names.{is_name, go_begins, go_name, go_end, go_open, go_func}
use Rattle.cq_func.specs.Tables.{Tells, AreAbove, AreFirst, ArePartners, AreEnds, AreOpens, AreFuncs, open_mark}
use Rattle.cq_func.proofs.Least.{first_place-within, place_above-same, place_above-within, place_below-same}
use Rattle.cq_func.proofs.Counted.{level-tells, level-small}
use Rattle.cq_func.proofs.Marks.{marks_long, marks_each}

pub all_below : (xs : List ℕ) (w : ℕ) → ((k : ℕ) → k < length xs → get_or xs k 0 < w) → All (λ m. m < w) xs
all_below xs w each = λ k d inside. subst (λ m. m < w) (sym (get_or_default xs k d 0 inside)) (each k inside)

pub levels_below : (l : Lang) (k : Kind) (ts : List Spelled) (levels xs : List ℕ) (from w : ℕ) → AreLevels l k ts levels → 2 * length ts < w → ((j : ℕ) → j < length xs → (get_or xs j 0 ≡ get_or levels (from + j) 0) × (from + j ≤ length ts)) → All (λ m. m < w) xs
levels_below l k ts levels xs from w are fits reads =
    all_below xs w (λ j inside.
    let read = (reads j inside).0 in let within = (reads j inside).1 in let is = are.each (from + j) within in let small = level-small l k ts (from + j) within in
    omega (arith, read, is, small))

-- the partners are those of equal level
pub partners_are : (l : Lang) (k : Kind) (ts : List Spelled) (levels wanted marks table : List ℕ) → AreLevels l k ts levels → length marks ≡ length ts
    → ((j : ℕ) → j < length ts → get_or marks j 0 ≡ get_or levels (1 + j) 0) → ((j : ℕ) → j < length ts → get_or wanted j 0 ≡ get_or levels j 0)
    → AreAbove wanted marks table → ArePartners l k ts table
unfolding partner
partners_are l k ts levels wanted marks table are long marked looked above = record {
  long = let enough = above.long in omega (arith, enough, long);
  each = λ at below.
      let inside : at < length marks = omega (arith, long) in
      above.each at inside
      ∙ ap (place_above (λ j. eqb (get_or marks j 0) (get_or wanted at 0)) at) long
      ∙ place_above-same (λ j. eqb (get_or marks j 0) (get_or wanted at 0)) (λ j. are_even l k (from_to ts at j)) at (length ts) below (λ j low high.
      let m : get_or marks j 0 ≡ level l k ts (j + 1) = marked j high ∙ ap (λ i. get_or levels i 0) (let e : 1 + j ≡ j + 1 = omega arith in e) ∙ are.each (j + 1) (omega arith) in
      let w : get_or wanted at 0 ≡ level l k ts at = looked at below ∙ are.each at (omega arith) in
      let t = level-tells l k ts at (j + 1) (omega arith) (omega arith) in
      ap (λ x. eqb x (get_or wanted at 0)) m ∙ ap (eqb (level l k ts (j + 1))) w ∙ t);
}

pub partner-within : (l : Lang) (k : Kind) (ts : List Spelled) (at : ℕ) → at < length ts → (at < partner l k ts at) × (partner l k ts at ≤ length ts)
unfolding partner
partner-within l k ts at below = place_above-within (λ j. are_even l k (from_to ts at j)) at (length ts) below

-- ---- Go

end_test : (b : Bool) (m n x y : ℕ) (even : Bool) → m ≡ cond b x n → y < n → eqb x y ≡ even → eqb m y ≡ (b && even)
end_test true m n x y even is small same = ap (λ v. eqb v y) is ∙ same
end_test false m n x y even is small same = ap (λ v. eqb v y) is ∙ ne_eqb n y (λ (e : n ≡ y). omega arith)

pub ends_are : (ts : List Spelled) (levels wanted marks table : List ℕ) → AreLevels lang.Go kind.All ts levels → length marks ≡ length ts → ((j : ℕ) → j < length ts → get_or marks j 0 ≡ end_mark ts j)
    → ((j : ℕ) → j < length ts → get_or wanted j 0 ≡ get_or levels (1 + j) 0) → AreAbove wanted marks table → AreEnds ts table
unfolding go_end
ends_are ts levels wanted marks table are many marked looked above = record {
  long = let enough = above.long in omega (arith, enough, many);
  each = λ at below.
      let inside : at < length marks = omega (arith, many) in
      above.each at inside
      ∙ ap (place_above (λ j. eqb (get_or marks j 0) (get_or wanted at 0)) at) many
      ∙ place_above-same (λ j. eqb (get_or marks j 0) (get_or wanted at 0)) (λ q. stands lang.Go ts q (codes ";") && are_even lang.Go kind.All (between ts at q)) at (length ts) below (λ j low high.
      let w : get_or wanted at 0 ≡ level lang.Go kind.All ts (at + 1) = looked at below ∙ ap (λ i. get_or levels i 0) (let e : 1 + at ≡ at + 1 = omega arith in e) ∙ are.each (at + 1) (omega arith) in
      let t = level-tells lang.Go kind.All ts (at + 1) j (omega arith) (omega arith) in
      let small = level-small lang.Go kind.All ts (at + 1) (omega arith) in
      ap (eqb (get_or marks j 0)) w
      ∙ end_test (stands lang.Go ts j (codes ";")) (get_or marks j 0) (2 * length ts + 1) (level lang.Go kind.All ts j) (level lang.Go kind.All ts (at + 1)) (are_even lang.Go kind.All (between ts at j)) (marked j high) (omega (arith, small)) t);
}

-- the first place with a mark, where marks tell what a test does
firsts_are : (g : ℕ → ℕ) (test : ℕ → ℕ → Bool) (n width : ℕ) (marks table : List ℕ) → length marks ≡ n → n ≤ width
    → ((v j : ℕ) → v < n → j < n → eqb (get_or marks j 0) v ≡ test v j) → ((v : ℕ) → v < n → place_below (test v) n ≡ g v)
    → AreFirst marks width table → Tells g n table
firsts_are g test n width marks table long wide same are first = record {
  long = let enough = first.long in omega (arith, enough, wide);
  each = λ v below.
      first.each v (omega arith)
      ∙ ap (place_below (λ j. eqb (get_or marks j 0) v)) long
      ∙ place_below-same (λ j. eqb (get_or marks j 0) v) (test v) n (λ j inside. same v j below inside)
      ∙ are v below;
}

pub funcs_are : (ts : List Spelled) (width : ℕ) (marks table : List ℕ) → length marks ≡ length ts → length ts ≤ width
    → ((j : ℕ) → j < length ts → get_or marks j 0 ≡ go_name ts j) → AreFirst marks width table → AreFuncs ts table
unfolding go_func
funcs_are ts width marks table long wide marked first =
    firsts_are (go_func ts) (λ v at. eqb (go_name ts at) v) (length ts) width marks table long wide
    (λ v j below inside. ap (λ m. eqb m v) (marked j inside)) (λ v below. refl) first

open_test : (b : Bool) (m n x v : ℕ) → m ≡ cond b x n → v < n → eqb m v ≡ (b && eqb x v)
open_test true m n x v is small = ap (λ k. eqb k v) is
open_test false m n x v is small = ap (λ k. eqb k v) is ∙ ne_eqb n v (λ (e : n ≡ v). omega arith)

pub opens_are : (ts : List Spelled) (width : ℕ) (marks table : List ℕ) → length marks ≡ length ts → length ts ≤ width
    → ((j : ℕ) → j < length ts → get_or marks j 0 ≡ open_mark ts j) → AreFirst marks width table → AreOpens ts table
unfolding go_open
opens_are ts width marks table long wide marked first =
    firsts_are (go_open ts) (λ v b. stands lang.Go ts b (codes "{") && eqb (partner lang.Go kind.Curly ts b) v) (length ts) width marks table long wide
    (λ v j below inside. open_test (stands lang.Go ts j (codes "{")) (get_or marks j 0) (length ts) (partner lang.Go kind.Curly ts j) v (marked j inside) below)
    (λ v below. refl) first

pub go_end-within : (ts : List Spelled) (close : ℕ) → close < length ts → (close < go_end ts close) × (go_end ts close ≤ length ts)
unfolding go_end
go_end-within ts close below = place_above-within (λ q. stands lang.Go ts q (codes ";") && are_even lang.Go kind.All (between ts close q)) close (length ts) below

-- ---- what is handed to a search

before_read : (levels xs : List ℕ) (n : ℕ) → length levels ≡ n + 1 → xs ≡ take (length levels - 1) levels → (length xs ≡ n) × ((j : ℕ) → j < n → get_or xs j 0 ≡ get_or levels j 0)
before_read levels xs n long is =
    let size = ap length is in
    let whole = length-take-le (length levels - 1) levels (omega arith) in (
      omega (arith, size, whole, long),
      λ j below. ap (λ ys. get_or ys j 0) is ∙ get_or-take (length levels - 1) levels j 0 (omega (arith, long)),
    )

behind_read : (levels xs : List ℕ) (n : ℕ) → length levels ≡ n + 1 → xs ≡ drop 1 levels → (length xs ≡ n) × ((j : ℕ) → get_or xs j 0 ≡ get_or levels (1 + j) 0)
behind_read levels xs n long is =
    let size = ap length is in
    let whole = length-drop 1 levels in
    (omega (arith, size, whole, long), λ j. ap (λ ys. get_or ys j 0) is ∙ get_or-drop 1 levels j 0)

pub before_below : (l : Lang) (k : Kind) (ts : List Spelled) (levels xs : List ℕ) (w : ℕ) → AreLevels l k ts levels → xs ≡ take (length levels - 1) levels → 2 * length ts < w → All (λ m. m < w) xs
before_below l k ts levels xs w are is fits =
    let read = before_read levels xs (length ts) are.many is in
    let long = read.0 in
    levels_below l k ts levels xs 0 w are fits (λ j inside. (read.1 j (omega (arith, long)) ∙ ap (λ i. get_or levels i 0) (let e : j ≡ 0 + j = omega arith in e), omega (arith, long)))

pub behind_below : (l : Lang) (k : Kind) (ts : List Spelled) (levels xs : List ℕ) (w : ℕ) → AreLevels l k ts levels → xs ≡ drop 1 levels → 2 * length ts < w → All (λ m. m < w) xs
behind_below l k ts levels xs w are is fits =
    let read = behind_read levels xs (length ts) are.many is in
    let long = read.0 in
    levels_below l k ts levels xs 1 w are fits (λ j inside. (read.1 j, omega (arith, long)))

pub behind_long : (l : Lang) (k : Kind) (ts : List Spelled) (levels xs : List ℕ) → AreLevels l k ts levels → xs ≡ drop 1 levels → length xs ≡ length ts
behind_long l k ts levels xs are is = (behind_read levels xs (length ts) are.many is).0

pub before_long : (l : Lang) (k : Kind) (ts : List Spelled) (levels xs : List ℕ) → AreLevels l k ts levels → xs ≡ take (length levels - 1) levels → length xs ≡ length ts
before_long l k ts levels xs are is = (before_read levels xs (length ts) are.many is).0

pub partners_from : (l : Lang) (k : Kind) (ts : List Spelled) (levels wanted marks table : List ℕ) → AreLevels l k ts levels → wanted ≡ take (length levels - 1) levels → marks ≡ drop 1 levels → AreAbove wanted marks table → ArePartners l k ts table
partners_from l k ts levels wanted marks table are looked marked above =
    let before = before_read levels wanted (length ts) are.many looked in
    let behind = behind_read levels marks (length ts) are.many marked in
    partners_are l k ts levels wanted marks table are behind.0 (λ j below. behind.1 j) before.1 above

pub ends_from : (ts : List Spelled) (levels wanted marks table : List ℕ) → AreLevels lang.Go kind.All ts levels → wanted ≡ drop 1 levels → marks ≡ map (end_mark ts) (range_with_len 0 (length ts)) → AreAbove wanted marks table → AreEnds ts table
ends_from ts levels wanted marks table are looked marked above =
    let behind = behind_read levels wanted (length ts) are.many looked in
    ends_are ts levels wanted marks table are (marks_long (end_mark ts) (length ts) marks marked) (marks_each (end_mark ts) (length ts) marks marked) (λ j below. behind.1 j) above

pub funcs_from : (ts : List Spelled) (width : ℕ) (marks table : List ℕ) → marks ≡ map (go_name ts) (range_with_len 0 (length ts)) → length ts ≤ width → AreFirst marks width table → AreFuncs ts table
funcs_from ts width marks table marked wide first =
    funcs_are ts width marks table (marks_long (go_name ts) (length ts) marks marked) wide (marks_each (go_name ts) (length ts) marks marked) first

pub opens_from : (ts : List Spelled) (width : ℕ) (marks table : List ℕ) → marks ≡ map (open_mark ts) (range_with_len 0 (length ts)) → length ts ≤ width → AreFirst marks width table → AreOpens ts table
opens_from ts width marks table marked wide first =
    opens_are ts width marks table (marks_long (open_mark ts) (length ts) marks marked) wide (marks_each (open_mark ts) (length ts) marks marked) first

-- ---- how large marks are

pub marks_below : (f : ℕ → ℕ) (n w : ℕ) (marks : List ℕ) → marks ≡ map f (range_with_len 0 n) → ((j : ℕ) → j < n → f j < w) → All (λ m. m < w) marks
marks_below f n w marks is small =
    let long = marks_long f n marks is in
    all_below marks w (λ j inside. let within : j < n = omega (arith, long) in let read = marks_each f n marks is j within in let low = small j within in omega (arith, read, low))

cond_small : (b : Bool) (x y w : ℕ) → x < w → y < w → cond b x y < w
cond_small true x y w low high = low
cond_small false x y w low high = high

pub end_mark-small : (ts : List Spelled) (at : ℕ) → at < length ts → end_mark ts at < 2 * length ts + 2
end_mark-small ts at below =
    let small = level-small lang.Go kind.All ts at (omega arith) in
    cond_small (stands lang.Go ts at (codes ";")) (level lang.Go kind.All ts at) (2 * length ts + 1) (2 * length ts + 2) (omega (arith, small)) (omega arith)

pub open_mark-small : (ts : List Spelled) (at : ℕ) → at < length ts → open_mark ts at < length ts + 1
open_mark-small ts at below =
    let small = partner-within lang.Go kind.Curly ts at below in
    cond_small (stands lang.Go ts at (codes "{")) (partner lang.Go kind.Curly ts at) (length ts) (length ts + 1) (omega (arith, small)) (omega arith)

partner-small : (l : Lang) (k : Kind) (ts : List Spelled) (at : ℕ) → at ≤ length ts → partner l k ts at ≤ length ts + 1
unfolding partner
partner-small l k ts at le =
    let within = first_place-within (λ j. are_even l k (from_to ts at j)) (at + 1) (length ts - (at + 1)) in
    omega (arith, within)

pub go_name-small : (ts : List Spelled) (at : ℕ) → at < length ts → go_name ts at < length ts + 3
go_name-small ts at below =
    let small = partner-small lang.Go kind.Round ts (at + 1) (omega arith) in
    cond_small (go_begins ts at) (cond (is_name ts (at + 1)) (at + 1) (cond (stands lang.Go ts (at + 1) (codes "(")) (partner lang.Go kind.Round ts (at + 1) + 1) (length ts))) (length ts) (length ts + 3)
    (cond_small (is_name ts (at + 1)) (at + 1) (cond (stands lang.Go ts (at + 1) (codes "(")) (partner lang.Go kind.Round ts (at + 1) + 1) (length ts)) (length ts + 3) (omega arith)
    (cond_small (stands lang.Go ts (at + 1) (codes "(")) (partner lang.Go kind.Round ts (at + 1) + 1) (length ts) (length ts + 3) (omega (arith, small)) (omega arith)))
    (omega arith)

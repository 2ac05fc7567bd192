-- The lines of a text: each byte stands on one of them, and none on an earlier line than a byte before it.
use Rattle.std.proofs.Common.{◌≡◌, ℕ, ◌+◌, ◌-◌, ◌<◌, ◌≤◌, Bool, true, false, not, eqb, Option, List, [], ◌∷◌, length, get_or, take, count_by, option_map, refl, ap, ◌∙◌, arith}
use Rattle.std.specs.Prelude.{unwrap_or}
use Rattle.std.proofs.lemmas.Bool.{cond-true, cond-false}
use Rattle.std.proofs.lemmas.List.{length-take, take_all}
use Rattle.std.proofs.lemmas.List.Sums.{count_by-le-length, count_by_more_yes, count_by_more_no}
use Rattle.std.proofs.lemmas.Option.{slice_get-get_or}
use Rattle.cq_base.specs.Lines.{line_feed, line_at, is_open, lines_of}
use Rattle.cq_base.proofs.Counts.{count_further}

abbrev is_feed : ℕ → Bool
is_feed b = eqb b line_feed

pub later_line : (text : List ℕ) (a b : ℕ) → a ≤ b → line_at text a ≤ line_at text b
later_line text a b le =
    let further = count_further is_feed a (b - a) text in
    let whole = ap (λ n. count_by is_feed (take n text)) (let all : a + (b - a) ≡ b = omega arith in all) in
    omega (arith, further, whole)

-- the bytes before the last one, and the last one
module _ (text : List ℕ) (some : 0 < length text) where
  front : count_by is_feed (take (length text - 1 + 1) text) ≡ count_by is_feed text
  front = ap (count_by is_feed) (take_all (length text - 1 + 1) text (omega arith))

  open_is : (b : Bool) → eqb (get_or text (length text - 1) 0) line_feed ≡ b → is_open text ≡ not b
  open_is b is =
      ap (λ (o : Option ℕ). unwrap_or (option_map (λ c. not (eqb c line_feed)) o) false) (slice_get-get_or text (length text - 1) 0 (omega arith)) ∙ ap not is

  -- it is a line feed, or a line is open after the last line feed
  lines_are : (b : Bool) → eqb (get_or text (length text - 1) 0) line_feed ≡ b → lines_of text ≡ count_by is_feed (take (length text - 1) text) + 1
  lines_are true is =
      let all = count_by_more_yes is_feed text (length text - 1) 0 (omega arith) is in
      let shut = cond-false {A = ℕ} (is_open text) 1 0 (open_is true is) in
      omega (arith, all, front, shut)
  lines_are false is =
      let all = count_by_more_no is_feed text (length text - 1) 0 (omega arith) is in
      let behind = cond-true {A = ℕ} (is_open text) 1 0 (open_is false is) in
      omega (arith, all, front, behind)

  lines_some : lines_of text ≡ count_by is_feed (take (length text - 1) text) + 1
  lines_some = lines_are (eqb (get_or text (length text - 1) 0) line_feed) refl

pub line_within : (text : List ℕ) (k : ℕ) → k < length text → line_at text k ≤ lines_of text
line_within text k inside =
    let before = later_line text k (length text - 1) (omega arith) in
    let all = lines_some text (omega arith) in
    omega (arith, before, all)

some_lines : (text : List ℕ) → 0 < length text → lines_of text ≤ length text
some_lines text some =
    let all = lines_some text some in
    let few = count_by-le-length is_feed (take (length text - 1) text) in
    let front = length-take (length text - 1) text in
    omega (arith, all, few, front)

-- a text has no more lines than bytes
pub few_lines : (text : List ℕ) → lines_of text ≤ length text
few_lines [] = omega arith
few_lines (b ∷ text) = some_lines (b ∷ text) (omega arith)

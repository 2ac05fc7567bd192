-- Lines after bytes that a line feed ends.
use Rattle.std.proofs.Common.{◌≡◌, ℕ, Bool, true, false, eqb, List, [], ◌∷◌, ◌++◌, refl, sym, ap, ◌∙◌, inl, inr, append_assoc}
use Rattle.std.proofs.lemmas.List.{append-nil}
use Rattle.cq_lines.specs.Pieces.{ended, split, all_lines, last_line}
use Rattle.cq_program.specs.Agreeing.{IsWhole}

abbrev Cut : Type 0
Cut = List (List ℕ) × List ℕ

abbrev cut_to : List (List ℕ) → List ℕ → Cut
cut_to lines rest = (lines, rest)

-- they are some lines, and others follow them
record Closed (bytes : List ℕ) : Type 0 where
  line : List ℕ
  lines : List (List ℕ)
  alone : split bytes ≡ cut_to (line ∷ lines) []
  followed : (more : List ℕ) → split (bytes ++ more) ≡ cut_to (line ∷ (lines ++ (split more).0)) (split more).1

-- by whether the byte before them is a line feed
one_before : (b : ℕ) (bytes : List ℕ) (is : Bool) → eqb b 10 ≡ is → Closed bytes → Closed (b ∷ bytes)
unfolding split
one_before b bytes true is closed = record {
  line = [];
  lines = closed.line ∷ closed.lines;
  alone = rw (is, closed.alone) refl;
  followed = λ more. rw (is, closed.followed more) refl;
}
one_before b bytes false is closed = record {
  line = b ∷ closed.line;
  lines = closed.lines;
  alone = rw (is, closed.alone) refl;
  followed = λ more. rw (is, closed.followed more) refl;
}

closed_feed : Closed (10 ∷ [])
unfolding split
closed_feed = record { line = []; lines = []; alone = refl; followed = λ more. refl }

closed_by : (front : List ℕ) → Closed (ended front)
closed_by [] = closed_feed
closed_by (b ∷ front) = one_before b (ended front) (eqb b 10) refl (closed_by front)

lines_closed : (front more : List ℕ) → all_lines (ended front ++ more) ≡ all_lines (ended front) ++ all_lines more
lines_closed front more =
    let closed = closed_by front in
    let behind = cut_to (closed.line ∷ (closed.lines ++ (split more).0)) (split more).1 in
    let joined : all_lines (ended front ++ more) ≡ (closed.line ∷ (closed.lines ++ (split more).0)) ++ last_line (split more).1 = ap (λ (c : Cut). c.0 ++ last_line c.1) (closed.followed more) in
    let alone : all_lines (ended front) ≡ (closed.line ∷ closed.lines) ++ [] = ap (λ (c : Cut). c.0 ++ last_line c.1) closed.alone in
    joined ∙ append_assoc (closed.line ∷ closed.lines) (split more).0 (last_line (split more).1) ∙ ap (λ (ls : List (List ℕ)). ls ++ all_lines more) (sym (alone ∙ append-nil (closed.line ∷ closed.lines)))

lines_none : (more : List ℕ) → all_lines more ≡ all_lines [] ++ all_lines more
unfolding split
lines_none more = refl

-- the lines of both are theirs and then those that follow
pub lines_behind : (bytes more : List ℕ) → IsWhole bytes → all_lines (bytes ++ more) ≡ all_lines bytes ++ all_lines more
lines_behind bytes more (inl none) = ap (λ (xs : List ℕ). all_lines (xs ++ more)) none ∙ lines_none more ∙ ap (λ (xs : List ℕ). all_lines xs ++ all_lines more) (sym none)
lines_behind bytes more (inr closed) = ap (λ (xs : List ℕ). all_lines (xs ++ more)) closed.1 ∙ lines_closed closed.0 more ∙ ap (λ (xs : List ℕ). all_lines xs ++ all_lines more) (sym closed.1)

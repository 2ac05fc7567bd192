-- The lines of bytes, with bytes after them that have no line feed, and with a line feed.
use Rattle.std.proofs.Common.{◌≡◌, ℕ, Bool, true, false, cond, eqb, List, [], ◌∷◌, ◌++◌, length, refl, sym, ap, ◌∙◌, append_assoc, append-nil, arith}
use Rattle.std.specs.Prelude.{nat_lt}
use Rattle.std.proofs.lemmas.Bool.{lt-ltb}
use Rattle.cq_lines.proofs.Splitting.{split_clean}
use Rattle.cq_lines.specs.Pieces.{HasNoFeed, ended, split, onto_split, last_line, all_lines}
use Rattle.cq_log.specs.Mending.{is_unclosed}

-- the lines that a line feed closes, and what follows the last of them
abbrev Pieces : Type 0
Pieces = List (List ℕ) × List ℕ

-- one byte in front
abbrev in_front : ℕ → Bool → Pieces → Pieces
in_front b is p = cond is ([] ∷ p.0, p.1) (onto_split b p.0 p.1)

-- what follows the first closes a line, and the pieces of the second come after it
abbrev joined : Pieces → Pieces → Pieces
joined p q = (p.0 ++ p.1 ∷ q.0, q.1)

-- bytes without a line feed after them
abbrev longer : Pieces → List ℕ → Pieces
longer p more = (p.0, p.1 ++ more)

front_joined : (b : ℕ) (is : Bool) (lines : List (List ℕ)) (rest : List ℕ) (q : Pieces) → in_front b is (joined (lines, rest) q) ≡ joined (in_front b is (lines, rest)) q
front_joined b true lines rest q = refl
front_joined b false [] rest q = refl
front_joined b false (line ∷ lines) rest q = refl

front_longer : (b : ℕ) (is : Bool) (lines : List (List ℕ)) (rest more : List ℕ) → in_front b is (longer (lines, rest) more) ≡ longer (in_front b is (lines, rest)) more
front_longer b true lines rest more = refl
front_longer b false [] rest more = refl
front_longer b false (line ∷ lines) rest more = refl

split_feed : (bytes more : List ℕ) → split (bytes ++ 10 ∷ more) ≡ joined (split bytes) (split more)
unfolding split
split_feed [] more = refl
split_feed (b ∷ bytes) more = ap (in_front b (eqb b 10)) (split_feed bytes more) ∙ front_joined b (eqb b 10) (split bytes).0 (split bytes).1 (split more)

split_longer : (bytes more : List ℕ) → HasNoFeed more → split (bytes ++ more) ≡ longer (split bytes) more
unfolding split
split_longer [] more clean = split_clean more clean
split_longer (b ∷ bytes) more clean = ap (in_front b (eqb b 10)) (split_longer bytes more clean) ∙ front_longer b (eqb b 10) (split bytes).0 (split bytes).1 more

split_fed : (bytes : List ℕ) → split (bytes ++ 10 ∷ []) ≡ ((split bytes).0 ++ (split bytes).1 ∷ [], [])
unfolding split
split_fed bytes = split_feed bytes []

lines_fed : (bytes : List ℕ) → all_lines (bytes ++ 10 ∷ []) ≡ (split bytes).0 ++ (split bytes).1 ∷ []
lines_fed bytes = ap (λ (p : Pieces). p.0 ++ last_line p.1) (split_fed bytes) ∙ append-nil ((split bytes).0 ++ (split bytes).1 ∷ [])

-- ---- the last line

some_last : (rest : List ℕ) → nat_lt 0 (length rest) ≡ true → last_line rest ≡ rest ∷ []
some_last [] some = absurd (cc)
some_last (b ∷ rest) some = refl

no_last : (rest : List ℕ) → nat_lt 0 (length rest) ≡ false → rest ≡ []
no_last [] none = refl
no_last (b ∷ rest) none = absurd (let some : nat_lt 0 (length (b ∷ rest)) ≡ true = lt-ltb 0 (length (b ∷ rest)) (omega arith) in let bad : true ≡ false = sym some ∙ none in cc)

-- a line feed after the last line closes it, if it has none
pub feed_closes : (bytes : List ℕ) → is_unclosed bytes ≡ true → all_lines (bytes ++ 10 ∷ []) ≡ all_lines bytes
feed_closes bytes unclosed = lines_fed bytes ∙ ap (λ (ls : List (List ℕ)). (split bytes).0 ++ ls) (sym (some_last (split bytes).1 unclosed))

pub closed_lines_are : (bytes : List ℕ) → is_unclosed bytes ≡ false → all_lines bytes ≡ (split bytes).0
closed_lines_are bytes closed = ap (λ (rest : List ℕ). (split bytes).0 ++ last_line rest) (no_last (split bytes).1 closed) ∙ append-nil (split bytes).0

-- and is an empty line otherwise
pub feed_adds : (bytes : List ℕ) → is_unclosed bytes ≡ false → all_lines (bytes ++ 10 ∷ []) ≡ all_lines bytes ++ [] ∷ []
feed_adds bytes closed =
    lines_fed bytes ∙ ap (λ (rest : List ℕ). (split bytes).0 ++ rest ∷ []) (no_last (split bytes).1 closed) ∙ ap (λ (ls : List (List ℕ)). ls ++ [] ∷ []) (sym (closed_lines_are bytes closed))

pub fed_is_closed : (bytes : List ℕ) → is_unclosed (bytes ++ 10 ∷ []) ≡ false
fed_is_closed bytes = ap (λ (p : Pieces). nat_lt 0 (length p.1)) (split_fed bytes)

-- one line more, with its line feed
pub line_adds : (bytes line : List ℕ) → is_unclosed bytes ≡ false → HasNoFeed line → all_lines (bytes ++ ended line) ≡ all_lines bytes ++ line ∷ []
line_adds bytes line closed clean =
    ap all_lines (sym (append_assoc bytes line (10 ∷ []))) ∙ lines_fed (bytes ++ line) ∙ ap (λ (p : Pieces). p.0 ++ p.1 ∷ []) (split_longer bytes line clean)
    ∙ ap (λ (rest : List ℕ). (split bytes).0 ++ (rest ++ line) ∷ []) (no_last (split bytes).1 closed) ∙ ap (λ (ls : List (List ℕ)). ls ++ line ∷ []) (sym (closed_lines_are bytes closed))

pub line_is_closed : (bytes line : List ℕ) → is_unclosed (bytes ++ ended line) ≡ false
line_is_closed bytes line = ap is_unclosed (sym (append_assoc bytes line (10 ∷ []))) ∙ fed_is_closed (bytes ++ line)

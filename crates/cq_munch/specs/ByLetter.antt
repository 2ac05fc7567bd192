-- Lists of words, in the order of the words' first letters.
use Rattle.std.specs.Prelude.{ℕ, ◌-◌, ◌==◌, if◌then◌else◌, List, [], map, slice_index_or}
use Rattle.std.specs.Borrow.{Bor}
use Rattle.std.specs.Char.{is_ascii_lowercase}
use Rattle.cq_munch.specs.Longest.{IsAmong}

-- the row of the words that begin with a character: one for each small letter, one for the underscore, and none for others
abbrev pub row_of : ℕ → ℕ
row_of c = if is_ascii_lowercase c then c - 97 else (if c == 95 then 26 else 27)

-- the words of a row
abbrev pub words_in_row : List (Bor (List (Bor (List ℕ)))) → ℕ → List (List ℕ)
words_in_row rows n = slice_index_or (map (λ words. map (λ word. word.now) words.now) rows) n []

-- the words of the row that a text would be in
abbrev pub words_beside : List (Bor (List (Bor (List ℕ)))) → List ℕ → List (List ℕ)
words_beside rows s = words_in_row rows (row_of (slice_index_or s 0 0))

-- the text is one of them
abbrev pub IsListedByLetter : List (Bor (List (Bor (List ℕ)))) → List ℕ → Type 0
IsListedByLetter rows s = IsAmong (words_beside rows s) s

-- What is open in a mode is a stack.
use Rattle.std.specs.Prelude.{◌≡◌, ℕ, ◌+◌, ◌*◌, ◌<◌, List, [], ◌∷◌, ⊤, IsTrue, IsFalse}
use Rattle.cq_lex_js.specs.Modes.{is_full, opened, closed, has_open}

-- the number of a stack, the innermost digit first
abbrev pub number_of : List ℕ → ℕ
number_of [] = 0
number_of (d ∷ ds) = number_of ds * 4 + d

-- digits by 4, of which the outermost is not 0
abbrev pub IsStack : List ℕ → Type 0
IsStack [] = ⊤
IsStack (d ∷ []) = (0 < d) × (d < 4)
IsStack (d ∷ e ∷ ds) = (d < 4) × IsStack (e ∷ ds)

-- the mode with this stack, after a token of a kind
abbrev pub mode_of : List ℕ → ℕ → ℕ
mode_of ds token = number_of ds * 4 + token

-- A digit is put on, unless the mode is full; the innermost is taken off, and the mode has it; and no two stacks have one number.
abbrev pub WhatIsOpenIsAStack : Type 0
WhatIsOpenIsAStack =
    ((ds : List ℕ) (d token : ℕ) → token < 4 → IsFalse (is_full (mode_of ds token)) → opened (mode_of ds token) d ≡ mode_of (d ∷ ds) 0)
    × ((ds : List ℕ) (d token : ℕ) → d < 4 → token < 4 → closed (mode_of (d ∷ ds) token) ≡ mode_of ds 0)
    × ((ds : List ℕ) (d token : ℕ) → d < 4 → token < 4 → IsTrue (has_open (mode_of (d ∷ ds) token) d))
    × ((ds es : List ℕ) → IsStack ds → IsStack es → number_of ds ≡ number_of es → ds ≡ es)

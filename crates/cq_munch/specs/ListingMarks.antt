-- The two words in a comment that switch the listing of tokens off and on.
use Rattle.std.specs.Prelude.{ℕ, ◌==◌, Bool, true, false, ◌||◌, if◌then◌else◌, Option, Some, None, List, [], ◌∷◌, codes}
use Rattle.std.specs.Option.{option_or}
use Rattle.cq_munch.specs.Table.{begins}

-- whether the characters at the front switch it on, if they are one of the two words
abbrev pub said_at : List ℕ → Option Bool
said_at text = if begins (codes "CPD-OFF") text then Some false else (if begins (codes "CPD-ON") text then Some true else None)

-- what the last such word says, wherever it is
abbrev pub said : List ℕ → Option Bool
said [] = None
said (c ∷ text) = option_or (said text) (said_at (c ∷ text))

-- the character is one of the first five of both words, which are the same
abbrev pub leads : ℕ → Bool
leads c = (c == 67) || ((c == 80) || ((c == 68) || ((c == 45) || (c == 79))))

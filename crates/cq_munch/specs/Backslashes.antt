-- Characters directly after a backslash.
use Rattle.std.specs.Prelude.{ℕ, Bool, false, ◌&&◌, ◌||◌, ◌==◌, List, [], ◌∷◌}
use Rattle.cq_munch.specs.declared.unit.Unit.{Unit}

-- whether the character comes directly after a backslash; the flag says whether there is one before these units
abbrev pub follows : ℕ → Bool → List Unit → Bool
follows c behind [] = false
follows c behind (u ∷ us) = (behind && (u.ch == c)) || follows c (u.ch == 92) us

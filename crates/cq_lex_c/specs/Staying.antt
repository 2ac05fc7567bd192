-- Which units stay when splices are removed, by the characters around each (C11 5.1.1.2, phase 2).
use Rattle.std.specs.Prelude.{◌≡◌, ℕ, Bool, false, ◌&&◌, ◌||◌, ◌==◌, List, [], ◌∷◌, if◌then◌else◌}
use Rattle.cq_munch.specs.declared.unit.Unit.{Unit}
use Rattle.cq_lex_c.specs.Splices.{begins_with_lf, spliced}

-- a line ends here: LF, or CR and LF
abbrev pub begins_with_line_end : List Unit → Bool
begins_with_line_end [] = false
begins_with_line_end (u ∷ us) = (u.ch == 10) || ((u.ch == 13) && begins_with_lf us)

-- By the two characters before the first unit: it is a backslash with a line end directly after it, or begins a line end
-- directly after a backslash, or is the LF of one of CR and LF.
abbrev pub is_in_splice : ℕ → ℕ → List Unit → Bool
is_in_splice two one [] = false
is_in_splice two one (u ∷ us) =
    ((u.ch == 92) && begins_with_line_end us) || (((one == 92) && begins_with_line_end (u ∷ us)) || ((two == 92) && ((one == 13) && (u.ch == 10))))

-- the units that are no such ones, in order
abbrev pub staying : ℕ → ℕ → List Unit → List Unit
staying two one [] = []
staying two one (u ∷ us) = if is_in_splice two one (u ∷ us) then staying one u.ch us else u ∷ staying one u.ch us

-- Exactly those are removed. Before the first unit there is no character; two zeros stand in for them.
abbrev pub OnlySplicesAreLeftOut : Type 0
OnlySplicesAreLeftOut = (units : List Unit) → spliced 0 units ≡ staying 0 0 units

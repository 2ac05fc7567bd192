-- A backslash and a line end after it are removed (C11 5.1.1.2, phase 2).
use Rattle.std.specs.Prelude.{ℕ, zero, suc, ◌-◌, Bool, false, ◌&&◌, ◌==◌, List, [], ◌∷◌, if◌then◌else◌}
use Rattle.cq_munch.specs.declared.unit.Unit.{Unit}

abbrev pub begins_with_lf : List Unit → Bool
begins_with_lf [] = false
begins_with_lf (u ∷ us) = u.ch == 10

-- how many units of a splice are at the front: a backslash and LF, or a backslash, CR and LF, or none
abbrev pub splice_len : List Unit → ℕ
splice_len [] = 0
splice_len (u ∷ []) = 0
splice_len (u ∷ v ∷ us) =
    if (u.ch == 92) && (v.ch == 10) then 2
    else (if (u.ch == 92) && ((v.ch == 13) && begins_with_lf us) then 3
    else 0)

-- what is kept at a unit, if no splice has it
abbrev pub kept : ℕ → Unit → List Unit → List Unit → List Unit
kept zero u whole rest = u ∷ whole
kept (suc n) u whole rest = rest

-- the units without the splices, after this many that belong to one
unfoldable pub spliced : ℕ → List Unit → List Unit
spliced n [] = []
spliced (suc n) (u ∷ us) = spliced n us
spliced zero (u ∷ us) = let n = splice_len (u ∷ us) in kept n u (spliced 0 us) (spliced (n - 1) us)

-- Which backslashes begin a Unicode escape, by how many backslashes come directly before each in the text (JLS 3.3).
use Rattle.std.specs.Prelude.{◌≡◌, ℕ, zero, suc, ◌-◌, Bool, false, not, ◌==◌, if◌then◌else◌, Result, Ok, List, [], ◌∷◌}
use Rattle.cq_munch.specs.declared.unit.Unit.{Unit}
use Rattle.cq_lex_java.specs.Escapes.{step_at}
use Rattle.cq_lex_java.specs.Translation.{by_step, len_of, translated}
use Rattle.cq_lex_java.specs.declared.escape.Step.{Step}
use Rattle.cq_lex_java.specs.declared.escape.Step.TheVariants as steps

abbrev pub is_odd : ℕ → Bool
is_odd zero = false
is_odd (suc n) = not (is_odd n)

-- what the first unit is read as, if this many backslashes come directly before it
abbrev pub read_behind : ℕ → List Unit → Step
read_behind n units = if is_odd n then steps.Plain else step_at units

-- how many backslashes come directly before what follows a unit, if this many come before that unit
abbrev pub behind : ℕ → Unit → ℕ
behind n u = if u.ch == 92 then suc n else 0

-- The translation by that count: the number of units that still belong to an escape, and the number of backslashes
-- directly before.
unfoldable pub counted : ℕ → ℕ → List Unit → Result (List Unit) ℕ
counted skip n [] = Ok []
counted (suc k) n (u ∷ us) = counted k (behind n u) us
counted zero n (u ∷ us) = by_step (read_behind n (u ∷ us)) u us (counted 0 (behind n u) us) (counted (len_of (read_behind n (u ∷ us)) - 1) (behind n u) us)

-- A backslash begins an escape only if an even number of backslashes comes directly before it.
abbrev pub EscapesGoByCount : Type 0
EscapesGoByCount = (units : List Unit) → translated 0 false units ≡ counted 0 0 units

-- The units of a text after its Unicode escapes are read (JLS 3.3), or the byte of the first fault.
use Rattle.std.specs.Prelude.{ℕ, zero, suc, ◌+◌, ◌-◌, Bool, false, not, ◌&&◌, ◌==◌, if◌then◌else◌, Result, Ok, Err, List, [], ◌∷◌}
use Rattle.cq_munch.specs.Lexed.{unit_at}
use Rattle.cq_munch.specs.declared.unit.Unit.{Unit}
use Rattle.cq_lex_java.specs.Escapes.{step_at}
use Rattle.cq_lex_java.specs.declared.escape.Step.{Step}
use Rattle.cq_lex_java.specs.declared.escape.Step.TheVariants as steps

-- a character with the bytes of all the units that spell it
abbrev pub spanning : ℕ → List Unit → ℕ → Unit
spanning ch units len =
    let first = unit_at units 0 in
    let last = unit_at units (len - 1) in
    record { ch = ch; start = first.start; len = last.start + last.len - first.start }

abbrev pub before : Unit → Result (List Unit) ℕ → Result (List Unit) ℕ
before u (Ok us) = Ok (u ∷ us)
before u (Err at) = Err at

abbrev pub len_of : Step → ℕ
len_of (steps.One ch len) = len
len_of steps.Plain = 1
len_of steps.Fault = 1

abbrev pub by_step : Step → Unit → List Unit → Result (List Unit) ℕ → Result (List Unit) ℕ → Result (List Unit) ℕ
by_step steps.Plain u us plain behind = before u plain
by_step steps.Fault u us plain behind = Err u.start
by_step (steps.One ch len) u us plain behind = before (spanning ch (u ∷ us) len) behind

-- what a backslash is read as if an odd number comes before it, or else
abbrev pub read_at : Bool → List Unit → Step
read_at odd units = if odd then steps.Plain else step_at units

-- after this many units that belong to an escape, and after an odd number of backslashes or not
unfoldable pub translated : ℕ → Bool → List Unit → Result (List Unit) ℕ
translated skip odd [] = Ok []
translated (suc n) odd (u ∷ us) = translated n odd us
translated zero odd (u ∷ us) =
    by_step (read_at odd (u ∷ us)) u us (translated 0 ((u.ch == 92) && not odd) us) (translated (len_of (read_at odd (u ∷ us)) - 1) false us)

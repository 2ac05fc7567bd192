-- Unicode escapes (JLS 3.3): what a backslash is read as if an even number of backslashes comes before it.
use Rattle.std.specs.Prelude.{ℕ, ◌+◌, ◌-◌, ◌*◌, ◌≤◌, Bool, true, false, ◌&&◌, ◌||◌, ◌==◌, nat_le, nat_lt, if◌then◌else◌, Option, Some, None, List, [], ◌∷◌, drop, ⊤}
use Rattle.std.specs.Char.{digit_value}
use Rattle.cq_munch.specs.declared.unit.Unit.{Unit}
use Rattle.cq_lex_java.specs.declared.escape.Escape.{Escape}
use Rattle.cq_lex_java.specs.declared.escape.Escape.TheVariants as escapes
use Rattle.cq_lex_java.specs.declared.escape.Step.{Step}
use Rattle.cq_lex_java.specs.declared.escape.Step.TheVariants as steps

-- how many u are at the front
abbrev pub marks_of : List Unit → ℕ
marks_of [] = 0
marks_of (u ∷ us) = if u.ch == 117 then 1 + marks_of us else 0

abbrev pub hex_value : ℕ → Option ℕ
hex_value c = if nat_lt (digit_value c) 16 then Some (digit_value c) else None

abbrev pub number_of : Option ℕ → Option ℕ → Option ℕ → Option ℕ → Option ℕ
number_of (Some a) (Some b) (Some c) (Some d) = Some (((a * 16 + b) * 16 + c) * 16 + d)
number_of _ _ _ _ = None

-- the number that four hexadecimal digits at the front write
abbrev pub four_digits : List Unit → Option ℕ
four_digits (a ∷ b ∷ c ∷ d ∷ us) = number_of (hex_value a.ch) (hex_value b.ch) (hex_value c.ch) (hex_value d.ch)
four_digits _ = None

abbrev pub escape_of : Bool → ℕ → Option ℕ → Escape
escape_of false marks number = escapes.None
escape_of true marks None = escapes.Bad
escape_of true marks (Some code) = escapes.Code code (marks + 5)

-- a backslash, one or more u, and four digits
abbrev pub escape_at : List Unit → Escape
escape_at [] = escapes.None
escape_at (u ∷ us) = escape_of ((u.ch == 92) && nat_lt 0 (marks_of us)) (marks_of us) (four_digits (drop (marks_of us) us))

-- the character of a code, which no surrogate has
abbrev pub scalar : ℕ → Option ℕ
scalar code = if nat_lt code 55296 || (nat_lt 57343 code && nat_lt code 1114112) then Some code else None

-- the character that a high and a low surrogate write together
abbrev pub joined : ℕ → ℕ → Option ℕ
joined high low =
    if (nat_le 55296 high && nat_lt high 56320) && (nat_le 56320 low && nat_lt low 57344) then scalar (65536 + (high - 55296) * 1024 + (low - 56320)) else None

abbrev pub step_of : Option ℕ → ℕ → Step
step_of None len = steps.Plain
step_of (Some ch) len = steps.One ch len

-- A high surrogate directly before a low one is one character with it. Any other surrogate is not translated.
abbrev pub pair_of : ℕ → ℕ → Escape → Step
pair_of high len (escapes.Code low more) = step_of (joined high low) (len + more)
pair_of high len escapes.None = steps.Plain
pair_of high len escapes.Bad = steps.Plain

abbrev pub by_scalar : Option ℕ → ℕ → ℕ → Escape → Step
by_scalar (Some ch) code len next = steps.One ch len
by_scalar None code len next = pair_of code len next

abbrev pub by_escape : Escape → List Unit → Step
by_escape escapes.None units = steps.Plain
by_escape escapes.Bad units = steps.Fault
by_escape (escapes.Code code len) units = by_scalar (scalar code) code len (escape_at (drop len units))

abbrev pub step_at : List Unit → Step
step_at units = by_escape (escape_at units) units

-- ---- what can be shown

abbrev pub IsEscapeLong : ℕ → Escape → Type 0
IsEscapeLong n (escapes.Code code len) = (2 ≤ len) × (len ≤ n)
IsEscapeLong n escapes.None = ⊤
IsEscapeLong n escapes.Bad = ⊤

abbrev pub IsStepWithin : ℕ → Step → Type 0
IsStepWithin n (steps.One ch len) = (2 ≤ len) × (len ≤ n)
IsStepWithin n steps.Plain = ⊤
IsStepWithin n steps.Fault = ⊤

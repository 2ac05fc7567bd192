-- The text of a put, and whether it is still there: it is given up when its work is made.
use Rattle.std.specs.Prelude.{◌≡◌, ℕ, List, length, Bool, Option, IfSome}
use Rattle.std.specs.Arc.{arc_value}
use Rattle.std.specs.declared.alloc.Global.{Global}
use Rattle.std.specs.declared.sync.Arc.{Arc}

pub record Given : Type 0 where
  pub text : List ℕ
  pub is_there : Bool

abbrev pub given : List ℕ → Bool → Given
given text is_there = record { text = text; is_there = is_there }

-- these are its bytes, and so many, also after it was given up
abbrev pub IsTextOf : List ℕ → ℕ → Option (Arc (List ℕ) Global) → Type 0
IsTextOf bytes len whole = (len ≡ length bytes) × IfSome whole (λ text. arc_value text ≡ bytes)

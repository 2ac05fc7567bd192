-- What is in a buffer after a call that writes, and where its writer was cut off.
use Rattle.std.specs.Prelude.{◌≡◌, ℕ, List, ◌++◌, Vec}
use Rattle.std.specs.declared.alloc.Global.{Global}

-- these bytes come after the old ones
abbrev pub AddsBytes : List ℕ → Vec ℕ Global → Vec ℕ Global → Type 0
AddsBytes bytes old new = new.items ≡ old.items ++ bytes

-- the old bytes are in front, and some more may be after them
pub record IsFrontOf (old new : List ℕ) : Type 0 where
  pub more : List ℕ
  pub is : new ≡ old ++ more

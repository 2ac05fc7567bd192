-- Values that differ, told by computing.
use Rattle.std.specs.Prelude.{◌≡◌, ℕ, true, false, List}
use Rattle.std.specs.Str.{bytes_eq}
use Rattle.std.proofs.Common.{arith}
use Rattle.std.proofs.lemmas.Slice.Eq.{bytes_eq-Decides}

pub is_false : false ≡ true → ⊥
is_false e = cc

pub is_true : true ≡ false → ⊥
is_true e = cc

pub differ : {a b : List ℕ} → a ≡ b → bytes_eq a b ≡ false → ⊥
differ {a} {b} e apart = grind (arith, bytes_eq-Decides a b, apart, e)

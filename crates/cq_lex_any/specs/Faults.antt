-- No text is a fault.
use Rattle.std.specs.Prelude.{ℕ, Ok, List}
use Rattle.cq_munch.specs.Lexed.{IsLexed}
use Rattle.cq_munch.specs.declared.munching.Lexed.TheVariants.{Fault}
use Rattle.cq_lex_any.specs.Any.{any}

abbrev pub NoTextIsAFault : Type 0
NoTextIsAFault = (bytes : List ℕ) (byte : ℕ) → IsLexed any (λ units. Ok units) (λ text tokens. tokens) bytes (Fault byte) → ⊥

use Rattle.std.proofs.Common.{◌≡◌, ℕ, true, Some}
use Rattle.cq_munch.specs.Automata.{Tables}
use Rattle.cq_munch.specs.Characters.{seen_by}
use Rattle.cq_munch.specs.PlainNames.{plain_fits, IsItselfBelow}
use Rattle.cq_munch.proofs.Rowed.{Rowed}
use Rattle.cq_munch.proofs.names.plain_name.Given as goal

abbrev pub invariant-loop-at : goal.invariant-loop-at
invariant-loop-at l =
    (t : Tables) (state row : ℕ) (stood : ℕ → ℕ) → plain_fits l.fn.kinds t state row ≡ true → IsItselfBelow 128 stood → Rowed t (seen_by stood l.units) l.at state (Some (l.at, row))

use Rattle.std.proofs.Common.{ℕ, ◌<◌, ◌≡◌, false, get_or}
use Rattle.cq_words.specs.Grammar.{is_equals}
use Rattle.cq_words.proofs.form.equals_at.Given as goal

-- none stands before
abbrev pub invariant-loop-at : goal.invariant-loop-at
invariant-loop-at l = (k : ℕ) → k < l.at → is_equals (get_or l.bytes k 0) ≡ false

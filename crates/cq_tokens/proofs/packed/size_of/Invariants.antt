use Rattle.std.proofs.Common.{◌≡◌, take}
use Rattle.cq_tokens.specs.Packed.{spelling_bytes}
use Rattle.cq_tokens.proofs.packed.size_of.Given as goal

-- the bytes of the tokens so far
abbrev pub invariant-loop-norm : goal.invariant-loop-norm
invariant-loop-norm l = l.size ≡ spelling_bytes (take l.norm-index l.norms)

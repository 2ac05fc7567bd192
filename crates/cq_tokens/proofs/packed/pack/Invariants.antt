use Rattle.std.proofs.Common.{◌≡◌, length, take}
use Rattle.cq_tokens.specs.Packed.{norms_from, AreEnds, last_end, spelling_bytes}
use Rattle.cq_tokens.proofs.packed.pack.Given as goal

-- the tokens so far
abbrev pub invariant-loop-norm : goal.invariant-loop-norm
invariant-loop-norm l = record {
  tokens : norms_from 0 l.marks.items l.bytes.items ≡ take l.norm-index l.norms;
  ends : AreEnds 0 l.marks.items (length l.bytes.items);
  last : last_end 0 l.marks.items ≡ length l.bytes.items;
  many : length l.marks.items ≡ l.norm-index;
  size : length l.bytes.items ≡ spelling_bytes (take l.norm-index l.norms);
}

use Rattle.std.proofs.Common.{take}
use Rattle.std.specs.Prelude.{Contains}
use Rattle.cq_base.specs.declared.group.Group.{Group}
use Rattle.cq_tokens.specs.Parts.{tokens_in}
use Rattle.cq_scan.specs.Found.{IsOfWord}
use Rattle.cq_scan.proofs.known.is_known.Given as goal

abbrev pub invariant-loop-group : goal.invariant-loop-group
invariant-loop-group g l = (z : Group) → Contains (take l.group-index l.groups) z → IsOfWord (tokens_in l.files) l.p l.tokens z → ⊥

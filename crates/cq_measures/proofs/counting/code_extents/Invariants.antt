use Rattle.std.proofs.Common.{◌≡◌, map, filter, take}
use Rattle.cq_measures.specs.Extents.{extent_of_token, has_bytes}
use Rattle.cq_measures.proofs.counting.code_extents.Given as goal

abbrev pub invariant-loop-token : goal.invariant-loop-token
invariant-loop-token l = l.extents.items ≡ map extent_of_token (filter has_bytes (take l.token-index l.tokens))

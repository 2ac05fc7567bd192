use Rattle.std.proofs.Common.{◌≡◌, map, take}
use Rattle.cq_func.specs.Brackets.{sign_of}
use Rattle.cq_func.proofs.brackets.signs.Given as goal

abbrev pub invariant-loop-token : goal.invariant-loop-token
invariant-loop-token l = l.signs.items ≡ map (sign_of l.lang) (take l.token-index l.tokens)

use Rattle.std.proofs.Common.{arith}
use Rattle.cq_tokask.proofs.taking.length_told.Goals as goal

pub returns-clause-fit : goal.returns-clause-fit
returns-clause-fit c = λ i. omega (arith, c.type_inv.bytes i)

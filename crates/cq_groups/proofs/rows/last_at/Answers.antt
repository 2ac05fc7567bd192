use Rattle.std.proofs.Common.{arith}
use Rattle.cq_groups.proofs.rows.last_at.Goals as goal

pub overflow_mul-result : goal.overflow_mul-result
overflow_mul-result c = omega (arith, c.requires)

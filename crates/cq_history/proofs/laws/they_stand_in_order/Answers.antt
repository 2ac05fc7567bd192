use Rattle.cq_history.proofs.Bounds.{in_order}
use Rattle.cq_history.proofs.laws.they_stand_in_order.Goals as goal

pub returns : goal.returns
returns c = λ settings callers h lawful. let order = in_order settings callers h lawful in (order.floor, order.published)

use Rattle.std.proofs.Common.{refl}
use Rattle.cq_history.proofs.laws.they_are_kept_as_worked_out.Goals as goal

pub returns : goal.returns
returns c = record {
  all = refl;
  first = refl;
  second = refl;
  gate = refl;
  gate_replaced = refl;
  other_gate = refl;
  dropped = refl;
  count = refl;
  bytes_first = refl;
  bytes_second = refl;
  bytes_dropped = refl;
}

use Rattle.std.proofs.Common.{refl}
use Rattle.cq_history.proofs.laws.room_is_as_worked_out.Goals as goal

pub returns : goal.returns
returns c = record {
  full = refl;
  full_when_published = refl;
  full_at_the_first = refl;
  room = refl;
  one_kept = refl;
  long = refl;
  fits = refl;
  none_kept = refl;
  no_bytes = refl;
}

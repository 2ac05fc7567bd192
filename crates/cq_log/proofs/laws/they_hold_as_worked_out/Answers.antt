use Rattle.std.proofs.Common.{refl}
use Rattle.cq_log.proofs.laws.they_hold_as_worked_out.Goals as goal

pub returns : goal.returns
returns c = λ set a b L P change says cut_off accepted. record {
  nothing = refl;
  whole = rw (says, accepted) refl;
  torn = rw cut_off refl;
  torn_after_whole = rw (says, accepted, cut_off) refl;
  mended = rw (cut_off, says, accepted) refl;
  mended_again = rw cut_off (rw cut_off refl);
  not_mended = rw cut_off refl;
  torn_twice = rw cut_off refl;
}

use Rattle.std.proofs.Common.{refl}
use Rattle.cq_shorten.proofs.laws.it_is_needed_as_worked_out.Goals as goal

pub returns : goal.returns
returns c = record { numbers = refl; changes = refl; lines = refl; nothing = refl; dropped = refl }

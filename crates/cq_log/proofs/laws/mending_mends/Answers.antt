use Rattle.std.proofs.Common.{refl}
use Rattle.cq_log.proofs.Mended.{mended}
use Rattle.cq_log.proofs.laws.mending_mends.Goals as goal
use Rattle.cq_log.specs.Mending.{is_unclosed}

pub returns : goal.returns
returns c = λ set bytes front held. mended set bytes front.own front.changes (is_unclosed bytes) front.torn refl held

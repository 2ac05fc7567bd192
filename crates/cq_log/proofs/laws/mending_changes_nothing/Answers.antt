use Rattle.std.proofs.Common.{refl}
use Rattle.cq_log.proofs.Mended.{nothing_changes}
use Rattle.cq_log.proofs.laws.mending_changes_nothing.Goals as goal
use Rattle.cq_log.specs.Mending.{is_unclosed}

pub returns : goal.returns
returns c = λ set bytes some more front held parts. nothing_changes set bytes front.own front.changes some more (is_unclosed bytes) front.torn refl held parts

use Rattle.std.proofs.Common.{refl, ◌++◌}
use Rattle.cq_log.proofs.Mended.{mended, continued}
use Rattle.cq_log.proofs.laws.a_restart_is_the_same.Goals as goal
use Rattle.cq_log.specs.Mending.{is_unclosed, mending}

pub returns : goal.returns
returns c = λ set bytes front lines changes held on.
    continued set lines changes (bytes ++ mending (is_unclosed bytes) front.torn) front.own front.changes (mended set bytes front.own front.changes (is_unclosed bytes) front.torn refl held) on

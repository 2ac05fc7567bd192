use Rattle.cq_shared.proofs.Calling.{extends}
use Rattle.cq_shared.proofs.shared.SharedHub.ask.Goals as goal

pub ask-requires : goal.ask-requires
ask-requires g c = record { of = c.requires.stands.2.is }

pub returns-clause-asks : goal.returns-clause-asks
returns-clause-asks g c = extends _ _ _ _ _ _ c.ask.ensures.asks

use Rattle.cq_shared.proofs.Calling.{extends}
use Rattle.cq_serve_kept.proofs.Refusing.{if_some}
use Rattle.cq_serve_kept.proofs.log.LogKeeperShared.ask.Goals as goal

pub ask-requires : goal.ask-requires
ask-requires g c = record { of = c.requires.stands.2.is }

pub returns-clause-asks : goal.returns-clause-asks
returns-clause-asks g c = if_some c.ask.result _ _ (λ asked call. extends _ _ _ _ _ _ call) c.ask.ensures.told

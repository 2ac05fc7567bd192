use Rattle.std.proofs.lemmas.Result.{IfOk-weaker, IfErr-weaker}
use Rattle.cq_shared.proofs.Calling.{extends}
use Rattle.cq_serve_kept.proofs.Refusing.{refused_kept}
use Rattle.cq_serve_kept.proofs.log.LogKeeperShared.accept.Goals as goal

pub accept-requires-clause-of : goal.accept-requires-clause-of
accept-requires-clause-of g c = c.requires.stands.2.is

pub returns-clause-accepted : goal.returns-clause-accepted
returns-clause-accepted g c = IfOk-weaker c.accept.result _ _ (λ number call. extends _ _ _ _ _ _ call) c.accept.ensures.accepted

pub returns-clause-refused : goal.returns-clause-refused
returns-clause-refused g c =
    IfErr-weaker c.accept.result _ _ (refused_kept _ _ _ _ _ (λ cause call. extends _ _ _ _ _ _ call) (λ call. extends _ _ _ _ _ _ call)) c.accept.ensures.refused

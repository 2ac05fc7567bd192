use Rattle.std.proofs.Common.{sym, true≢false}
use Rattle.cq_lines.proofs.Serving.{serves_as}
use Rattle.cq_reply.specs.Written.{line_of}
use Rattle.cq_talk.proofs.Leading.{lead_weaker}
use Rattle.cq_session.proofs.serving.session.Goals as goal

pub returns-clause-served : goal.returns-clause-served
returns-clause-served g c = λ by h stands closed always. lead_weaker _ _ by _ _ _ _ (c.in-Ok.ensures.served by h stands closed always) (λ after served. serves_as line_of _ _ (λ lines replies is. is.talk) _ _ _ _ _ _ served)

pub unreachable-requires : goal.unreachable-requires
unreachable-requires g c = rw c.in-Err-Unkept.field-0-is at c.in-Err-Unkept.ensures.may

pub unreachable-requires-in-Err-Stranger : goal.unreachable-requires-in-Err-Stranger
unreachable-requires-in-Err-Stranger g c = true≢false (sym (rw c.in-Err-Stranger.field-0-is at c.in-Err-Stranger.ensures.may))

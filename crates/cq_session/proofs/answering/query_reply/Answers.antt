use Rattle.cq_session.proofs.answering.query_reply.Goals as goal

pub returns-in-Ok-Some-clause-replies : goal.returns-in-Ok-Some-clause-replies
returns-in-Ok-Some-clause-replies g c = rw c.in-Ok-Some.field-0-is at c.in-Ok-Some.ensures.replies

pub unreachable-requires : goal.unreachable-requires
unreachable-requires g c = (rw c.in-Ok-None.field-0-is at c.in-Ok-None.ensures.broken).0

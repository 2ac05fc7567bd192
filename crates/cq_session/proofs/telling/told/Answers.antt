use Rattle.std.proofs.Common.{refl, inl, inr}
use Rattle.cq_reply.specs.declared.reply.Reply.TheVariants as reply
use Rattle.cq_talk.proofs.Leading.{lead_weaker}
use Rattle.cq_request.specs.Reading.{line_says}
use Rattle.cq_talk.specs.Said.{Read}
use Rattle.cq_session.proofs.LineCosts.{spends_untold}
use Rattle.cq_session.proofs.Talking.{answer_given_up}
use Rattle.cq_session.proofs.telling.told.Goals as goal

pub returns-in-Ok-clause-line : goal.returns-in-Ok-clause-line
returns-in-Ok-clause-line g c = λ by h stands closed named. lead_weaker _ _ by _ _ _ _ ((rw c.in-Ok-Some.field-0-is at c.in-Ok-Some.ensures.replies) by h stands closed named)
    (λ later is. record { reply = c.in-Ok-Some.reply; answers = inr is.0; spends = is.1; bytes_are = c.in-Ok.ensures.line; named_is = c.named.ensures; known_is = c.is_known.ensures })

pub returns-in-Ok-Some-clause-line : goal.returns-in-Ok-Some-clause-line
returns-in-Ok-Some-clause-line g c = λ by h stands closed named. lead_weaker _ _ by _ _ _ _ ((rw c.in-Ok-Some.field-0-is at c.in-Ok-Some.ensures.replies) by h stands closed named)
    (λ later is. record {
      reply = reply.Memory;
      answers = inl (refl, answer_given_up (g.H.Hub.settings c.args.server.now.hub.now) (g.H.Hub.callers c.args.server.now.hub.now) g.H.Hub.alone by (g.P.Keeper.acceptor c.args.server.now.keeper.now by) c.args.seen h later (Read (line_says c.args.server.now.keyer.now.settings.chunk c.args.line.now)) c.in-Ok-Some.reply c.in-Err-line_of.ensures.memory is.0);
      spends = spends_untold (g.H.Hub.settings c.args.server.now.hub.now) by h later _ _ _ _ (Read (line_says c.args.server.now.keyer.now.settings.chunk c.args.line.now)) c.in-Ok-Some.reply is.1;
      bytes_are = c.told_memory.ensures.bytes;
      named_is = c.told_memory.ensures.number;
      known_is = c.told_memory.ensures.known;
    })

pub returns-clause-line : goal.returns-clause-line
returns-clause-line g c = λ by h stands closed named. lead_weaker _ _ by _ _ _ _ (c.in-Err.ensures.refused by h stands closed named)
    (λ later is. record { reply = reply.Memory; answers = inl (refl, is.0); spends = is.1; bytes_are = c.told_memory-in-Err.ensures.bytes; named_is = c.told_memory-in-Err.ensures.number; known_is = c.told_memory-in-Err.ensures.known })

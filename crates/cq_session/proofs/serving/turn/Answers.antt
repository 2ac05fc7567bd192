use Rattle.std.proofs.Common.{◌∙◌, ap, sym, subst, max}
use Rattle.cq_base.specs.declared.settings.Settings.{Settings}
use Rattle.std.specs.Io.KnownBytes.{Appends}
use Rattle.cq_lines.specs.Answering.{SendsFront}
use Rattle.cq_request.specs.Reading.{line_says}
use Rattle.cq_session.specs.Clients.{IsObject}
use Rattle.cq_talk.specs.Said.{Said, Read}
use Rattle.cq_talk.specs.Talk.{AnswersBy}
use Rattle.cq_talk.proofs.Leading.{lead_weaker}
use Rattle.cq_talk.proofs.Saying.{said_short}
use Rattle.cq_session.proofs.Clients.{known_object}
use Rattle.cq_session.proofs.LineCosts.{spends_as}
use Rattle.cq_session.proofs.Turns.{may_stop, turned_by}
use Rattle.cq_session.specs.Overs.{MayStop}
use Rattle.cq_session.specs.declared.stop.Stop.{Stop}
use Rattle.std.specs.Prelude.{IfSome, Option}
use Rattle.cq_session.proofs.serving.turn.Goals as goal

pub returns-in-Ok-clause-turns : goal.returns-in-Ok-clause-turns
returns-in-Ok-clause-turns g c = λ by h stands closed named.
    let set = c.args.server.now.keyer.now.settings in
    let hub = c.args.server.now.hub.now in
    let keeper = c.args.server.now.keeper.now in
    let acceptor = g.P.Keeper.acceptor keeper in
    let short = said_short set.chunk c.args.line.now c.requires.short in
    lead_weaker _ _ by _ _ _ _ (c.in-Some.ensures.line by h stands closed named)
    (λ later tells.
    let answers = subst (λ (s : Settings). AnswersBy s (g.H.Hub.callers hub) g.H.Hub.alone by (acceptor by) c.args.seen.now h (Read (line_says set.chunk c.args.line.now)) tells.reply later) c.requires.hub_settings tells.answers in
    turned_by g.H.Hub hub _ _ _ _ c.args.seen.now acceptor set c.args.line.now _ _ _ by h later (g.P.Keeper.strict keeper) c.args.first c.in-Some.told.known _ c.stop_of.ensures
    (record {
      reply = tells.reply;
      answers = subst (λ (l : Said). AnswersBy set (g.H.Hub.callers hub) g.H.Hub.alone by (acceptor by) c.args.seen.now h l tells.reply later) (sym short) answers;
      spends = spends_as (g.H.Hub.settings hub) set _ _ tells.reply by h later _ c.requires.hub_settings short tells.spends;
      sends = subst (λ piece. Appends (g.K.Sink.written c.args.sink.now) (g.K.Sink.written c.send.new.sink) piece) (c.as_bytes.ensures ∙ tells.bytes_are) c.in-Ok.ensures.bytes;
      seen_is = c.max.ensures ∙ ap (max c.args.seen.now) tells.named_is;
    })
    tells.known_is (λ known. subst IsObject (sym short) (known_object set (g.H.Hub.callers hub) g.H.Hub.alone by (acceptor by) c.args.seen.now h later (line_says set.chunk c.args.line.now) tells.reply answers known)))

pub returns-clause-turns : goal.returns-clause-turns
returns-clause-turns g c = λ by h stands closed named.
    let set = c.args.server.now.keyer.now.settings in
    let hub = c.args.server.now.hub.now in
    let acceptor = g.P.Keeper.acceptor c.args.server.now.keeper.now in
    let short = said_short set.chunk c.args.line.now c.requires.short in
    lead_weaker _ _ by _ _ _ _ (c.in-Some.ensures.line by h stands closed named)
    (λ later tells. record {
      reply = tells.reply;
      answers = subst (λ (l : Said). AnswersBy set (g.H.Hub.callers hub) g.H.Hub.alone by (acceptor by) c.args.seen.now h l tells.reply later) (sym short)
          (subst (λ (s : Settings). AnswersBy s (g.H.Hub.callers hub) g.H.Hub.alone by (acceptor by) c.args.seen.now h (Read (line_says set.chunk c.args.line.now)) tells.reply later) c.requires.hub_settings tells.answers);
      spends = spends_as (g.H.Hub.settings hub) set _ _ tells.reply by h later _ c.requires.hub_settings short tells.spends;
      sends = subst (λ piece. SendsFront (g.K.Sink.written c.args.sink.now) (g.K.Sink.written c.send.new.sink) piece) (c.as_bytes.ensures ∙ tells.bytes_are) c.in-Err.ensures.bytes;
      seen_is = c.max.ensures ∙ ap (max c.args.seen.now) tells.named_is;
    })

pub returns-in-Ok-clause-may : goal.returns-in-Ok-clause-may
returns-in-Ok-clause-may g c =
    let keeper = c.args.server.now.keeper.now in
    subst (λ (o : Option Stop). IfSome o (MayStop (g.P.Keeper.Breaks keeper) (g.P.Keeper.strict keeper))) (sym c.stop_of.ensures) (may_stop (g.P.Keeper.Breaks keeper) (g.P.Keeper.strict keeper) c.args.first c.in-Some.told.known)

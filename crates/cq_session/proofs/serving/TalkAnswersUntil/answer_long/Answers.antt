use Rattle.std.proofs.Common.{◌∙◌, [], ◌∷◌, ◌++◌, subst, sym, refl, arith}
use Rattle.std.specs.Io.KnownBytes.{Appends}
use Rattle.cq_lines.specs.Answering.{SendsFront}
use Rattle.cq_reply.specs.declared.reply.Reply.TheVariants as reply
use Rattle.cq_session.specs.Clients.{HasMet}
use Rattle.cq_session.specs.Overs.{MayStop}
use Rattle.cq_session.specs.declared.met.Met.{Met}
use Rattle.cq_session.specs.declared.stop.Stop.{Stop}
use Rattle.cq_session.proofs.Clients.{goes_on, greeted_more, met_more, none_before, stops_there}
use Rattle.cq_session.proofs.LineCosts.{spends_long}
use Rattle.cq_session.proofs.Talking.{answers_long}
use Rattle.cq_session.proofs.Turns.{StopsHere, talked_more, turned_away}
use Rattle.cq_session.proofs.serving.TalkAnswersUntil.answer_long.Goals as goal

pub returns-in-None-clause-sent : goal.returns-in-None-clause-sent
returns-in-None-clause-sent g c = λ line long from first lines replies so.
    let was = so.0 in
    let set = c.args.self.now.server.now.keyer.now.settings in
    let callers = g.H.Hub.callers c.args.self.now.server.now.hub.now in
    let keeper = c.args.self.now.server.now.keeper.now in
    let by = g.P.Keeper.acceptor keeper from.0 in
    let seen = c.args.self.now.seen in (
      reply.Long,
      (
        record {
          after = was.after;
          stands = was.stands;
          closed = was.closed;
          talk = talked_more set callers g.H.Hub.alone from.0 by from.1 was.after was.after _ _ _ _ _ _ seen seen lines replies line reply.Long (answers_long set callers g.H.Hub.alone from.0 by seen was.after line long) (omega arith) was.talk (spends_long set from.0 was.after line _ _ long);
          within = was.within;
        },
        λ strictly. greeted_more set.chunk c.args.self.now.met lines line (so.1 strictly) c.requires.ready.4 (λ here. absurd (goes_on (g.P.Keeper.strict keeper) c.meet-first.result (sym c.in-None.is ∙ c.stop_of.ensures) strictly (c.meet-first.ensures.first ∙ here))),
        so.2,
        so.3,
        so.4,
        so.5,
        so.6,
      ),
      subst (λ piece. Appends (g.K.Sink.written c.args.sink.now) (g.K.Sink.written c.send.new.sink) piece) (c.as_bytes.ensures.bytes ∙ c.fixed.ensures) c.in-Ok.ensures.bytes,
    )

pub returns-in-Some-clause-sent : goal.returns-in-Some-clause-sent
returns-in-Some-clause-sent g c = λ line long from first lines replies so.
    let was = so.0 in
    let set = c.args.self.now.server.now.keyer.now.settings in
    let hub = c.args.self.now.server.now.hub.now in
    let callers = g.H.Hub.callers hub in
    let keeper = c.args.self.now.server.now.keeper.now in
    let by = g.P.Keeper.acceptor keeper from.0 in
    let seen = c.args.self.now.seen in
    let there = stops_there (g.P.Keeper.strict keeper) c.meet-first.result c.in-Some.why (sym c.in-Some.is ∙ c.stop_of.ensures) in
    let sent = subst (λ piece. Appends (g.K.Sink.written c.args.sink.now) (g.K.Sink.written c.send.new.sink) piece) (c.as_bytes.ensures.bytes ∙ c.fixed.ensures) c.in-Ok.ensures.bytes in
    let stops = subst (λ (why : Stop). StopsHere set callers g.H.Hub.alone from.0 by from.1 was.after (lines ++ line ∷ []) replies (g.K.Sink.written c.args.sink.now) (g.K.Sink.written c.send.new.sink) why) (sym there.stranger)
    (turned_away set callers g.H.Hub.alone from.0 by from.1 was.after was.after _ seen lines replies line _ _ was.talk reply.Long
    (none_before set.chunk c.args.self.now.met lines (sym c.meet-first.ensures.first ∙ there.here) (so.1 there.strictly)) refl (answers_long set callers g.H.Hub.alone from.0 by seen was.after line long) sent) in (
      stops.more,
      (
        record { after = was.after; stands = was.stands; closed = was.closed; stopped = stops.stopped },
        so.2,
        so.3,
        so.4,
        so.5,
        so.6,
        subst (λ (why : Stop). MayStop (g.P.Keeper.Breaks keeper) (g.P.Keeper.strict keeper) why) (sym there.stranger) there.strictly,
      ),
      stops.sent,
    )

pub returns-in-Err-clause-sent : goal.returns-in-Err-clause-sent
returns-in-Err-clause-sent g c = λ line long from first lines replies so.
    let was = so.0 in
    let set = c.args.self.now.server.now.keyer.now.settings in
    let callers = g.H.Hub.callers c.args.self.now.server.now.hub.now in
    let by = g.P.Keeper.acceptor c.args.self.now.server.now.keeper.now from.0 in
    let seen = c.args.self.now.seen in (
      reply.Long,
      (
        record {
          after = was.after;
          stands = was.stands;
          closed = was.closed;
          talk = talked_more set callers g.H.Hub.alone from.0 by from.1 was.after was.after _ _ _ _ _ _ seen seen lines replies line reply.Long (answers_long set callers g.H.Hub.alone from.0 by seen was.after line long) (omega arith) was.talk (spends_long set from.0 was.after line _ _ long);
          within = was.within;
        },
        λ strictly. subst (λ (m : Met). HasMet set.chunk m (lines ++ line ∷ [])) (sym c.meet-first.ensures.now) (met_more set.chunk c.args.self.now.met lines line (so.1 strictly) c.requires.ready.4),
        so.2,
        so.3,
        so.4,
        so.5,
        so.6,
      ),
      subst (λ piece. SendsFront (g.K.Sink.written c.args.sink.now) (g.K.Sink.written c.send.new.sink) piece) (c.as_bytes.ensures.bytes ∙ c.fixed.ensures) c.in-Err.ensures.bytes,
    )

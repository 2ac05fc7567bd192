use Rattle.std.proofs.Common.{◌∙◌, [], ◌∷◌, ◌++◌, subst, sym}
use Rattle.cq_base.specs.declared.settings.Settings.{Settings}
use Rattle.cq_history.specs.Lawful.{Lawful}
use Rattle.cq_session.specs.Clients.{HasMet}
use Rattle.cq_session.specs.declared.met.Met.{Met}
use Rattle.cq_session.proofs.Clients.{greeted_more, met_more, none_before}
use Rattle.cq_session.proofs.Turns.{talked_more, still_within, stopped_by}
use Rattle.cq_session.proofs.serving.TalkAnswersUntil.answer.Goals as goal

pub turn-requires-clause-closed : goal.turn-requires-clause-closed
turn-requires-clause-closed g c κs lives = c.requires.ready.5

pub returns-in-Ok-None-clause-sent : goal.returns-in-Ok-None-clause-sent
returns-in-Ok-None-clause-sent g c = λ from first lines replies so.
    let was = so.0 in
    let hub = c.args.self.now.server.now.hub.now in
    let set = c.args.self.now.server.now.keyer.now.settings in
    let callers = g.H.Hub.callers hub in
    let by = g.P.Keeper.acceptor c.args.self.now.server.now.keeper.now from.0 in
    let two = (rw c.in-Ok-None.field-0-is at c.in-Ok-None.ensures.turns) from.0 was.after was.stands was.closed was.within in
    let turns = two.holds.0 in
    let law = subst (λ (s : Settings). Lawful s callers two.after) c.requires.ready.2 (g.met.H.Hub.lawful _ _ from.0 two.after two.stands) in (
      turns.reply,
      (
        record {
          after = two.after;
          stands = two.stands;
          closed = two.closed;
          talk = talked_more set callers g.H.Hub.alone from.0 by from.1 was.after two.after _ _ _ _ _ _ _ _ lines replies c.args.line.now turns.reply turns.answers turns.seen_is was.talk turns.spends;
          within = still_within set callers g.H.Hub.alone from.0 by from.1 was.after two.after 0 0 0 0 0 0 _ _ lines replies c.args.line.now turns.reply turns.answers turns.seen_is law was.within;
        },
        λ strictly. greeted_more set.chunk c.args.self.now.met lines c.args.line.now (so.1 strictly) c.requires.ready.4 (λ here. two.holds.1 strictly (c.meet-first.ensures.first ∙ here)),
        so.2,
        so.3,
        so.4,
        so.5,
        so.6,
      ),
      turns.sends,
    )

pub returns-in-Ok-None-clause-ready : goal.returns-in-Ok-None-clause-ready
returns-in-Ok-None-clause-ready g c =
    let r = c.requires.ready.5 in
    let hub = c.args.self.now.server.now.hub.now in
    let set = c.args.self.now.server.now.keyer.now.settings in
    let callers = g.H.Hub.callers hub in
    let by = g.P.Keeper.acceptor c.args.self.now.server.now.keeper.now r.0 in
    let two = (rw c.in-Ok-None.field-0-is at c.in-Ok-None.ensures.turns) r.0 r.1 r.2 r.3.0 r.3.1 in
    let turns = two.holds.0 in
    let law = subst (λ (s : Settings). Lawful s callers two.after) c.requires.ready.2 (g.met.H.Hub.lawful _ _ r.0 two.after two.stands) in (
      c.requires.ready.0,
      c.requires.ready.1,
      c.requires.ready.2,
      c.requires.ready.3,
      tt,
      (r.0, two.after, two.stands, (two.closed, still_within set callers g.H.Hub.alone r.0 by r.1 r.1 two.after 0 0 0 0 0 0 _ _ [] [] c.args.line.now turns.reply turns.answers turns.seen_is law r.3.1)),
    )

pub returns-in-Ok-Some-clause-sent : goal.returns-in-Ok-Some-clause-sent
returns-in-Ok-Some-clause-sent g c = λ from first lines replies so.
    let was = so.0 in
    let hub = c.args.self.now.server.now.hub.now in
    let set = c.args.self.now.server.now.keyer.now.settings in
    let keeper = c.args.self.now.server.now.keeper.now in
    let two = (rw c.in-Ok-Some.field-0-is at c.in-Ok-Some.ensures.turns) from.0 was.after was.stands was.closed was.within in
    let may = rw c.in-Ok-Some.field-0-is at c.in-Ok-Some.ensures.may in
    let stops = stopped_by g.H.Hub hub _ _ _ _ _ (g.P.Keeper.acceptor keeper) set c.args.line.now _ _ _ from.0 was.after two.after (g.P.Keeper.Breaks keeper) (g.P.Keeper.strict keeper) c.meet-first.result c.in-Ok-Some.why from.1 _ lines replies was.talk may
    (λ strictly here. none_before set.chunk c.args.self.now.met lines (sym c.meet-first.ensures.first ∙ here) (so.1 strictly)) two.holds in
    (stops.more, (record { after = two.after; stands = two.stands; closed = two.closed; stopped = stops.stopped }, so.2, so.3, so.4, so.5, so.6, may), stops.sent)

pub returns-in-Err-clause-sent : goal.returns-in-Err-clause-sent
returns-in-Err-clause-sent g c = λ from first lines replies so.
    let was = so.0 in
    let hub = c.args.self.now.server.now.hub.now in
    let set = c.args.self.now.server.now.keyer.now.settings in
    let callers = g.H.Hub.callers hub in
    let by = g.P.Keeper.acceptor c.args.self.now.server.now.keeper.now from.0 in
    let two = c.in-Err.ensures.turns from.0 was.after was.stands was.closed was.within in
    let turns = two.holds in
    let law = subst (λ (s : Settings). Lawful s callers two.after) c.requires.ready.2 (g.met.H.Hub.lawful _ _ from.0 two.after two.stands) in (
      turns.reply,
      (
        record {
          after = two.after;
          stands = two.stands;
          closed = two.closed;
          talk = talked_more set callers g.H.Hub.alone from.0 by from.1 was.after two.after _ _ _ _ _ _ _ _ lines replies c.args.line.now turns.reply turns.answers turns.seen_is was.talk turns.spends;
          within = still_within set callers g.H.Hub.alone from.0 by from.1 was.after two.after 0 0 0 0 0 0 _ _ lines replies c.args.line.now turns.reply turns.answers turns.seen_is law was.within;
        },
        λ strictly. subst (λ (m : Met). HasMet set.chunk m (lines ++ c.args.line.now ∷ [])) (sym c.meet-first.ensures.now) (met_more set.chunk c.args.self.now.met lines c.args.line.now (so.1 strictly) c.requires.ready.4),
        so.2,
        so.3,
        so.4,
        so.5,
        so.6,
      ),
      turns.sends,
    )

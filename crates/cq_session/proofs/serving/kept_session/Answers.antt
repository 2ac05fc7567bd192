use Rattle.std.proofs.Common.{◌≡◌, rules, [], refl, sym, subst, arith}
use Rattle.cq_lines.proofs.Serving.{until_stops}
use Rattle.cq_reply.specs.Written.{line_of}
use Rattle.cq_session.specs.Costs.{counted}
use Rattle.cq_session.specs.Overs.{MayStop}
use Rattle.cq_session.specs.Serving.{HasTalked}
use Rattle.cq_session.proofs.Turns.{served_until, talked_none}
use Rattle.cq_session.proofs.serving.kept_session.Goals as goal

pub serve_lines_until-requires-clause-ready : goal.serve_lines_until-requires-clause-ready
serve_lines_until-requires-clause-ready g c = let r = c.requires.closed in (search rules, c.requires.in_range, c.requires.hub_settings, c.requires.keeps, tt, (r.0, r.1, r.2, (r.3.0, omega arith)))

pub returns-clause-served : goal.returns-clause-served
returns-clause-served g c = λ by h stands closed always.
    let set = c.args.server.now.keyer.now.settings in
    let hub = c.args.server.now.hub.now in
    let keeper = c.args.server.now.keeper.now in
    let acceptor = g.P.Keeper.acceptor keeper in
    let now = c.serve_lines_until.new.answers in
    let begins : HasTalked g.H.Hub set hub acceptor (by, h) (counted c.args.steps.now c.args.steps.now (g.H.Hub.asked c.args.pass.now) (g.H.Hub.asked c.args.pass.now)) c.args.pass.now 0 [] [] = record {
      after = h;
      stands = stands;
      closed = closed;
      talk = talked_none set (g.H.Hub.callers hub) g.H.Hub.alone by (acceptor by) h c.args.steps.now (g.H.Hub.asked c.args.pass.now);
      within = omega arith;
    } in
    served_until {D = now.pass.ghost_name ≡ _} {E = now.steps.ghost_name ≡ _} g.H.Hub g.S.Source g.K.Sink g.P.Keeper.acceptor g.P.Keeper.strict g.P.Keeper.Breaks set now.server.now.keyer.now.settings hub now.server.now.hub.now keeper now.server.now.keeper.now c.args.pass.now now.pass.now _ c.args.steps.now now.steps.now _ now.met now.seen
    (λ name. c.pass-1.given.1 (sym name)) (λ name. c.steps-1.given.1 (sym name)) by h _ _ _ _ _ c.serve_lines_until.result (c.serve_lines_until.ensures.served (by, h) (begins, λ strictly. refl, refl, refl, refl, refl, refl))

pub returns-clause-may : goal.returns-clause-may
returns-clause-may g c =
    let r = c.requires.closed in
    let set = c.args.server.now.keyer.now.settings in
    let hub = c.args.server.now.hub.now in
    let keeper = c.args.server.now.keeper.now in
    let acceptor = g.P.Keeper.acceptor keeper in
    let begins : HasTalked g.H.Hub set hub acceptor (r.0, r.1) (counted c.args.steps.now c.args.steps.now (g.H.Hub.asked c.args.pass.now) (g.H.Hub.asked c.args.pass.now)) c.args.pass.now 0 [] [] = record {
      after = r.1;
      stands = r.2;
      closed = r.3.0;
      talk = talked_none set (g.H.Hub.callers hub) g.H.Hub.alone r.0 (acceptor r.0) r.1 c.args.steps.now (g.H.Hub.asked c.args.pass.now);
      within = omega arith;
    } in
    until_stops g.S.Source g.K.Sink line_of _ _ (MayStop (g.P.Keeper.Breaks keeper) (g.P.Keeper.strict keeper)) (λ lines replies why is. subst (λ (k : g.row.P.Denot). MayStop (g.P.Keeper.Breaks k) (g.P.Keeper.strict k) why) is.3 is.6) _ _ _ _ _ c.serve_lines_until.result
    (c.serve_lines_until.ensures.served (r.0, r.1) (begins, λ strictly. refl, refl, refl, refl, refl, refl))

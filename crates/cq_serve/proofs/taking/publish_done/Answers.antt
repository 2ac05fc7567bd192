use Rattle.std.proofs.Common.{rules, sym, subst, ◌≡◌}
use Rattle.cq_serve.proofs.Turning.{asked_only, asked_then}
use Rattle.cq_serve.proofs.taking.publish_done.Goals as goal

pub ask-asked-requires : goal.ask-asked-requires
ask-asked-requires g c =
    let hub = c.args.server.now.hub.now in
    let still : c.ask.new.pass ≡ c.args.pass.now = search rules in
    let (by, h, stands) = c.requires.stands in
    record { stands = (by, h, subst (λ (p : g.row.H-Pass.Denot). g.H.Hub.Stands hub p by h) (sym still) stands) }

pub returns-in_default-clause-asks : goal.returns-in_default-clause-asks
returns-in_default-clause-asks g c = λ by h stands.
    let hub = c.args.server.now.hub.now in
    let still : c.ask.new.pass ≡ c.args.pass.now = search rules in
    asked_only g.H.Hub hub (g.H.Hub.settings hub) (g.met.H.Hub.lawful hub) by h c.ask-asked.new.pass _ (c.ask-asked.ensures.asks by h (subst (λ (p : g.row.H-Pass.Denot). g.H.Hub.Stands hub p by h) (sym still) stands))

pub returns-in-Ok-clause-asks : goal.returns-in-Ok-clause-asks
returns-in-Ok-clause-asks g c = λ by h stands.
    let hub = c.args.server.now.hub.now in
    let ask = c.in-Some.ensures.asks by h stands in
    asked_then g.H.Hub hub (g.H.Hub.settings hub) (g.met.H.Hub.lawful hub) by h c.ask.new.pass c.advance.new.pass _ _ ask (c.in-Ok.ensures.published by _ ask.stands)

pub returns-in-Err-clause-asks : goal.returns-in-Err-clause-asks
returns-in-Err-clause-asks g c = λ by h stands.
    let hub = c.args.server.now.hub.now in
    let ask = c.in-Some.ensures.asks by h stands in
    asked_then g.H.Hub hub (g.H.Hub.settings hub) (g.met.H.Hub.lawful hub) by h c.ask.new.pass c.advance.new.pass _ _ ask (c.in-Err.ensures.published by _ ask.stands)

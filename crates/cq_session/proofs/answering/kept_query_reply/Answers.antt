use Rattle.std.proofs.Common.{◌∙◌, arith, rules}
use Rattle.cq_session.proofs.QueryLeads.{asked_led, is_future, is_pending, all_ready, worked_shown, worked_given_up, help_given_up, waited_shown, waited_given_up}
use Rattle.cq_session.proofs.Waited.{waited_none}
use Rattle.cq_session.proofs.answering.kept_query_reply.Goals as goal

pub returns-then-query-asked-clause-replies : goal.returns-then-query-asked-clause-replies
returns-then-query-asked-clause-replies g c = λ by h stands closed named.
    is_future _ (g.H.Hub.settings c.args.server.now.hub.now) _ _ _ by c.args.seen c.args.query.now h _ c.in-Some.asked (c.in-Some.ensures.asks by h stands) closed named (let x = c.if-query-asked.true in omega (arith, x)) _ _ _ c.in-Some.ensures.asked

pub help-requires-clause-accepted : goal.help-requires-clause-accepted
help-requires-clause-accepted g c =
    let r = c.requires.closed in
    let led = asked_led _ (g.H.Hub.settings c.args.server.now.hub.now) _ _ _ r.0 c.args.seen c.args.query.now r.1 _ c.in-Some.asked (c.in-Some.ensures.asks r.0 r.1 r.2) r.3.0 r.3.1 in
    (r.0, led.after, led.stands, (led.closed, led.holds))

pub view_reply-requires-clause-ready : goal.view_reply-requires-clause-ready
view_reply-requires-clause-ready g c κs lives =
    let r = c.requires.closed in
    let call = c.in-Some.ensures.asks r.0 r.1 r.2 in
    let led = asked_led _ (g.H.Hub.settings c.args.server.now.hub.now) _ _ _ r.0 c.args.seen c.args.query.now r.1 _ c.in-Some.asked call r.3.0 r.3.1 in
    let helped = c.in-Ok.ensures.done r.0 led.after led.stands led.closed led.holds.0 in
    (r.0, helped.after, helped.stands, (helped.closed, all_ready _ (g.H.Hub.settings c.args.server.now.hub.now) _ _ _ r.0 c.args.seen c.args.query.now r.1 _ c.in-Some.asked call r.3.0 r.3.1 (let x = c.if-query-asked.false in omega (arith, x)) c.if-query.true _ helped))

pub returns-in-Ok-view_reply-clause-replies : goal.returns-in-Ok-view_reply-clause-replies
returns-in-Ok-view_reply-clause-replies g c = λ by h stands closed named.
    let call = c.in-Some.ensures.asks by h stands in
    let led = asked_led _ (g.H.Hub.settings c.args.server.now.hub.now) _ _ _ by c.args.seen c.args.query.now h _ c.in-Some.asked call closed named in
    let helped = c.in-Ok.ensures.done by led.after led.stands led.closed led.holds.0 in
    worked_shown _ _ _ _ _ by c.args.seen c.args.query.now h _ c.in-Some.asked call closed named (let x = c.if-query-asked.false in omega (arith, x)) c.if-query.true _ helped _ c.in-Ok-view_reply.reply _ _ _ _ _ (c.in-Ok.ensures.asked ∙ c.in-Some.ensures.asked) (c.in-Ok-view_reply.ensures.shown by helped.after helped.stands helped.closed tt)

pub returns-in-Err-view_reply-clause-refused : goal.returns-in-Err-view_reply-clause-refused
returns-in-Err-view_reply-clause-refused g c = λ by h stands closed named.
    let call = c.in-Some.ensures.asks by h stands in
    let led = asked_led _ (g.H.Hub.settings c.args.server.now.hub.now) _ _ _ by c.args.seen c.args.query.now h _ c.in-Some.asked call closed named in
    let helped = c.in-Ok.ensures.done by led.after led.stands led.closed led.holds.0 in
    worked_given_up _ _ _ _ _ by c.args.seen c.args.query.now h _ c.in-Some.asked call closed named (let x = c.if-query-asked.false in omega (arith, x)) c.if-query.true _ helped _ _ _ _ _ _ (c.in-Ok.ensures.asked ∙ c.in-Some.ensures.asked) (c.in-Err-view_reply.ensures.refused by helped.after helped.stands helped.closed tt)

pub returns-in-Err-clause-refused : goal.returns-in-Err-clause-refused
returns-in-Err-clause-refused g c = λ by h stands closed named.
    let call = c.in-Some.ensures.asks by h stands in
    let led = asked_led _ (g.H.Hub.settings c.args.server.now.hub.now) _ _ _ by c.args.seen c.args.query.now h _ c.in-Some.asked call closed named in
    help_given_up _ _ _ _ _ by c.args.seen c.args.query.now h _ c.in-Some.asked call closed named (let x = c.if-query-asked.false in omega (arith, x)) c.if-query.true _ (c.in-Err.ensures.refused by led.after led.stands led.closed led.holds.0) _ _ _ (c.in-Err.ensures.asked ∙ c.in-Some.ensures.asked)

pub returns-then-floor-asked-clause-replies : goal.returns-then-floor-asked-clause-replies
returns-then-floor-asked-clause-replies g c = λ by h stands closed named.
    is_pending _ _ _ _ _ by c.args.seen c.args.query.now h _ c.in-Some.asked (c.in-Some.ensures.asks by h stands) closed named (let x = c.if-query-asked.false in omega (arith, x)) c.if-query.false (let x = c.if-floor-asked.true in let y = c.max-floor.ensures in omega (arith, x, y)) _ _ _ c.in-Some.ensures.asked

pub view_reply-requires-2-clause-ready : goal.view_reply-requires-2-clause-ready
view_reply-requires-2-clause-ready g c κs lives =
    let r = c.requires.closed in
    let led = asked_led _ (g.H.Hub.settings c.args.server.now.hub.now) _ _ _ r.0 c.args.seen c.args.query.now r.1 _ c.in-Some.asked (c.in-Some.ensures.asks r.0 r.1 r.2) r.3.0 r.3.1 in
    let few = c.without_works-to.ensures.done in
    let done = led.holds.0 in
    (r.0, led.after, led.stands, (led.closed, omega (arith, few, done)))

pub returns-in-Ok-view_reply-2-clause-replies : goal.returns-in-Ok-view_reply-2-clause-replies
returns-in-Ok-view_reply-2-clause-replies g c = λ by h stands closed named.
    let call = c.in-Some.ensures.asks by h stands in
    let led = asked_led _ (g.H.Hub.settings c.args.server.now.hub.now) _ _ _ by c.args.seen c.args.query.now h _ c.in-Some.asked call closed named in
    waited_shown _ _ _ _ _ by c.args.seen c.args.query.now h _ c.in-Some.asked call closed named (let x = c.if-query-asked.false in omega (arith, x)) c.if-query.false c.without_works-to.result (let x = c.without_works-to.ensures.recent in let y = c.max-floor.ensures in omega (arith, x, y)) c.without_works-to.ensures.done _ c.in-Ok-view_reply-2.reply _ _ _ _ _ c.in-Some.ensures.asked (c.in-Ok-view_reply-2.ensures.shown by led.after led.stands led.closed tt)

pub returns-in-Err-view_reply-2-clause-refused : goal.returns-in-Err-view_reply-2-clause-refused
returns-in-Err-view_reply-2-clause-refused g c = λ by h stands closed named.
    let call = c.in-Some.ensures.asks by h stands in
    let led = asked_led _ (g.H.Hub.settings c.args.server.now.hub.now) _ _ _ by c.args.seen c.args.query.now h _ c.in-Some.asked call closed named in
    waited_given_up _ _ _ _ _ by c.args.seen c.args.query.now h _ c.in-Some.asked call closed named (let x = c.if-query-asked.false in omega (arith, x)) c.if-query.false c.without_works-to.result (let x = c.without_works-to.ensures.recent in let y = c.max-floor.ensures in omega (arith, x, y)) c.without_works-to.ensures.done _ _ _ _ _ _ c.in-Some.ensures.asked (c.in-Err-view_reply-2.ensures.refused by led.after led.stands led.closed tt)

pub returns-in_default-clause-broken : goal.returns-in_default-clause-broken
returns-in_default-clause-broken g c = (search rules, waited_none g.H.Hub c.args.server.now.hub.now c.args.pass.now c.ask.new.pass (search rules))

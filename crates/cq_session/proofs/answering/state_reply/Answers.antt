use Rattle.std.proofs.Common.{refl, rules}
use Rattle.cq_history.specs.declared.event.Event.TheVariants.{Ask}
use Rattle.cq_talk.proofs.Changing.{told_row}
use Rattle.cq_talk.proofs.Leading.{lead_event}
use Rattle.cq_session.proofs.Waited.{waited_none}
use Rattle.cq_session.proofs.answering.state_reply.Goals as goal

pub returns-clause-replies : goal.returns-clause-replies
returns-clause-replies g c = λ by h stands closed always.
    let call = c.in-Some.ensures.asks by h stands in
    lead_event _ _ _ by _ _ _ h (Ask by) _ _ call refl tt closed (λ others says. told_row (g.H.Hub.settings c.args.server.now.hub.now) _ g.H.Hub.alone by h call.mid others c.in-Some.asked says)

pub returns-in_default-clause-broken : goal.returns-in_default-clause-broken
returns-in_default-clause-broken g c = (search rules, waited_none g.H.Hub c.args.server.now.hub.now c.args.pass.now c.ask.new.pass (search rules))

use Rattle.std.proofs.Common.{◌≡◌, rules, subst, sym}
use Rattle.cq_talk.specs.declared.unkept.Unkept.{Unkept}
use Rattle.cq_talk.specs.declared.unkept.Unkept.TheVariants as unkept
use Rattle.cq_session.specs.Keeping.{RefusesKept}
use Rattle.cq_session.specs.Passes.{HasChanged}
use Rattle.cq_talk.proofs.Changing.{accepted_row, refused_row}
use Rattle.cq_talk.proofs.Leading.{lead_accepted, lead_none}
use Rattle.cq_session.proofs.answering.change_reply.Goals as goal

pub returns-in-Ok-clause-replies : goal.returns-in-Ok-clause-replies
returns-in-Ok-clause-replies g c = λ by h stands closed always.
    let call = c.in-Ok.ensures.accepted by h stands in
    lead_accepted _ _ _ by _ _ _ h (g.P.Keeper.acceptor c.args.server.now.keeper.now by) c.args.change _ _ call closed (λ others says. accepted_row _ _ g.H.Hub.alone by h call.mid others (g.P.Keeper.acceptor c.args.server.now.keeper.now by) c.args.change c.in-Ok.number says)

pub returns-in-Memory-clause-refused : goal.returns-in-Memory-clause-refused
returns-in-Memory-clause-refused g c = λ by h stands closed always.
    let call = (rw c.in-Err-Refused.field-0-is at c.in-Err-Refused.ensures.refused) by h stands in
    lead_none _ _ _ by _ _ _ h _ _ call closed (λ others says. others)

pub returns-in_default-clause-replies : goal.returns-in_default-clause-replies
returns-in_default-clause-replies g c =
    let acceptor = g.P.Keeper.acceptor c.args.server.now.keeper.now in
    subst (HasChanged g.H.Hub c.args.server.now.hub.now c.args.pass.now c.accept.new.pass acceptor c.args.change) (sym c.cause_told.ensures.reply) (λ by h stands closed always.
    let call = (rw c.in-Err-Refused.field-0-is at c.in-Err-Refused.ensures.refused) by h stands in
    lead_none _ _ _ by _ _ _ h _ _ call closed (λ others says. refused_row _ _ g.H.Hub.alone by h call.mid others (acceptor by) c.args.change c.in-Err-Refused.cause c.in_default.not-Memory says))

pub returns-in-Err-Broken-clause-broken : goal.returns-in-Err-Broken-clause-broken
returns-in-Err-Broken-clause-broken g c =
    let is : c.in-Err-Broken.field-0 ≡ unkept.Broken = search rules in (
      search rules,
      λ by h stands closed always.
          let call = (subst (λ (u : Unkept). RefusesKept g.H.Hub c.args.server.now.hub.now c.args.pass.now c.accept.new.pass c.args.change u) is c.in-Err-Broken.ensures.refused) by h stands in
          lead_none _ _ _ by _ _ _ h _ _ call closed (λ others says. others),
    )

use Rattle.std.proofs.Common.{[], ◌∷◌, ◌++◌, Result, sym, ◌∙◌, subst}
use Rattle.cq_base.specs.declared.memory.Memory.{Memory}
use Rattle.cq_history.specs.declared.event.Event.TheVariants.{Open, Shut}
use Rattle.cq_talk.proofs.Leading.{stands_mid}
use Rattle.cq_work.specs.Work.{IsWorkOf}
use Rattle.cq_reply.specs.declared.reply.Reply.{Reply}
use Rattle.cq_session.specs.Passes.{CostsOpen}
use Rattle.cq_session.proofs.Answered.{ok_same}
use Rattle.cq_session.proofs.Spending.{costs_same}
use Rattle.cq_session.proofs.OneView.{not_advanced, still_closed, not_viewed, is_open, viewing, was_shown, was_given_up}
use Rattle.cq_session.proofs.viewing.view_reply.Goals as goal

pub returns-in-Err-clause-refused : goal.returns-in-Err-clause-refused
returns-in-Err-clause-refused g c = λ by h stands closed always.
    not_advanced g.H.Hub c.args.server.now.hub.now (IsWorkOf {L = g.row.L.Denot} (g.H.Hub.settings c.args.server.now.hub.now)) (g.met.H.Hub.lawful _) (g.met.H.Hub.caller _) by c.args.to h _ _ (c.in-Err.ensures.published by h stands) closed c.args.query.now _ _ _ c.in-Err.ensures.asked

pub open_view-requires : goal.open_view-requires
open_view-requires g c =
    let r = c.requires.ready in
    let advanced = c.in-Ok.ensures.published r.0 r.1 r.2 in
    record {
      closed = (
        r.0,
        advanced.mid,
        stands_mid _ _ (g.H.Hub.callers c.args.server.now.hub.now) r.0 _ _ _ r.1 _ advanced,
        still_closed g.H.Hub c.args.server.now.hub.now (IsWorkOf {L = g.row.L.Denot} (g.H.Hub.settings c.args.server.now.hub.now)) (g.met.H.Hub.lawful _) (g.met.H.Hub.caller _) r.0 c.args.to r.1 c.in-Ok._published _ advanced r.3.0,
      );
    }

pub returns-in-Err-open_view-clause-refused : goal.returns-in-Err-open_view-clause-refused
returns-in-Err-open_view-clause-refused g c = λ by h stands closed always.
    let advanced = c.in-Ok.ensures.published by h stands in
    let opened = c.in-Err-open_view.ensures.refused by advanced.mid (stands_mid _ _ (g.H.Hub.callers c.args.server.now.hub.now) by _ _ _ h _ advanced) in
    not_viewed g.H.Hub c.args.server.now.hub.now (IsWorkOf {L = g.row.L.Denot} (g.H.Hub.settings c.args.server.now.hub.now)) (g.met.H.Hub.lawful _) (g.met.H.Hub.caller _) by c.args.to h c.in-Ok._published _ advanced _ _ opened closed c.args.query.now _ _ _ (c.in-Err-open_view.ensures.asked ∙ c.in-Ok.ensures.asked)

pub reply_in-reply-requires-clause-viewing : goal.reply_in-reply-requires-clause-viewing
reply_in-reply-requires-clause-viewing g c κs lives =
    let r = c.requires.ready in
    let advanced = c.in-Ok.ensures.published r.0 r.1 r.2 in
    let opened = c.in-Ok-open_view.ensures.opened r.0 advanced.mid (stands_mid _ _ (g.H.Hub.callers c.args.server.now.hub.now) r.0 _ _ _ r.1 _ advanced) in (
      r.0,
      opened.mid ++ Open r.0 c.in-Ok-open_view.view.version ∷ [],
      opened.stands,
      is_open g.H.Hub c.args.server.now.hub.now (IsWorkOf {L = g.row.L.Denot} (g.H.Hub.settings c.args.server.now.hub.now)) (g.met.H.Hub.lawful _) (g.met.H.Hub.caller _) r.0 c.args.to r.1 c.in-Ok._published _ advanced c.in-Ok-open_view.view _ opened,
    )

pub close_behind-requires : goal.close_behind-requires
close_behind-requires g c =
    let r = c.requires.ready in
    let advanced = c.in-Ok.ensures.published r.0 r.1 r.2 in
    let opened = c.in-Ok-open_view.ensures.opened r.0 advanced.mid (stands_mid _ _ (g.H.Hub.callers c.args.server.now.hub.now) r.0 _ _ _ r.1 _ advanced) in
    let there = is_open g.H.Hub c.args.server.now.hub.now (IsWorkOf {L = g.row.L.Denot} (g.H.Hub.settings c.args.server.now.hub.now)) (g.met.H.Hub.lawful _) (g.met.H.Hub.caller _) r.0 c.args.to r.1 c.in-Ok._published _ advanced c.in-Ok-open_view.view _ opened in
    let moved = c.reply_in-reply.ensures.moves r.0 (opened.mid ++ Open r.0 c.in-Ok-open_view.view.version ∷ []) opened.stands there in
    record { viewing = (r.0, moved.after, moved.stands, viewing g.H.Hub c.args.server.now.hub.now (IsWorkOf {L = g.row.L.Denot} (g.H.Hub.settings c.args.server.now.hub.now)) (g.met.H.Hub.lawful _) (g.met.H.Hub.caller _) r.0 c.args.to r.1 c.in-Ok._published _ advanced c.in-Ok-open_view.view _ opened _ moved) }

pub sweep_behind-requires : goal.sweep_behind-requires
sweep_behind-requires g c =
    let r = c.requires.ready in
    let advanced = c.in-Ok.ensures.published r.0 r.1 r.2 in
    let opened = c.in-Ok-open_view.ensures.opened r.0 advanced.mid (stands_mid _ _ (g.H.Hub.callers c.args.server.now.hub.now) r.0 _ _ _ r.1 _ advanced) in
    let there = is_open g.H.Hub c.args.server.now.hub.now (IsWorkOf {L = g.row.L.Denot} (g.H.Hub.settings c.args.server.now.hub.now)) (g.met.H.Hub.lawful _) (g.met.H.Hub.caller _) r.0 c.args.to r.1 c.in-Ok._published _ advanced c.in-Ok-open_view.view _ opened in
    let moved = c.reply_in-reply.ensures.moves r.0 (opened.mid ++ Open r.0 c.in-Ok-open_view.view.version ∷ []) opened.stands there in
    let shut = c.in-Ok-close_behind.ensures.shut r.0 moved.after moved.stands in
    record { stands = (r.0, shut.mid ++ Shut r.0 ∷ [], shut.stands) }

pub returns-in-Ok-close_behind-clause-shown : goal.returns-in-Ok-close_behind-clause-shown
returns-in-Ok-close_behind-clause-shown g c =
    let same = c.in-Ok-close_behind.ensures.same in
    let shows = ok_same _ _ _ same c.reply_in-reply.ensures.reply in
    let costs = subst (λ (r : Result Reply Memory). CostsOpen g.H.Hub c.args.server.now.hub.now (IsWorkOf {L = g.row.L.Denot}) c.in-Ok-open_view.view c.open_view.new.pass c.reply_in-reply.new.pass c.args.steps.now c.reply_in-reply.new.steps c.args.query.now r) (sym same) c.reply_in-reply.ensures.costs in
    λ by h stands closed always.
    let advanced = c.in-Ok.ensures.published by h stands in
    let opened = c.in-Ok-open_view.ensures.opened by advanced.mid (stands_mid _ _ (g.H.Hub.callers c.args.server.now.hub.now) by _ _ _ h _ advanced) in
    let there = is_open g.H.Hub c.args.server.now.hub.now (IsWorkOf {L = g.row.L.Denot} (g.H.Hub.settings c.args.server.now.hub.now)) (g.met.H.Hub.lawful _) (g.met.H.Hub.caller _) by c.args.to h c.in-Ok._published _ advanced c.in-Ok-open_view.view _ opened in
    let moved = c.reply_in-reply.ensures.moves by (opened.mid ++ Open by c.in-Ok-open_view.view.version ∷ []) opened.stands there in
    let shut = c.in-Ok-close_behind.ensures.shut by moved.after moved.stands in
    was_shown g.H.Hub c.args.server.now.hub.now (IsWorkOf {L = g.row.L.Denot} (g.H.Hub.settings c.args.server.now.hub.now)) (g.met.H.Hub.lawful _) (g.met.H.Hub.caller _) by c.args.to h c.in-Ok._published _ advanced c.in-Ok-open_view.view _ opened _ moved _ _ shut _ (c.sweep_behind.ensures.swept by (shut.mid ++ Shut by ∷ []) shut.stands) c.args.query.now c.in-Ok-close_behind.reply _ (shows by (opened.mid ++ Open by c.in-Ok-open_view.view.version ∷ []) opened.stands there)
    (costs_same (g.H.Hub.settings c.args.server.now.hub.now) _ _ _ _ _ _ _ _ (sym (c.in-Ok-open_view.ensures.asked ∙ c.in-Ok.ensures.asked)) (c.sweep_behind.ensures.asked ∙ c.in-Ok-close_behind.ensures.asked) (costs by (opened.mid ++ Open by c.in-Ok-open_view.view.version ∷ []) opened.stands there))

pub returns-in-Ok-close_behind-clause-text : goal.returns-in-Ok-close_behind-clause-text
returns-in-Ok-close_behind-clause-text g c = ok_same _ _ _ c.in-Ok-close_behind.ensures.same c.reply_in-reply.ensures.text

pub returns-in-Err-close_behind-clause-refused : goal.returns-in-Err-close_behind-clause-refused
returns-in-Err-close_behind-clause-refused g c =
    let costs = subst (λ (r : Result Reply Memory). CostsOpen g.H.Hub c.args.server.now.hub.now (IsWorkOf {L = g.row.L.Denot}) c.in-Ok-open_view.view c.open_view.new.pass c.reply_in-reply.new.pass c.args.steps.now c.reply_in-reply.new.steps c.args.query.now r) (sym c.in-Err-close_behind.ensures.same) c.reply_in-reply.ensures.costs in
    λ by h stands closed always.
    let advanced = c.in-Ok.ensures.published by h stands in
    let opened = c.in-Ok-open_view.ensures.opened by advanced.mid (stands_mid _ _ (g.H.Hub.callers c.args.server.now.hub.now) by _ _ _ h _ advanced) in
    let there = is_open g.H.Hub c.args.server.now.hub.now (IsWorkOf {L = g.row.L.Denot} (g.H.Hub.settings c.args.server.now.hub.now)) (g.met.H.Hub.lawful _) (g.met.H.Hub.caller _) by c.args.to h c.in-Ok._published _ advanced c.in-Ok-open_view.view _ opened in
    let moved = c.reply_in-reply.ensures.moves by (opened.mid ++ Open by c.in-Ok-open_view.view.version ∷ []) opened.stands there in
    was_given_up g.H.Hub c.args.server.now.hub.now (IsWorkOf {L = g.row.L.Denot} (g.H.Hub.settings c.args.server.now.hub.now)) (g.met.H.Hub.lawful _) (g.met.H.Hub.caller _) by c.args.to h c.in-Ok._published _ advanced c.in-Ok-open_view.view _ opened _ moved _ _ (c.in-Err-close_behind.ensures.shut by moved.after moved.stands) c.args.query.now _
    (costs_same (g.H.Hub.settings c.args.server.now.hub.now) _ _ _ _ _ _ _ _ (sym (c.in-Ok-open_view.ensures.asked ∙ c.in-Ok.ensures.asked)) c.in-Err-close_behind.ensures.asked (costs by (opened.mid ++ Open by c.in-Ok-open_view.view.version ∷ []) opened.stands there))

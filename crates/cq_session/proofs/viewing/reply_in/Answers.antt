use Rattle.std.proofs.Common.{List, [], ◌∷◌, sym, ap, ◌∙◌, subst, arith}
use Rattle.std.specs.Result.{is_ok}
use Rattle.std.proofs.lemmas.Result.{IfOk-weaker, on_ok_weaker}
use Rattle.cq_answer.specs.Reply.{IsReply}
use Rattle.cq_answer.proofs.Listable.{given_version}
use Rattle.cq_session.specs.Moves.{Moves}
use Rattle.cq_base.specs.declared.settings.Settings.{Settings}
use Rattle.cq_board.specs.Listings.{Listed}
use Rattle.cq_projects.specs.Projects.{files_in, conditions_in}
use Rattle.cq_history.specs.State.{accepted}
use Rattle.cq_work.specs.Work.{IsWorkOf}
use Rattle.cq_work.specs.declared.work.Work.{Work}
use Rattle.cq_session.specs.Costs.{Viewing, counted, Costs}
use Rattle.cq_session.proofs.Spending.{costs_one}
use Rattle.cq_session.proofs.InView.{of_version, have_version}
use Rattle.cq_session.proofs.viewing.reply_in.Goals as goal

pub answer-requires-clause-given : goal.answer-requires-clause-given
answer-requires-clause-given g c κs lives =
    let r = c.requires.viewing in
    given_version c.args.server.now.keyer.now.settings c.args.view.now.version c.args.query.now.project c.project-files.result.now c.conditions-conditions.result.now c.requires.in_range
    (have_version (g.H.Hub.settings c.args.server.now.hub.now) c.args.server.now.keyer.now.settings c.requires.hub_settings (g.H.Hub.callers c.args.server.now.hub.now) r.0 r.1 c.args.view.now c.args.query.now.project c.project-files.result.now c.conditions-conditions.result.now r.3
    (c.project-files.ensures ∙ ap (λ (l : Listed (Work g.row.L.Denot)). files_in l.projects c.args.query.now.project) c.deref.ensures)
    (c.conditions-conditions.ensures ∙ ap (λ (l : Listed (Work g.row.L.Denot)). conditions_in l.projects c.args.query.now.project) c.deref-2.ensures)
    (g.met.H.Hub.lawful _ _ r.0 r.1 r.2) (g.met.H.Hub.sound _ _ r.0 r.1 r.2))

pub answer-requires-clause-ready : goal.answer-requires-clause-ready
answer-requires-clause-ready g c κs lives =
    let r = c.requires.viewing in
    record {
      caller = r.0;
      seen = r.1;
      stands = r.2;
      opened = r.3;
      project = c.args.query.now.project;
      files_are = c.project-files.ensures ∙ ap (λ (l : Listed (Work g.row.L.Denot)). files_in l.projects c.args.query.now.project) c.deref.ensures;
    }

pub returns-clause-reply : goal.returns-clause-reply
returns-clause-reply g c = IfOk-weaker c.answer.result _ _ (λ reply shows by h stands opened.
    subst (λ (set : Settings). IsReply set (accepted h) c.args.view.now.version c.args.query.now reply) (sym c.requires.hub_settings)
    (shows (accepted h) (of_version (g.H.Hub.settings c.args.server.now.hub.now) c.args.server.now.keyer.now.settings c.requires.hub_settings (g.H.Hub.callers c.args.server.now.hub.now) by h c.args.view.now c.args.query.now.project c.project-files.result.now c.conditions-conditions.result.now opened
    (c.project-files.ensures ∙ ap (λ (l : Listed (Work g.row.L.Denot)). files_in l.projects c.args.query.now.project) c.deref.ensures)
    (c.conditions-conditions.ensures ∙ ap (λ (l : Listed (Work g.row.L.Denot)). conditions_in l.projects c.args.query.now.project) c.deref-2.ensures)))) c.answer.ensures.reply

pub returns-clause-moves : goal.returns-clause-moves
returns-clause-moves g c =
    let same = c.pass-1.given.1 (sym c.answer.ensures.moved.same_pass) in
    subst (λ (p : g.row.H-Pass.Denot). Moves g.H.Hub.Stands (g.H.Hub.callers c.args.server.now.hub.now) g.H.Hub.alone (IsWorkOf (g.H.Hub.settings c.args.server.now.hub.now)) c.args.server.now.hub.now c.args.view.now c.args.pass.now p) (sym same) c.answer.ensures.moved.moves

pub returns-clause-costs : goal.returns-clause-costs
returns-clause-costs g c = λ by h stands opened.
    let set = c.args.server.now.keyer.now.settings in
    let are = of_version (g.H.Hub.settings c.args.server.now.hub.now) set c.requires.hub_settings (g.H.Hub.callers c.args.server.now.hub.now) by h c.args.view.now c.args.query.now.project c.project-files.result.now c.conditions-conditions.result.now opened
    (c.project-files.ensures ∙ ap (λ (l : Listed (Work g.row.L.Denot)). files_in l.projects c.args.query.now.project) c.deref.ensures)
    (c.conditions-conditions.ensures ∙ ap (λ (l : Listed (Work g.row.L.Denot)). conditions_in l.projects c.args.query.now.project) c.deref-2.ensures) in
    let same = c.pass-1.given.1 (sym c.answer.ensures.moved.same_pass) in
    let n = λ (p : g.row.H-Pass.Denot). counted c.args.steps.now c.answer.new.steps (g.H.Hub.asked c.args.pass.now) (g.H.Hub.asked p) in
    let vs : List Viewing = record { query = c.args.query.now; version = c.args.view.now.version; answered = is_ok c.answer.result } ∷ [] in
    subst (λ (p : g.row.H-Pass.Denot). Costs (g.H.Hub.settings c.args.server.now.hub.now) (accepted h) vs (n p)) (sym same)
    (subst (λ (s : Settings). Costs s (accepted h) vs (n c.answer.new.buckets.pass.now)) (sym c.requires.hub_settings)
    (costs_one set (accepted h) c.args.query.now c.args.view.now.version _ _ _ _ c.answer.result
    (λ most is. c.answer.ensures.reads most (record { changes = accepted h; files_are = are.files_are; most = is }))
    (λ ks is. on_ok_weaker c.answer.result (λ asks. asks ks (record { changes = accepted h; files_are = are.files_are; asked = is })) c.answer.ensures.asked)
    (λ ks is. c.answer.ensures.asked_most ks (record { changes = accepted h; files_are = are.files_are; asked = is }))
    (let fewer = c.answer.ensures.moved.no_fewer in omega (arith, fewer))))

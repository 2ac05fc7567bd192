use Rattle.std.proofs.Common.{ℕ, ◌≤◌, List, [], ◌∷◌, length, ◌∙◌, refl, sym, subst, subst₂, arith}
use Rattle.std.specs.Arc.{arc_value}
use Rattle.std.specs.Str.{IsUtf8}
use Rattle.cq_base.specs.declared.settings.Settings.{Settings}
use Rattle.cq_history.specs.declared.event.Event.TheVariants.{Done}
use Rattle.cq_history.specs.State.{state}
use Rattle.cq_hub.proofs.Following.{done_then}
use Rattle.cq_hub.proofs.Growing.{grows_event, grows_then, view_grows}
use Rattle.cq_talk.proofs.Leading.{lead_none, lead_event, stands_mid}
use Rattle.cq_work.specs.Work.{IsWorkOf}
use Rattle.cq_board.proofs.Jobs.{job_work}
use Rattle.cq_session.proofs.helping.help_one.Goals as goal

pub returns-in-Err-clause-refused : goal.returns-in-Err-clause-refused
returns-in-Err-clause-refused g c =
    λ by h stands closed always. lead_none _ _ _ by _ _ _ h _ _ (c.in-Err.ensures.job by h stands) closed (λ others says. record { finished = []; up_to = tt; grows = others; so = tt })

pub returns-in-Ok-None-clause-done : goal.returns-in-Ok-None-clause-done
returns-in-Ok-None-clause-done g c =
    λ by h stands closed always. lead_none _ _ _ by _ _ _ h _ _ ((rw c.in-Ok-None.field-0-is at c.in-Ok-None.ensures.job) by h stands) closed (λ others says. record { finished = []; up_to = tt; grows = others; so = says })

pub work_for-requires-clause-utf8 : goal.work_for-requires-clause-utf8
work_for-requires-clause-utf8 g c =
    let r = c.requires.accepted in
    let call = (rw c.in-Ok-Some.field-0-is at c.in-Ok-Some.ensures.job) r.0 r.1 r.2 in
    subst IsUtf8 (sym c.deref.ensures) call.says.3.0

pub work_for-requires-clause-short : goal.work_for-requires-clause-short
work_for-requires-clause-short g c =
    let r = c.requires.accepted in
    let call = (rw c.in-Ok-Some.field-0-is at c.in-Ok-Some.ensures.job) r.0 r.1 r.2 in
    subst (λ (text : List ℕ). length text ≤ 1048576) (sym c.deref.ensures) call.says.3.1

pub returns-in-Err-work_for-clause-refused : goal.returns-in-Err-work_for-clause-refused
returns-in-Err-work_for-clause-refused g c =
    λ by h stands closed always. lead_none _ _ _ by _ _ _ h _ _ ((rw c.in-Ok-Some.field-0-is at c.in-Ok-Some.ensures.job) by h stands) closed (λ others says. record { finished = []; up_to = tt; grows = others; so = tt })

pub finish-requires : goal.finish-requires
finish-requires g c =
    let r = c.requires.accepted in
    let first = (rw c.in-Ok-Some.field-0-is at c.in-Ok-Some.ensures.job) r.0 r.1 r.2 in
    record {
      work = (
        r.0,
        first.mid,
        stands_mid _ _ (g.H.Hub.callers c.args.server.now.hub.now) r.0 _ _ _ r.1 _ first,
        (
          first.says.0.0,
          job_work (IsWorkOf (g.H.Hub.settings c.args.server.now.hub.now)) (state (g.H.Hub.callers c.args.server.now.hub.now) first.mid) c.args.change c.in-Ok-Some.job (arc_value c.in-Ok.work) first.says.1 first.says.2
              (subst₂ (λ (set : Settings) (text : List ℕ). IsWorkOf set c.in-Ok-Some.job.lang text (arc_value c.in-Ok.work)) (sym c.requires.hub_settings) c.deref.ensures c.in-Ok.ensures),
        ),
      );
    }

pub returns-in-Done-clause-done : goal.returns-in-Done-clause-done
returns-in-Done-clause-done g c = λ by h stands closed always.
    let first = (rw c.in-Ok-Some.field-0-is at c.in-Ok-Some.ensures.job) by h stands in
    let then = c.finish.ensures.done c.in-Done.is by first.mid (stands_mid _ _ (g.H.Hub.callers c.args.server.now.hub.now) by _ _ _ h _ first) in
    lead_event _ _ _ by _ _ _ first.mid (Done by c.args.change) _ _ then refl tt (view_grows _ _ _ by h first.mid [] first.others tt ∙ closed)
    (λ others says. record {
      finished = c.args.change ∷ [];
      up_to = (let n = c.args.change in omega arith, tt);
      grows = grows_then _ by _ h first.mid _ [] _ first.others (grows_event _ by _ first.mid then.mid (Done by c.args.change) refl others);
      so = done_then _ by then.mid c.args.change says;
    })

pub returns-clause-done : goal.returns-clause-done
returns-clause-done g c = λ by h stands closed always.
    let first = (rw c.in-Ok-Some.field-0-is at c.in-Ok-Some.ensures.job) by h stands in
    let then = c.finish.ensures.already c.in-Already.is by first.mid (stands_mid _ _ (g.H.Hub.callers c.args.server.now.hub.now) by _ _ _ h _ first) in
    lead_none _ _ _ by _ _ _ first.mid _ _ then (view_grows _ _ _ by h first.mid [] first.others tt ∙ closed)
    (λ others says. record { finished = []; up_to = tt; grows = grows_then _ by _ h first.mid _ [] [] first.others others; so = says })

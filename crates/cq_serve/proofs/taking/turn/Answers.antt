use Rattle.std.proofs.Common.{ℕ, List, [], ◌∷◌, ◌++◌, refl, sym, subst₂}
use Rattle.std.specs.Arc.{arc_value}
use Rattle.cq_base.specs.declared.settings.Settings.{Settings}
use Rattle.cq_history.specs.declared.event.Event.TheVariants.{Took, Done}
use Rattle.cq_work.specs.Work.{IsWorkOf}
use Rattle.cq_serve.proofs.Turning.{no_events, worked, late, gave_back, taken_accepted, taken_work}
use Rattle.cq_serve.proofs.taking.turn.Goals as goal

pub returns-in-Err-clause-turned : goal.returns-in-Err-clause-turned
returns-in-Err-clause-turned g c = λ by h stands.
    no_events g.H.Hub c.args.server.now.hub.now (g.H.Hub.settings c.args.server.now.hub.now) (g.met.H.Hub.lawful c.args.server.now.hub.now) by h c.take.new.pass _ _ (c.in-Err.ensures.refused by h stands) (λ others says. others)

pub returns-in-Ok-None-clause-turned : goal.returns-in-Ok-None-clause-turned
returns-in-Ok-None-clause-turned g c = λ by h stands.
    no_events g.H.Hub c.args.server.now.hub.now (g.H.Hub.settings c.args.server.now.hub.now) (g.met.H.Hub.lawful c.args.server.now.hub.now) by h c.take.new.pass _ _ ((rw c.in-Ok-None.field-0-is at c.in-Ok-None.ensures.taken) by h stands) (λ others says. (others, says))

pub returns-in-Err-work_for-clause-turned : goal.returns-in-Err-work_for-clause-turned
returns-in-Err-work_for-clause-turned g c = λ by h stands.
    let hub = c.args.server.now.hub.now in
    let set = g.H.Hub.settings hub in
    let law = g.met.H.Hub.lawful hub in
    let a = c.take.new.pass in
    let r = c.in-Ok-Some.job.change in
    let took = (rw c.in-Ok-Some.field-0-is at c.in-Ok-Some.ensures.taken) by h stands in
    gave_back g.H.Hub hub set law by h a r _ took c.back-given.new.pass c.publish_done.new.pass c.back-given.result (taken_accepted g.H.Hub hub set law by h a r _ took took.says.1)
    c.back-given.ensures.back c.back-given.ensures.not_taken (c.publish_done.ensures.asks by)

pub finish-requires : goal.finish-requires
finish-requires g c =
    let hub = c.args.server.now.hub.now in
    let set = g.H.Hub.settings hub in
    let law = g.met.H.Hub.lawful hub in
    let a = c.take.new.pass in
    let job = c.in-Ok-Some.job in
    let by = c.requires.stands.0 in
    let h = c.requires.stands.1 in
    let took = (rw c.in-Ok-Some.field-0-is at c.in-Ok-Some.ensures.taken) by h c.requires.stands.2 in
    let made = subst₂ (λ (s : Settings) (text : List ℕ). IsWorkOf s job.lang text (arc_value c.in-Ok.work)) (sym c.requires.hub_settings) c.deref.ensures c.in-Ok.ensures in
    record {
      work = (
        by,
        took.mid ++ Took by job.change ∷ [],
        took.stands,
        (
          taken_accepted g.H.Hub hub set law by h a job.change _ took took.says.1,
          taken_work g.H.Hub hub set law by h a job.change _ took took.says.1 (IsWorkOf set) job (arc_value c.in-Ok.work) refl took.says.2 made,
        ),
      );
    }

pub returns-in-Done-clause-turned : goal.returns-in-Done-clause-turned
returns-in-Done-clause-turned g c = λ by h stands.
    let hub = c.args.server.now.hub.now in
    let r = c.in-Ok-Some.job.change in
    let took = (rw c.in-Ok-Some.field-0-is at c.in-Ok-Some.ensures.taken) by h stands in
    let done = c.finish.ensures.done c.in-Done.is by (took.mid ++ Took by r ∷ []) took.stands in
    worked g.H.Hub hub (g.H.Hub.settings hub) (g.met.H.Hub.lawful hub) by h c.take.new.pass r _ took c.finish.new.pass c.publish_done-in-Done.new.pass done
    (c.publish_done-in-Done.ensures.asks by (done.mid ++ Done by r ∷ []) done.stands)

pub returns-clause-turned : goal.returns-clause-turned
returns-clause-turned g c = λ by h stands.
    let hub = c.args.server.now.hub.now in
    let r = c.in-Ok-Some.job.change in
    let took = (rw c.in-Ok-Some.field-0-is at c.in-Ok-Some.ensures.taken) by h stands in
    let call = c.finish.ensures.already c.in-Already.is by (took.mid ++ Took by r ∷ []) took.stands in
    late g.H.Hub hub (g.H.Hub.settings hub) (g.met.H.Hub.lawful hub) by h c.take.new.pass r _ took c.finish.new.pass c.publish_done-in-Already.new.pass _ call
    (c.publish_done-in-Already.ensures.asks by (call.mid ++ []) call.stands) _ call.says (λ passed. passed)

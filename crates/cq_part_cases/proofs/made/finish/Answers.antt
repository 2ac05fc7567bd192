use Rattle.std.proofs.Common.{[], ◌∷◌, ◌++◌, refl, ◌∙◌, subst, append-nil}
use Rattle.std.specs.Arc.{arc_value}
use Rattle.cq_history.specs.declared.event.Event.TheVariants as event
use Rattle.cq_history.specs.State.{state, slot_of}
use Rattle.cq_hub.specs.Hubs.{Never}
use Rattle.cq_hub.proofs.Following.{view_then, work_of_put}
use Rattle.cq_hub.proofs.Staying.{closed_stays}
use Rattle.cq_part_cases.proofs.made.finish.Goals as goal

pub finish-requires : goal.finish-requires
finish-requires g c =
    let r = c.requires.seen in
    let set = g.H.Hub.settings c.args.hub.now in
    let made = work_of_put (g.W.Indexed.IsWorkOf set) (slot_of (state (g.H.Hub.callers c.args.hub.now) r.1) c.args.number).change (arc_value c.args.work) r.3.1 (c.requires.made set) in
    record { work = (r.0, r.1, r.2, (r.3.0, made)) }

pub returns-in-Done : goal.returns-in-Done
returns-in-Done g c =
    let r = c.requires.seen in
    let callers = g.H.Hub.callers c.args.hub.now in
    let call = c.finish.ensures.done c.in-Done.is r.0 r.1 r.2 in
    (r.0, call.mid ++ event.Done r.0 c.args.number ∷ [], call.stands, view_then callers g.H.Hub.alone Never r.0 r.1 call.mid (event.Done r.0 c.args.number) call.others refl tt ∙ r.3.2)

pub returns-in-Already : goal.returns-in-Already
returns-in-Already g c =
    let r = c.requires.seen in
    let call = c.finish.ensures.already c.in-Already.is r.0 r.1 r.2 in
    (r.0, call.mid, subst (g.H.Hub.Stands c.args.hub.now c.finish.new.pass r.0) (append-nil call.mid) call.stands, closed_stays (g.H.Hub.callers c.args.hub.now) g.H.Hub.alone Never r.0 r.1 call.mid call.others r.3.2)

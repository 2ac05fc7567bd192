use Rattle.std.proofs.Common.{◌≡◌, [], ◌∷◌, ◌++◌, refl, sym, ap, ◌∙◌, subst}
use Rattle.cq_history.specs.declared.event.Event.TheVariants as event
use Rattle.cq_history.specs.Changes.{is_put}
use Rattle.cq_history.specs.State.{state, slot_of, IsAccepted}
use Rattle.cq_hub.specs.Hubs.{Never}
use Rattle.cq_hub.proofs.Following.{accepted_then, view_then}
use Rattle.cq_part_cases.proofs.made.accept.Goals as goal

pub returns-in-Ok : goal.returns-in-Ok
returns-in-Ok g c =
    let r = c.requires in
    let callers = g.H.Hub.callers c.args.hub.now in
    let call = c.in-Ok.ensures.accepted r.0 r.1 r.2 in
    let h = call.mid ++ event.Accept r.0 c.in_ok-change.change ∷ [] in
    let last = subst (λ n. IsAccepted (state callers h) n × ((slot_of (state callers h) n).change ≡ c.in_ok-change.change)) (sym call.says.1) (accepted_then callers r.0 call.mid c.in_ok-change.change) in
    (r.0, h, call.stands, (last.0, ap is_put last.1 ∙ c.in_ok-change.ensures.put, view_then callers g.H.Hub.alone Never r.0 r.1 call.mid (event.Accept r.0 c.in_ok-change.change) call.others refl tt ∙ r.3))

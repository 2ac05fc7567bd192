use Rattle.std.proofs.Common.{[], ◌∷◌, ◌++◌}
use Rattle.cq_history.specs.declared.event.Event.TheVariants as event
use Rattle.cq_part_cases.proofs.turning.two_turns.Goals as goal

pub turn-first-requires-clause-stands : goal.turn-first-requires-clause-stands
turn-first-requires-clause-stands g c =
    let r = c.requires.stands in
    let accepted = c.in_ok-accept.ensures.accepted r.0 r.1 r.2 in
    (r.0, accepted.mid ++ event.Accept r.0 c.args.change ∷ [], accepted.stands)

pub turn-second-requires-clause-stands : goal.turn-second-requires-clause-stands
turn-second-requires-clause-stands g c =
    let r = c.requires.stands in
    let accepted = c.in_ok-accept.ensures.accepted r.0 r.1 r.2 in
    let first = c.turn-first.ensures.turned r.0 (accepted.mid ++ event.Accept r.0 c.args.change ∷ []) accepted.stands in
    (r.0, first.after, first.stands)

pub ask-asked-requires : goal.ask-asked-requires
ask-asked-requires g c =
    let r = c.requires.stands in
    let accepted = c.in_ok-accept.ensures.accepted r.0 r.1 r.2 in
    let first = c.turn-first.ensures.turned r.0 (accepted.mid ++ event.Accept r.0 c.args.change ∷ []) accepted.stands in
    let second = c.turn-second.ensures.turned r.0 first.after first.stands in
    record { stands = (r.0, second.after, second.stands) }

use Rattle.std.specs.Vec.Iter.{into_iter_items}
use Rattle.cq_listen.proofs.Seating.{rest_of}
use Rattle.cq_listen.proofs.sessions.start_sessions.Goals as goal

pub attendants-preserved-else-is_err : goal.attendants-preserved-else-is_err
attendants-preserved-else-is_err g c =
    rest_of (λ one. g.N.Attendant.settings one) c.args.keyer.now.settings (into_iter_items c.attendants.attendant-iterator) (into_iter_items c.next.new.self) c.in-Some.attendant c.in-Some.ensures.steps.0 c.attendants.invariant

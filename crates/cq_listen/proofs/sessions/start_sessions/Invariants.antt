use Rattle.std.proofs.Common.{◌≡◌, All}
use Rattle.std.specs.Vec.Iter.{into_iter_items}
use Rattle.cq_listen.proofs.sessions.start_sessions.Given as goal

abbrev pub invariant-attendants : goal.invariant-attendants
invariant-attendants g l = All (λ one. g.N.Attendant.settings one ≡ l.keyer.settings) (into_iter_items l.attendant-iterator)

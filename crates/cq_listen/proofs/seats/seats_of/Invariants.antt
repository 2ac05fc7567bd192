use Rattle.std.proofs.Common.{◌≡◌, ◌+◌, All, vec_len}
use Rattle.std.specs.Vec.Iter.{into_iter_items, into_iter_len}
use Rattle.cq_listen.specs.Seats.{IsIdle}
use Rattle.cq_listen.proofs.seats.seats_of.Given as goal

abbrev pub invariant-seats : goal.invariant-seats
invariant-seats g l = record {
  idle : All (IsIdle l.floor.hub.now) (into_iter_items l.own-iterator);
  number : vec_len l.seats + into_iter_len l.own-iterator ≡ vec_len l.fn.passes;
  settings : All (λ seat. seat ≡ l.floor.settings.now) l.seats.items;
}

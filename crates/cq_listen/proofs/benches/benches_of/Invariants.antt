use Rattle.std.proofs.Common.{◌≡◌, ◌+◌, All, vec_len}
use Rattle.std.specs.Vec.Iter.{into_iter_items, into_iter_len}
use Rattle.cq_listen.specs.Seats.{IsIdle}
use Rattle.cq_listen.proofs.benches.benches_of.Given as goal

abbrev pub invariant-benches : goal.invariant-benches
invariant-benches g l = record {
  idle : All (IsIdle l.hub) (into_iter_items l.own-iterator);
  number : vec_len l.benches + into_iter_len l.own-iterator ≡ vec_len l.fn.passes;
  settings : All (λ bench. bench ≡ l.settings) l.benches.items;
}

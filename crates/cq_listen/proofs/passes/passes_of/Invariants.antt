use Rattle.std.proofs.Common.{◌≡◌, ◌+◌, All, vec_len}
use Rattle.cq_cells.specs.Passes.{by_of}
use Rattle.cq_listen.specs.Seats.{IsIdle}
use Rattle.cq_listen.proofs.passes.passes_of.Given as goal

abbrev pub invariant-passes : goal.invariant-passes
invariant-passes g l = record {
  idle : IsIdle l.hub l.pass;
  caller : by_of l.pass ≡ by_of l.fn.pass;
  seen : l.pass.seen ≡ l.fn.pass.seen;
  room : l.pass.room + l._pass ≡ l.fn.pass.room;
  number : vec_len l.passes ≡ l._pass;
  each : All (IsIdle l.hub) l.passes.items;
}

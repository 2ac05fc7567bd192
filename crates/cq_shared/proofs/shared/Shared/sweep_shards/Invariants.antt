use Rattle.std.proofs.Common.{◌≡◌}
use Rattle.cq_cells.specs.Passes.{IsSameCaller}
use Rattle.cq_shared.specs.SharedPasses.{IsPassOf}
use Rattle.cq_shared.proofs.shared.Shared.sweep_shards.Given as goal

abbrev pub invariant-shards : goal.invariant-shards
invariant-shards g l = record {
  of : IsPassOf l.self l.pass;
  same : IsSameCaller l.initial.pass l.pass;
  seen : l.pass.seen ≡ l.initial.pass.seen;
}

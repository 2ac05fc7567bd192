use Rattle.std.proofs.Common.{◌≡◌, ◌⊎◌, ℕ, ◌-◌, ◌<◌, ◌≤◌}
use Rattle.cq_cells.specs.Passes.{IsSameCaller, least}
use Rattle.cq_shared.specs.SharedPasses.{IsPassOf}
use Rattle.cq_shared.proofs.shared.Shared.commit_shards.Given as goal

-- the shards that are no longer between the two have applied them
abbrev pub invariant-shards : goal.invariant-shards
invariant-shards g l = record {
  of : IsPassOf l.self l.pass;
  same : IsSameCaller l.initial.pass l.pass;
  seen : l.pass.seen ≡ l.initial.pass.seen;
  within : l.high ≤ l.until;
  more : (s : ℕ) → least l.initial.pass s ≤ least l.pass s;
  applied : (s : ℕ) → l.from ≤ s → s < l.until → ((s < l.low) ⊎ (l.high ≤ s)) → l.to ≤ least l.pass s;
}

abbrev pub decreases-shards : goal.decreases-shards
decreases-shards g l = l.high - l.low

use Rattle.std.proofs.Common.{◌≡◌, ◌≤◌, ◌-◌, length, drop}
use Rattle.std.specs.Option.{option_or}
use Rattle.cq_munch.specs.Characters.{characters}
use Rattle.cq_munch.specs.ListingMarks.{said}
use Rattle.cq_munch.proofs.marking.said.Given as goal

abbrev pub invariant-loop-at : goal.invariant-loop-at
invariant-loop-at l = record {
  inside : l.at ≤ length l.units;
  so_far : said (characters l.units) ≡ option_or (said (drop l.at (characters l.units))) l.last;
}

abbrev pub decreases-loop-at : goal.decreases-loop-at
decreases-loop-at l = length l.units - l.at

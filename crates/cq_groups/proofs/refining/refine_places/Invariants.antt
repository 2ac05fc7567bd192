use Rattle.std.proofs.Common.{◌≡◌, ℕ, ◌+◌, ◌*◌, ◌≤◌, List, map, length}
use Rattle.std.specs.Prelude.{sum_by}
use Rattle.cq_tokens.specs.Parts.{tokens_in}
use Rattle.cq_groups.specs.declared.spots.Spot.{Spot}
use Rattle.cq_groups.specs.Sets.{AreSpots, IsLongest}
use Rattle.cq_groups.proofs.Walk.{Walk}
use Rattle.cq_groups.proofs.Weights.{weight, size_of_files}
use Rattle.cq_groups.proofs.refining.refine_places.Given as goal

-- the spots are those of the places, which the sets are parts of
abbrev pub invariant-loop-set : goal.invariant-loop-set
invariant-loop-set g l =
    ((all : List Spot) × (map (λ s. s.place) all ≡ l.places) × AreSpots (tokens_in l.files) all × Walk (tokens_in l.files) l.min l.places all l.sets.items l.groups.items)
    × ((longest : ℕ) → IsLongest (tokens_in l.files) longest → l.steps + sum_by (weight longest) l.sets.items ≤ l.fn.steps + length l.places * (longest + 2))

abbrev pub decreases-loop-set : goal.decreases-loop-set
decreases-loop-set g l = sum_by (weight (size_of_files (tokens_in l.files))) l.sets.items

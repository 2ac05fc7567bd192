use Rattle.std.proofs.Common.{◌≤◌, take, length}
use Rattle.cq_tokens.specs.Parts.{changes_in}
use Rattle.cq_groups.proofs.KeyPlaces.{ArePlacesOf}
use Rattle.cq_groups.proofs.entries.places_of_bucket.Given as goal

abbrev pub invariant-loop-entry : goal.invariant-loop-entry
invariant-loop-entry g l =
    ArePlacesOf (changes_in l.index.corpus) (take l.entry-index l.bucket) l.places.items × (length l.places.items ≤ l.entry-index)

use Rattle.std.proofs.Common.{List, length, map}
use Rattle.json.specs.Json.{Json, value}
use Rattle.json.specs.Json as json
use Rattle.serde_json.specs.View.{view}
use Rattle.cq_request.specs.Valued.{fit_items, valued, IsFitUnlessPassed}
use Rattle.cq_request.proofs.Conditional.{IsListSeen}
use Rattle.cq_request.proofs.Walking.{items_before, IsListWalk}
use Rattle.cq_request.proofs.listing.list_read.Given as goal

abbrev pub invariant-items : goal.invariant-items
invariant-items l =
    (done : List Json) × IsListWalk (value l.depth) l.initial.reader l.reader done
    × IsListSeen (map valued done) (map view l.found.items) l.are_conditions
    × IsFitUnlessPassed l.initial.has_passed l.has_passed (fit_items (items_before done json.no_items))

abbrev pub decreases-items : goal.decreases-items
decreases-items l = length l.reader

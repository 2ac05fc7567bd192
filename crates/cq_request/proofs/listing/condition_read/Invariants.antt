use Rattle.std.proofs.Common.{ℕ, List, length}
use Rattle.json.specs.Json.{Json, value}
use Rattle.json.specs.Json as json
use Rattle.serde_json.specs.Data.{no_members}
use Rattle.serde_json.specs.View.{members_view}
use Rattle.cq_request.specs.Valued.{fit_members, valued_members, IsConditionSeen, IsFitUnlessPassed}
use Rattle.cq_request.proofs.Walking.{members_before, IsObjectWalk}
use Rattle.cq_request.proofs.listing.condition_read.Given as goal

abbrev pub invariant-members : goal.invariant-members
invariant-members l =
    (done : List (List ℕ × Json)) × IsObjectWalk (value l.depth) l.initial.reader l.reader done
    × IsConditionSeen (valued_members (members_before done json.no_members) no_members) (members_view l.found.entries) l.has_other
    × IsFitUnlessPassed l.initial.has_passed l.has_passed (fit_members (members_before done json.no_members))

abbrev pub decreases-members : goal.decreases-members
decreases-members l = length l.reader

use Rattle.std.proofs.Common.{take}
use Rattle.std.specs.Prelude.{Contains}
use Rattle.cq_clones.specs.Groups.{IsBefore}
use Rattle.cq_tokens.specs.Parts.{tokens_in}
use Rattle.cq_scan.specs.Found.{IsFoundBy, Adds}
use Rattle.cq_scan.proofs.listing.PairScan.groups.Given as goal

abbrev pub invariant-loop-i : goal.invariant-loop-i
invariant-loop-i g l =
    Adds (IsFoundBy (tokens_in l.self.files.now) l.self.min (λ a b. Contains (take l.i l.self.places.now) a × IsBefore a b)) l.initial.groups.items l.groups.items

use Rattle.std.proofs.Common.{◌≡◌, take}
use Rattle.std.specs.Prelude.{Contains}
use Rattle.cq_clones.specs.Groups.{IsBefore}
use Rattle.cq_tokens.specs.Parts.{tokens_in}
use Rattle.cq_scan.specs.Found.{IsFoundBy, Adds}
use Rattle.cq_scan.proofs.listing.PairScan.compare_later.Given as goal

abbrev pub invariant-loop-j : goal.invariant-loop-j
invariant-loop-j g l =
    Adds (IsFoundBy (tokens_in l.self.files.now) l.self.min (λ a b. (a ≡ l.p) × Contains (take l.j l.self.places.now) b × IsBefore l.p b)) l.initial.groups.items l.groups.items

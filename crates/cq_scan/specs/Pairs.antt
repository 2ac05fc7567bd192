-- What a comparison of two places adds to the groups of a scan.
use Rattle.std.specs.Prelude.{List}
use Rattle.std.specs.declared.sync.ledger.Ledger as ledger
use Rattle.cq_base.specs.declared.group.Place.{Place}
use Rattle.cq_base.specs.declared.group.Group.{Group}
use Rattle.cq_tokens.specs.declared.files.Files as files
use Rattle.cq_tokens.specs.Parts.{tokens_in}
use Rattle.cq_scan.specs.declared.listing.PairScan.{PairScan}
use Rattle.cq_scan.specs.Found.{IsPair, IsPairFrom, IsFoundBy, Adds}

module _ {F R : Type 0} {f : files.Ghosts F R} {g : ledger.Ghosts R} where
  -- the groups of the scanned files that are maximal at two places of a kind, beside the old ones
  abbrev pub AddsFound : PairScan F R f g → (Place → Place → Type 0) → List Group → List Group → Type 0
  AddsFound scan Pairs old new = Adds (IsFoundBy (tokens_in scan.files.now) scan.min Pairs) old new

  -- those that are maximal at these two
  abbrev pub AddsPair : PairScan F R f g → Place → Place → List Group → List Group → Type 0
  AddsPair scan p q old new = AddsFound scan (IsPair p q) old new

  -- those that are maximal at this place and a later one
  abbrev pub AddsLater : PairScan F R f g → Place → List Group → List Group → Type 0
  AddsLater scan p old new = AddsFound scan (IsPairFrom p) old new

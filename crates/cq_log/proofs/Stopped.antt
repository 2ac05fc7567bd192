-- Why a source was not taken to its end, by what was taken of it.
use Rattle.std.proofs.Common.{◌≡◌, ℕ, List}
use Rattle.cq_base.specs.declared.change.Change.{Change}
use Rattle.cq_base.specs.declared.settings.Settings.{Settings}
use Rattle.cq_io.specs.declared.source.Source as source
use Rattle.cq_log.specs.Reads.{ReadsMost, ReadsNone}
use Rattle.cq_log.specs.Takers.{TakesMost, TakesRefused}

module _ {T S : Type 0} (Has : T → Settings → List (List ℕ) → List Change → Type 0) (from : source.Ghosts S) (set : Settings) (read read_now : S) (t : T) (faults : from.faults read_now ≡ from.faults read) where
  pub reads_most : TakesMost Has set (from.rest read) (from.rest read_now) t → ReadsMost from set read read_now
  reads_most most = record { got = most.0.got; bytes = most.0.bytes; most = most.1; faults = faults }

  pub reads_none : TakesRefused Has set (from.rest read) (from.rest read_now) t → ReadsNone from set read read_now
  reads_none none = record { got = none.got; bytes = none.bytes; faults = faults; lines = none.lines; whole = none.whole; refused = none.refused }

-- How a shortening ended, by what was taken of its source and by how the writing went.
use Rattle.std.proofs.Common.{◌≡◌, ℕ, Bool, List, ◌++◌, flat_map, refl}
use Rattle.std.specs.Io.KnownBytes.{Appends}
use Rattle.cq_base.specs.declared.change.Change.{Change}
use Rattle.cq_base.specs.declared.settings.Settings.{Settings}
use Rattle.cq_io.specs.Causes.{Rose}
use Rattle.cq_io.specs.declared.sink.Sink as sink
use Rattle.cq_io.specs.declared.source.Source as source
use Rattle.cq_lines.specs.Pieces.{ended}
use Rattle.cq_lines.specs.declared.ending.End.TheVariants as end
use Rattle.cq_log.specs.Takers.{TakesAll, TakesMost, TakesRefused}
use Rattle.cq_log.proofs.Stopped.{reads_most, reads_none}
use Rattle.cq_shorten.specs.Needed.{needed_lines}
use Rattle.cq_shorten.specs.Keeping.{Has}
use Rattle.cq_shorten.specs.Shortened.{ReadsLog, Shortens}
use Rattle.cq_shorten.specs.declared.held.Shortener.{Shortener}
use Rattle.cq_shorten.specs.declared.shortening.Shortened.TheVariants as shortened

module _ {S K : Type 0} (from : source.Ghosts S) (onto : sink.Ghosts K) (set : Settings) (read read_now : S) (t : Shortener) where
  abbrev log_read : (unclosed torn : Bool) → TakesAll Has set (from.rest read) (from.rest read_now) t unclosed torn → from.faults read_now ≡ from.faults read → ReadsLog from onto set read read_now
  log_read unclosed torn all faults = record {
    got = all.got;
    bytes = all.bytes;
    at_end = all.at_end;
    faults = faults;
    own = all.has.own;
    changes = all.has.changes;
    torn = torn;
    held = all.has.held;
  }

  pub finished : (unclosed torn : Bool) (written written_now : K) → TakesAll Has set (from.rest read) (from.rest read_now) t unclosed torn → from.faults read_now ≡ from.faults read
      → ((set : Settings) (own : List (List ℕ)) (changes : List Change) → Has t set own changes → Appends (onto.written written) (onto.written written_now) (flat_map ended (needed_lines changes own)))
      → onto.faults written_now ≡ onto.faults written → Shortens from onto set read read_now written written_now (shortened.Ended end.Finished)
  finished unclosed torn written written_now all faults sends kept = (log_read unclosed torn all faults, sends set all.has.own all.has.changes all.has.has, kept)

  pub broken : (unclosed torn : Bool) (written written_now : K) → TakesAll Has set (from.rest read) (from.rest read_now) t unclosed torn → from.faults read_now ≡ from.faults read
      → ((set : Settings) (own : List (List ℕ)) (changes : List Change) → Has t set own changes → (front more : List ℕ) × (front ++ more ≡ flat_map ended (needed_lines changes own)) × Appends (onto.written written) (onto.written written_now) front)
      → Rose (onto.faults written) (onto.faults written_now) → Shortens from onto set read read_now written written_now (shortened.Ended end.WriteFault)
  broken unclosed torn written written_now all faults breaks rose =
      let cut = breaks set all.has.own all.has.changes all.has.has in
      (log_read unclosed torn all faults, cut.0, cut.1, cut.2, cut.3, rose)

  pub spent : (written : K) → TakesMost Has set (from.rest read) (from.rest read_now) t → from.faults read_now ≡ from.faults read → Shortens from onto set read read_now written written (shortened.Ended end.Spent)
  spent written most faults = (reads_most Has from set read read_now t faults most, refl)

  pub refused : (written : K) → TakesRefused Has set (from.rest read) (from.rest read_now) t → from.faults read_now ≡ from.faults read → Shortens from onto set read read_now written written shortened.Refused
  refused written none faults = (reads_none Has from set read read_now t faults none, refl)

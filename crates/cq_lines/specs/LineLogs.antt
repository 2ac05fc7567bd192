-- What is written for a line that is to be kept.
use Rattle.std.specs.Prelude.{◌≡◌, ℕ, Bool, true, false, List, ◌++◌}
use Rattle.std.specs.Io.KnownBytes.{Appends}
use Rattle.cq_io.specs.Causes.{Rose}
use Rattle.cq_io.specs.declared.sink.Sink as sink
use Rattle.cq_lines.specs.Pieces.{ended}

-- a log between two lines: its sink, and whether each line that was handed to it is written whole
pub record Logged (K : Type 0) : Type 0 where
  pub sink : K
  pub whole : Bool

abbrev pub log_at : {K : Type 0} → K → Bool → Logged K
log_at sink whole = record { sink = sink; whole = whole }

module _ {K : Type 0} (onto : sink.Ghosts K) where
  -- every line before was written whole, and this one is too
  pub record KeepsLine (old new : Logged K) (line : List ℕ) : Type 0 where
    pub was_whole : old.whole ≡ true
    pub whole : new.whole ≡ true
    pub written : Appends (onto.written old.sink) (onto.written new.sink) (ended line)
    pub faults : onto.faults new.sink ≡ onto.faults old.sink

  -- a front of the line was written when the sink failed
  pub record WritesFront (old new : Logged K) (line : List ℕ) : Type 0 where
    pub front : List ℕ
    pub more : List ℕ
    pub parts : front ++ more ≡ ended line
    pub written : Appends (onto.written old.sink) (onto.written new.sink) front
    pub rose : Rose (onto.faults old.sink) (onto.faults new.sink)

  -- no line is whole from now on: this one isn't, or an earlier one wasn't, and then nothing more is written
  pub record BreaksOff (old new : Logged K) (line : List ℕ) : Type 0 where
    pub broken : new.whole ≡ false
    pub first : old.whole ≡ true → WritesFront old new line
    pub later : old.whole ≡ false → new.sink ≡ old.sink

-- What is written for the lines of a source, from the source to the sink.
use Rattle.std.specs.Prelude.{◌≡◌, ◌<◌, ◌≤◌, ℕ, List, ◌++◌, length, flat_map, Option, Result, Ok, Err}
use Rattle.std.specs.Io.KnownBytes.{Consumes, Appends, IsAtEnd}
use Rattle.cq_io.specs.Causes.{Rose}
use Rattle.cq_io.specs.declared.sink.Sink as sink
use Rattle.cq_io.specs.declared.source.Source as source
use Rattle.cq_lines.specs.Held.{Held}
use Rattle.cq_lines.specs.Pieces.{closed_lines, all_lines}
use Rattle.cq_lines.specs.Runs.{CutTo, AreWhole}
use Rattle.cq_lines.specs.declared.ending.End.{End}
use Rattle.cq_lines.specs.declared.ending.End.TheVariants as end

-- over the bytes of a reply, and over what the replies to some lines are
module _ {R : Type 0} (line_of : R → List ℕ) (AreReplies : List (List ℕ) → List R → Type 0) where
  -- these lines have their replies, and these are what was written, each whole and in order
  pub record Replied (before written_now : Option (List ℕ)) (lines : List (List ℕ)) : Type 0 where
    pub replies : List R
    pub talk : AreReplies lines replies
    pub written : Appends before written_now (flat_map line_of replies)

  -- some whole lines that came first have their replies, and a front of these was written
  pub record PartReplied (limit : ℕ) (rest before written_now : Option (List ℕ)) (got : List ℕ) : Type 0 where
    pub lines : List (List ℕ)
    pub within : length got ≤ limit
    pub whole : AreWhole limit rest got lines
    pub replies : List R
    pub talk : AreReplies lines replies
    pub out : List ℕ
    pub more : List ℕ
    pub front : out ++ more ≡ flat_map line_of replies
    pub written : Appends before written_now out

  -- by how it ended: got is what was taken from the source
  abbrev pub ServedBy : ℕ → Option (List ℕ) → Option (List ℕ) → Option (List ℕ) → List ℕ → End → Type 0
  ServedBy limit rest before written_now got end.Finished = IsAtEnd rest × (length got < limit) × Replied before written_now (all_lines got)
  ServedBy limit rest before written_now got end.Spent = (length got ≡ limit) × Replied before written_now (closed_lines got)
  ServedBy limit rest before written_now got end.ReadFault = (length got < limit) × Replied before written_now (closed_lines got)
  ServedBy limit rest before written_now got end.WriteFault = PartReplied limit rest before written_now got

  -- the lines of a source were served
  pub record Serves (limit : ℕ) (rest rest_now before written_now : Option (List ℕ)) (by : End) : Type 0 where
    pub got : List ℕ
    pub bytes : Consumes rest rest_now got
    pub served : ServedBy limit rest_now before written_now got by

  -- between two lines: those that were cut have their replies, which were written
  pub record RepliedSoFar (limit : ℕ) (rest rest_now before written_now : Option (List ℕ)) (held : Held) : Type 0 where
    pub lines : List (List ℕ)
    pub cut : CutTo limit rest rest_now held lines
    pub replied : Replied before written_now lines

-- over the bytes of a reply, and over what holds of some lines and of their replies if the answering stopped at the last of them
module _ {R C : Type 0} (line_of : R → List ℕ) (HasStopped : List (List ℕ) → List R → C → Type 0) where
  -- it stopped, for this cause, at the last of some whole lines that came first; what was written is the replies to these
  pub record StopsAt (limit : ℕ) (rest rest_now before written_now : Option (List ℕ)) (cause : C) : Type 0 where
    pub got : List ℕ
    pub bytes : Consumes rest rest_now got
    pub within : length got ≤ limit
    pub lines : List (List ℕ)
    pub whole : AreWhole limit rest_now got lines
    pub replies : List R
    pub stopped : HasStopped lines replies cause
    pub written : Appends before written_now (flat_map line_of replies)

-- the counts of the source and of the sink
abbrev pub HasEndCause : ℕ → ℕ → ℕ → ℕ → End → Type 0
HasEndCause read read_now written written_now end.Finished = (read_now ≡ read) × (written_now ≡ written)
HasEndCause read read_now written written_now end.Spent = (read_now ≡ read) × (written_now ≡ written)
HasEndCause read read_now written written_now end.ReadFault = Rose read read_now × (written_now ≡ written)
HasEndCause read read_now written written_now end.WriteFault = Rose written written_now × (read_now ≡ read)

-- from a source to a sink
module _ {S K : Type 0} (from : source.Ghosts S) (onto : sink.Ghosts K) where
  -- its lines were served
  abbrev pub ServesLines : {R : Type 0} → (R → List ℕ) → (List (List ℕ) → List R → Type 0) → ℕ → S → S → K → K → End → Type 0
  ServesLines line_of AreReplies limit read read_now written written_now by = Serves line_of AreReplies limit (from.rest read) (from.rest read_now) (onto.written written) (onto.written written_now) by

  -- their counts of faults show how it ended
  abbrev pub HasCauseOfEnd : S → S → K → K → End → Type 0
  HasCauseOfEnd read read_now written written_now by = HasEndCause (from.faults read) (from.faults read_now) (onto.faults written) (onto.faults written_now) by

  -- its lines were served up to an end, or up to one at which the answering stopped
  abbrev pub ServesLinesUntil : {R C : Type 0} → (R → List ℕ) → (List (List ℕ) → List R → Type 0) → (List (List ℕ) → List R → C → Type 0) → ℕ → S → S → K → K → Result End C → Type 0
  ServesLinesUntil line_of AreReplies HasStopped limit read read_now written written_now (Ok by) = ServesLines line_of AreReplies limit read read_now written written_now by
  ServesLinesUntil line_of AreReplies HasStopped limit read read_now written written_now (Err cause) = StopsAt line_of HasStopped limit (from.rest read) (from.rest read_now) (onto.written written) (onto.written written_now) cause

  -- neither of them failed if it stopped
  abbrev pub HasCauseUntil : {C : Type 0} → S → S → K → K → Result End C → Type 0
  HasCauseUntil read read_now written written_now (Ok by) = HasCauseOfEnd read read_now written written_now by
  HasCauseUntil read read_now written written_now (Err cause) = (from.faults read_now ≡ from.faults read) × (onto.faults written_now ≡ onto.faults written)

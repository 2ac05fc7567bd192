-- One more line that has its reply, and the ends of a run.
use Rattle.std.proofs.Common.{◌≡◌, ℕ, ◌+◌, ◌≤◌, List, [], ◌∷◌, ◌++◌, length, flat_map, Option, Result, Ok, Err, true, sym, ap, ◌∙◌, append_assoc, subst, arith}
use Rattle.std.specs.Prelude.{IfErr}
use Rattle.std.proofs.KnownBytes.{Appends-nil, Appends-trans}
use Rattle.std.proofs.lemmas.Grind.{flat_map-append}
use Rattle.std.specs.Io.KnownBytes.{Consumes, Appends, IsAtEnd}
use Rattle.cq_lines.specs.Held.{Held}
use Rattle.cq_lines.specs.Pieces.{closed_lines, all_lines}
use Rattle.cq_lines.specs.Cutting.{IsNext, Cuts}
use Rattle.cq_lines.specs.Runs.{CutTo, IsFresh}
use Rattle.cq_io.specs.declared.sink.Sink as sink
use Rattle.cq_io.specs.declared.source.Source as source
use Rattle.cq_lines.specs.Serving.{Replied, RepliedSoFar, PartReplied, ServedBy, Serves, ServesLinesUntil, StopsAt}
use Rattle.cq_lines.specs.declared.lines.Cut.TheVariants as cut
use Rattle.cq_lines.specs.declared.ending.End.{End}
use Rattle.cq_lines.specs.declared.ending.End.TheVariants as end
use Rattle.cq_lines.proofs.Whole.{cut_none, cut_line, cut_whole, run_ends, flat_map_more}

module _ {R : Type 0} (line_of : R → List ℕ) where
  pub replied_none : (Are : List (List ℕ) → List R → Type 0) (a w : Option (List ℕ)) (x : Held) → IsFresh x → Are [] [] → RepliedSoFar line_of Are x.limit a a w w x
  replied_none Are a w x fresh none = record { lines = []; cut = cut_none a x fresh; replied = record { replies = []; talk = none; written = Appends-nil w } }

  -- a line was cut
  module _ (Was Are : List (List ℕ) → List R → Type 0) (limit : ℕ) (a b d w0 w1 w2 : Option (List ℕ)) (x y : Held) (got line : List ℕ) (r : R) (so : RepliedSoFar line_of Was limit a b w0 w1 x)
      (came : Consumes b d got) (taken : y.taken ≡ x.taken + length got) (within : y.taken ≤ y.limit) (same : y.limit ≡ x.limit) (going : x.over ≡ true → ⊥) (next : IsNext (IsAtEnd d) (x.pending ++ got) line y)
      (more : Was so.lines so.replied.replies → Are (so.lines ++ line ∷ []) (so.replied.replies ++ r ∷ [])) where
    -- and its reply was sent
    pub replied_more : Appends w1 w2 (line_of r) → RepliedSoFar line_of Are limit a d w0 w2 y
    replied_more sent = record {
      lines = so.lines ++ line ∷ [];
      cut = cut_line limit a b d x y so.lines got line so.cut came taken within same going next;
      replied = record {
        replies = so.replied.replies ++ r ∷ [];
        talk = more so.replied.talk;
        written = subst (λ (t : List ℕ). Appends w0 w2 t) (sym (flat_map_more line_of so.replied.replies r)) (Appends-trans w0 w1 w2 (flat_map line_of so.replied.replies) (line_of r) so.replied.written sent);
      };
    }

    -- and a front of its reply was sent
    pub write_failed : (front rest : List ℕ) → front ++ rest ≡ line_of r → Appends w1 w2 front → Serves line_of Are limit a d w0 w2 end.WriteFault
    write_failed front rest parts sent =
        let cut_now : CutTo limit a d y (so.lines ++ line ∷ []) = cut_line limit a b d x y so.lines got line so.cut came taken within same going next in
        record {
          got = cut_now.got;
          bytes = cut_now.bytes;
          served = record {
            lines = so.lines ++ line ∷ [];
            within = let taken_now = cut_now.taken in let all = cut_now.within in let same_limit = cut_now.limited in omega (arith, taken_now, all, same_limit);
            whole = cut_whole limit a d y (so.lines ++ line ∷ []) cut_now;
            replies = so.replied.replies ++ r ∷ [];
            talk = more so.replied.talk;
            out = flat_map line_of so.replied.replies ++ front;
            more = rest;
            front = append_assoc (flat_map line_of so.replied.replies) front rest ∙ (ap (λ t. flat_map line_of so.replied.replies ++ t) parts ∙ sym (flat_map_more line_of so.replied.replies r));
            written = Appends-trans w0 w1 w2 (flat_map line_of so.replied.replies) front so.replied.written sent;
          };
        }

  module _ (Are : List (List ℕ) → List R → Type 0) (limit : ℕ) (a b d w0 w1 : Option (List ℕ)) (x y : Held) (so : RepliedSoFar line_of Are limit a b w0 w1 x) where
    -- the lines so far are these
    replied : (lines : List (List ℕ)) → lines ≡ so.lines → Replied line_of Are w0 w1 lines
    replied lines same = subst (λ (ls : List (List ℕ)). Replied line_of Are w0 w1 ls) (sym same) so.replied

    pub finished : Cuts b d x cut.End y → Serves line_of Are limit a d w0 w1 end.Finished
    finished cuts =
        let run = run_ends limit a b d x y so.lines cut.End so.cut cuts in
        record { got = run.got; bytes = run.bytes; served = (run.ends.0, run.ends.1, replied (all_lines run.got) run.ends.2) }

    pub spent : Cuts b d x cut.Spent y → Serves line_of Are limit a d w0 w1 end.Spent
    spent cuts =
        let run = run_ends limit a b d x y so.lines cut.Spent so.cut cuts in
        record { got = run.got; bytes = run.bytes; served = (run.ends.0, replied (closed_lines run.got) run.ends.1) }

    pub read_failed : Cuts b d x cut.ReadFault y → Serves line_of Are limit a d w0 w1 end.ReadFault
    read_failed cuts =
        let run = run_ends limit a b d x y so.lines cut.ReadFault so.cut cuts in
        record { got = run.got; bytes = run.bytes; served = (run.ends.0, replied (closed_lines run.got) run.ends.1) }

-- ---- a line was cut, at which the answering stopped

module _ {R C : Type 0} (line_of : R → List ℕ) (Was : List (List ℕ) → List R → Type 0) (HasStopped : List (List ℕ) → List R → C → Type 0) where
  pub stopped : (limit : ℕ) (a b d w0 w1 w2 : Option (List ℕ)) (x y : Held) (got line : List ℕ) (more : List R) (cause : C) (so : RepliedSoFar line_of Was limit a b w0 w1 x)
      → Consumes b d got → y.taken ≡ x.taken + length got → y.taken ≤ y.limit → y.limit ≡ x.limit → (x.over ≡ true → ⊥) → IsNext (IsAtEnd d) (x.pending ++ got) line y
      → HasStopped (so.lines ++ line ∷ []) (so.replied.replies ++ more) cause → Appends w1 w2 (flat_map line_of more) → StopsAt line_of HasStopped limit a d w0 w2 cause
  stopped limit a b d w0 w1 w2 x y got line more cause so came taken within same going next is sent =
      let cut_now : CutTo limit a d y (so.lines ++ line ∷ []) = cut_line limit a b d x y so.lines got line so.cut came taken within same going next in
      record {
        got = cut_now.got;
        bytes = cut_now.bytes;
        within = let taken_now = cut_now.taken in let all = cut_now.within in let same_limit = cut_now.limited in omega (arith, taken_now, all, same_limit);
        lines = so.lines ++ line ∷ [];
        whole = cut_whole limit a d y (so.lines ++ line ∷ []) cut_now;
        replies = so.replied.replies ++ more;
        stopped = is;
        written = subst (λ (t : List ℕ). Appends w0 w2 t) (sym (flat_map-append line_of so.replied.replies more)) (Appends-trans w0 w1 w2 (flat_map line_of so.replied.replies) (flat_map line_of more) so.replied.written sent);
      }

-- ---- what was served, where the replies to the lines are also of another kind

module _ {R : Type 0} (line_of : R → List ℕ) (Was Are : List (List ℕ) → List R → Type 0) (to : (lines : List (List ℕ)) (replies : List R) → Was lines replies → Are lines replies) where
  replied_as : (before written_now : Option (List ℕ)) (lines : List (List ℕ)) → Replied line_of Was before written_now lines → Replied line_of Are before written_now lines
  replied_as before written_now lines is = record { replies = is.replies; talk = to lines is.replies is.talk; written = is.written }

  part_as : (limit : ℕ) (rest before written_now : Option (List ℕ)) (got : List ℕ) → PartReplied line_of Was limit rest before written_now got → PartReplied line_of Are limit rest before written_now got
  part_as limit rest before written_now got is = record {
    lines = is.lines;
    within = is.within;
    whole = is.whole;
    replies = is.replies;
    talk = to is.lines is.replies is.talk;
    out = is.out;
    more = is.more;
    front = is.front;
    written = is.written;
  }

  served_as : (limit : ℕ) (rest before written_now : Option (List ℕ)) (got : List ℕ) (by : End) → ServedBy line_of Was limit rest before written_now got by → ServedBy line_of Are limit rest before written_now got by
  served_as limit rest before written_now got end.Finished is = (is.0, is.1, replied_as before written_now _ is.2)
  served_as limit rest before written_now got end.Spent is = (is.0, replied_as before written_now _ is.1)
  served_as limit rest before written_now got end.ReadFault is = (is.0, replied_as before written_now _ is.1)
  served_as limit rest before written_now got end.WriteFault is = part_as limit rest before written_now got is

  pub serves_as : (limit : ℕ) (rest rest_now before written_now : Option (List ℕ)) (by : End) → Serves line_of Was limit rest rest_now before written_now by → Serves line_of Are limit rest rest_now before written_now by
  serves_as limit rest rest_now before written_now by is = record { got = is.got; bytes = is.bytes; served = served_as limit rest_now before written_now is.got by is.served }

-- ---- what was served, where the replies are by something that doesn't speak of lines, such as a history

module _ {R : Type 0} (line_of : R → List ℕ) {X : Type 0} (Holds : X → Type 0) (Are : X → List (List ℕ) → List R → Type 0) where
  abbrev By : List (List ℕ) → List R → Type 0
  By lines replies = (x : X) × Holds x × Are x lines replies

  served_by : (limit : ℕ) (rest before written_now : Option (List ℕ)) (got : List ℕ) (by : End) → ServedBy line_of By limit rest before written_now got by → (x : X) × Holds x × ServedBy line_of (Are x) limit rest before written_now got by
  served_by limit rest before written_now got end.Finished is = let (x, holds, are) = is.2.talk in (x, holds, (is.0, is.1, record { replies = is.2.replies; talk = are; written = is.2.written }))
  served_by limit rest before written_now got end.Spent is = let (x, holds, are) = is.1.talk in (x, holds, (is.0, record { replies = is.1.replies; talk = are; written = is.1.written }))
  served_by limit rest before written_now got end.ReadFault is = let (x, holds, are) = is.1.talk in (x, holds, (is.0, record { replies = is.1.replies; talk = are; written = is.1.written }))
  served_by limit rest before written_now got end.WriteFault is =
      let (x, holds, are) = is.talk in
      (x, holds, record { lines = is.lines; within = is.within; whole = is.whole; replies = is.replies; talk = are; out = is.out; more = is.more; front = is.front; written = is.written })

  pub serves_by : (limit : ℕ) (rest rest_now before written_now : Option (List ℕ)) (by : End) → Serves line_of By limit rest rest_now before written_now by → (x : X) × Holds x × Serves line_of (Are x) limit rest rest_now before written_now by
  serves_by limit rest rest_now before written_now by is =
      let (x, holds, served) = served_by limit rest_now before written_now is.got by is.served in
      (x, holds, record { got = is.got; bytes = is.bytes; served = served })

-- ---- the same, if the answering may have stopped at a line

module _ {S K : Type 0} (from : source.Ghosts S) (onto : sink.Ghosts K) {R C : Type 0} (line_of : R → List ℕ) where
  -- if the replies are also of another kind
  module _ (Was Are : List (List ℕ) → List R → Type 0) (WasStopped HasStopped : List (List ℕ) → List R → C → Type 0) (to : (lines : List (List ℕ)) (replies : List R) → Was lines replies → Are lines replies)
      (to_stopped : (lines : List (List ℕ)) (replies : List R) (cause : C) → WasStopped lines replies cause → HasStopped lines replies cause) where
    pub until_as : (limit : ℕ) (read read_now : S) (written written_now : K) (result : Result End C) → ServesLinesUntil from onto line_of Was WasStopped limit read read_now written written_now result → ServesLinesUntil from onto line_of Are HasStopped limit read read_now written written_now result
    until_as limit read read_now written written_now (Ok by) is = serves_as line_of Was Are to limit (from.rest read) (from.rest read_now) (onto.written written) (onto.written written_now) by is
    until_as limit read read_now written written_now (Err cause) is = record { got = is.got; bytes = is.bytes; within = is.within; lines = is.lines; whole = is.whole; replies = is.replies; stopped = to_stopped is.lines is.replies cause is.stopped; written = is.written }

  -- if they are by something that doesn't speak of lines
  module _ {X : Type 0} (Holds : X → Type 0) (Are : X → List (List ℕ) → List R → Type 0) (HasStopped : X → List (List ℕ) → List R → C → Type 0) where
    abbrev StoppedBy : List (List ℕ) → List R → C → Type 0
    StoppedBy lines replies cause = (x : X) × Holds x × HasStopped x lines replies cause

    pub until_by : (limit : ℕ) (read read_now : S) (written written_now : K) (result : Result End C) → ServesLinesUntil from onto line_of (λ lines replies. (x : X) × Holds x × Are x lines replies) StoppedBy limit read read_now written written_now result
        → (x : X) × Holds x × ServesLinesUntil from onto line_of (Are x) (HasStopped x) limit read read_now written written_now result
    until_by limit read read_now written written_now (Ok by) is = serves_by line_of Holds Are limit (from.rest read) (from.rest read_now) (onto.written written) (onto.written written_now) by is
    until_by limit read read_now written written_now (Err cause) is =
        let (x, holds, stopped_so) = is.stopped in
        (x, holds, record { got = is.got; bytes = is.bytes; within = is.within; lines = is.lines; whole = is.whole; replies = is.replies; stopped = stopped_so; written = is.written })

  -- what holds of a cause if it stopped
  pub until_stops : (Was : List (List ℕ) → List R → Type 0) (HasStopped : List (List ℕ) → List R → C → Type 0) (Holds : C → Type 0) → ((lines : List (List ℕ)) (replies : List R) (cause : C) → HasStopped lines replies cause → Holds cause)
      → (limit : ℕ) (read read_now : S) (written written_now : K) (result : Result End C) → ServesLinesUntil from onto line_of Was HasStopped limit read read_now written written_now result → IfErr result Holds
  until_stops Was HasStopped Holds to limit read read_now written written_now (Ok by) is = tt
  until_stops Was HasStopped Holds to limit read read_now written written_now (Err cause) is = to is.lines is.replies cause is.stopped

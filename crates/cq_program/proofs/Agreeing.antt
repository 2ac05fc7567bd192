-- What `export`, `ask` and `run` have written where each ended with 0.
use Rattle.std.proofs.Common.{◌≡◌, ◌≢◌, ◌⊎◌, ◌==◌, ℕ, ◌+◌, Bool, true, false, MatchBool, List, [], ◌∷◌, ◌++◌, length, flat_map, Option, Some, None, refl, sym, ap, ◌∙◌, subst, inl, inr}
use Rattle.std.specs.Prelude.{codes}
use Rattle.std.specs.Io.KnownBytes.{Appends, Consumes, IsAtEnd}
use Rattle.std.specs.List.{AllByRecursion}
use Rattle.std.proofs.lemmas.Grind.{flat_map-append}
use Rattle.std.proofs.lemmas.List.{append-nil, append_cancel_left}
use Rattle.std.proofs.lemmas.Slice.Zip.{AllZip-long}
use Rattle.cq_base.specs.declared.change.Change.{Change}
use Rattle.cq_base.specs.declared.settings.Settings.{Settings}
use Rattle.cq_beside.specs.Replies.{AreBeside, AreWithWorkers}
use Rattle.cq_export.proofs.Rereading.{one_front}
use Rattle.cq_export.specs.Beside.{numbers_behind, AsksAsBeside}
use Rattle.cq_export.specs.Exports.{Exports}
use Rattle.cq_export.specs.Laws.{IsQuestion, AreTold}
use Rattle.cq_export.specs.Lines.{Says, SayChanges, AreAccepted}
use Rattle.cq_export.specs.declared.exporting.Exported.{Exported}
use Rattle.cq_export.specs.declared.exporting.Exported.TheVariants as exported
use Rattle.cq_io.specs.declared.sink.Sink as sink
use Rattle.cq_io.specs.declared.source.Source as source
use Rattle.cq_lines.specs.Pieces.{all_lines, ended, split}
use Rattle.cq_lines.specs.Serving.{Serves}
use Rattle.cq_lines.specs.declared.ending.End.{End}
use Rattle.cq_lines.specs.declared.ending.End.TheVariants as end
use Rattle.cq_program.proofs.Closing.{lines_behind}
use Rattle.cq_program.specs.Agreeing.{IsWhole, TellsNoMemory, Piped, RunWrites, ExportWrites, AskWrites, AskedAsRun}
use Rattle.cq_program.specs.Statuses.{status_of, status_of_asked, status_of_exported}
use Rattle.cq_program.specs.Top.{AreAlone}
use Rattle.cq_program.specs.declared.status.Status.TheVariants as ended
use Rattle.cq_reply.proofs.Shorts.{memory_line}
use Rattle.cq_reply.specs.Written.{line_of as reply_line}
use Rattle.cq_reply.specs.declared.reply.Reply.{Reply}
use Rattle.cq_reply.specs.declared.reply.Reply.TheVariants as reply
use Rattle.cq_talk.proofs.BesideRows.{all_before, all_behind}
use Rattle.cq_tokask.specs.Asked.{AnswersLines}
use Rattle.cq_tokask.specs.Exported.{IsOfChanges}
use Rattle.cq_tokask.specs.Kept.{Asks}
use Rattle.cq_tokask.specs.declared.kept.Asked.{Asked}
use Rattle.cq_tokask.specs.declared.kept.Asked.TheVariants as kept
use Rattle.cq_tokfile.specs.Snapshot.{IsTokenFile}
use Rattle.cq_tokfile.specs.declared.snapshot.Snapshot.{Snapshot}

-- ---- known bytes

-- where all was read, it is what was left
all_read : (rest rest_now : Option (List ℕ)) (bytes got : List ℕ) → rest ≡ Some bytes → Consumes rest rest_now got → IsAtEnd rest_now → got ≡ bytes
all_read rest rest_now bytes got is taken at_end = known rest_now (subst (λ (r : Option (List ℕ)). Consumes r rest_now got) is taken) at_end
  where
    known : (left : Option (List ℕ)) → Consumes (Some bytes) left got → IsAtEnd left → got ≡ bytes
    known None none over = absurd none
    known (Some left) parts over = sym (parts ∙ ap (λ (xs : List ℕ). got ++ xs) over ∙ append-nil got)

-- and what was added is what there is more
all_written : (was now : Option (List ℕ)) (before output out : List ℕ) → was ≡ Some before → now ≡ Some (before ++ output) → Appends was now out → output ≡ out
all_written was now before output out is then appends =
    append_cancel_left before output out (subst (λ (n : Option (List ℕ)). Appends (Some before) n out) then (subst (λ (w : Option (List ℕ)). Appends w now out) is appends))

-- what was not taken
left_behind : (behind : Option (List ℕ)) (input file : List ℕ) → Consumes (Some input) behind file → (left : List ℕ) × (behind ≡ Some left) × (input ≡ file ++ left)
left_behind None input file none = absurd none
left_behind (Some left) input file parts = (left, refl, parts)

-- ---- replies

abbrev IsOther : List ℕ → Type 0
IsOther line = ended line ≢ reply_line reply.Memory

abbrev memory_text : List ℕ
memory_text = codes "{\"code\":14,\"error\":\"memory\",\"ok\":false}"

memory_alone : all_lines (ended memory_text) ≡ memory_text ∷ []
unfolding split
memory_alone = refl

told_other : (r : Reply) → AllByRecursion IsOther (all_lines (reply_line r)) → r ≢ reply.Memory
told_other r others memory =
    let line : all_lines (reply_line r) ≡ memory_text ∷ [] = ap (λ (x : Reply). all_lines (reply_line x)) memory ∙ ap all_lines (sym memory_line) ∙ memory_alone in
    (subst (AllByRecursion IsOther) line others).0 memory_line

ended_whole : (line : List ℕ) → IsWhole (ended line)
ended_whole line = inr (line, refl)

line_whole : (r : Reply) → IsWhole (reply_line r)
line_whole r = ended_whole _

none_told : (replies : List Reply) → TellsNoMemory (flat_map reply_line replies) → AreTold replies
none_told [] tells = tt
none_told (r ∷ replies) tells =
    let parts = subst (AllByRecursion IsOther) (lines_behind (reply_line r) (flat_map reply_line replies) (line_whole r)) tells in
    (told_other r (all_before IsOther (all_lines (reply_line r)) (all_lines (flat_map reply_line replies)) parts), none_told replies (all_behind IsOther (all_lines (reply_line r)) (all_lines (flat_map reply_line replies)) parts))

-- the output is the replies to the lines of the input
record Told (Are : List (List ℕ) → List Reply → Type 0) (input output : List ℕ) : Type 0 where
  replies : List Reply
  talk : Are (all_lines input) replies
  output_is : output ≡ flat_map reply_line replies

no_memory : (Are : List (List ℕ) → List Reply → Type 0) (input output : List ℕ) (told : Told Are input output) → TellsNoMemory output → AreTold told.replies
no_memory Are input output told tells = none_told told.replies (subst TellsNoMemory told.output_is tells)

served : (Are : List (List ℕ) → List Reply → Type 0) (limit : ℕ) (rest rest_now was now : Option (List ℕ)) (by : End) (input before output : List ℕ) → rest ≡ Some input → was ≡ Some before → now ≡ Some (before ++ output) → status_of by ≡ ended.Done
    → Serves reply_line Are limit rest rest_now was now by → Told Are input output
served Are limit rest rest_now was now end.Finished input before output left is then zero serves =
    let replied = serves.served.2 in
    record {
      replies = replied.replies;
      talk = subst (λ (bytes : List ℕ). Are (all_lines bytes) replied.replies) (all_read rest rest_now input serves.got left serves.bytes serves.served.0) replied.talk;
      output_is = all_written was now before output (flat_map reply_line replied.replies) is then replied.written;
    }
served Are limit rest rest_now was now end.ReadFault input before output left is then zero serves = let no : ended.ReadFault ≡ ended.Done = zero in absurd (cc)
served Are limit rest rest_now was now end.WriteFault input before output left is then zero serves = let no : ended.WriteFault ≡ ended.Done = zero in absurd (cc)
served Are limit rest rest_now was now end.Spent input before output left is then zero serves = let no : ended.Spent ≡ ended.Done = zero in absurd (cc)

done_not_refused : ended.Done ≢ ended.Memory
done_not_refused is = absurd (cc)

-- ---- the three commands

-- `run`: with workers or none, the replies are those that a server may give beside which works are made
either : {A B : Type 0} (b : Bool) → MatchBool b A B → A ⊎ B
either true is = inl is
either false is = inr is

module _ {S K : Type 0} (from : source.Ghosts S) (onto : sink.Ghosts K) where
  run_told : (set : Settings) (input output : List ℕ) → RunWrites from onto set input output → Told (AreBeside set) input output
  run_told set input output ran =
      let e = ran.ends in
      elim (either (ran.workers == 0) (ran.runs (record { settings = set; workers = ran.workers }) ran.asked)) [
        | inl runs ↦
            let s = runs (done_not_refused) in
            let told = served (AreAlone set ran.reads ran.reads_now) set.byte_limit (from.rest e.read) (from.rest e.read_now) (onto.written e.written) (onto.written e.written_now) s.by input e.before output e.input_is e.before_is e.output_is (sym s.status_is) s.serves in
            record { replies = told.replies; talk = told.talk.beside; output_is = told.output_is }
        | inr runs ↦
            let s = runs (done_not_refused) in
            let told = served (AreWithWorkers set (ran.workers + 2) ran.workers ran.reads ran.reads_now) set.byte_limit (from.rest e.read) (from.rest e.read_now) (onto.written e.written) (onto.written e.written_now) s.by input e.before output e.input_is e.before_is e.output_is (sym s.status_is) s.serves in
            record { replies = told.replies; talk = told.talk.beside; output_is = told.output_is }
      ]

-- `export`: the output is the token file of the version of the changes that the lines say
record Written (L : Type 0) (set : Settings) (project input output : List ℕ) : Type 0 where
  changes : List Change
  say : SayChanges set.chunk (all_lines input) changes
  accepted : AreAccepted set changes
  snapshot : Snapshot L
  is : IsOfChanges set changes project snapshot
  is_file : IsTokenFile set snapshot output

-- `ask`: the input begins with a token file, and the output is the replies to the lines after it
record Read (L : Type 0) (set : Settings) (input output : List ℕ) : Type 0 where
  snapshot : Snapshot L
  file : List ℕ
  is_file : IsTokenFile set snapshot file
  behind : List ℕ
  parts : input ≡ file ++ behind
  told : Told (AnswersLines snapshot set) behind output

module _ (L : Type 0) {S K : Type 0} (from : source.Ghosts S) (onto : sink.Ghosts K) where
  written_by : (set : Settings) (project input output : List ℕ) (e : Piped from onto input output) (by : Exported) → Exports L from onto set project e.read e.read_now e.written e.written_now by → status_of_exported by ≡ ended.Done → Written L set project input output
  written_by set project input output e exported.Refused exports zero = let no : ended.LineRefused ≡ ended.Done = zero in absurd (cc)
  written_by set project input output e exported.TooLarge exports zero = let no : ended.TooLarge ≡ ended.Done = zero in absurd (cc)
  written_by set project input output e (exported.Ended end.Finished) exports zero =
      let taken = exports.taken in
      let file = exports.writes in
      record {
        changes = exports.changes;
        say = subst (λ (bytes : List ℕ). SayChanges set.chunk (all_lines bytes) exports.changes) (all_read (from.rest e.read) (from.rest e.read_now) input taken.got e.input_is taken.bytes taken.at_end) taken.say;
        accepted = taken.accepted;
        snapshot = exports.snapshot;
        is = exports.is;
        is_file = subst (IsTokenFile set exports.snapshot) (sym (all_written (onto.written e.written) (onto.written e.written_now) e.before output file.0 e.before_is e.output_is file.2)) file.1;
      }
  written_by set project input output e (exported.Ended end.ReadFault) exports zero = let no : ended.ReadFault ≡ ended.Done = zero in absurd (cc)
  written_by set project input output e (exported.Ended end.WriteFault) exports zero = let no : ended.WriteFault ≡ ended.Done = zero in absurd (cc)
  written_by set project input output e (exported.Ended end.Spent) exports zero = let no : ended.Spent ≡ ended.Done = zero in absurd (cc)

  export_written : (set : Settings) (project input output : List ℕ) → ExportWrites L from onto set project input output → Written L set project input output
  export_written set project input output did =
      let one = did.exports (record { settings = set; project = project }) did.asked (done_not_refused) in
      written_by set project input output did.ends one.by one.exports (sym one.status_is)

  read_by : (set : Settings) (input output : List ℕ) (e : Piped from onto input output) (by : Asked) → Asks L from onto set e.read e.read_now e.written e.written_now by → status_of_asked by ≡ ended.Done → Read L set input output
  read_by set input output e kept.Refused asks zero = let no : ended.FileRefused ≡ ended.Done = zero in absurd (cc)
  read_by set input output e (kept.Ended by) (inl first) zero = let no : ended.ReadFault ≡ ended.Done = ap status_of (sym first.ended) ∙ zero in absurd (cc)
  read_by set input output e (kept.Ended by) (inr (answered, cause)) zero =
      let left = left_behind answered.behind input answered.file (subst (λ (r : Option (List ℕ)). Consumes r answered.behind answered.file) e.input_is answered.taken) in
      record {
        snapshot = answered.snapshot;
        file = answered.file;
        is_file = answered.is_file;
        behind = left.0;
        parts = left.2;
        told = served (AnswersLines answered.snapshot set) set.byte_limit answered.behind (from.rest e.read_now) (onto.written e.written) (onto.written e.written_now) by left.0 e.before output left.1 e.before_is e.output_is zero answered.serves;
      }

  ask_read : (set : Settings) (input output : List ℕ) → AskWrites L from onto set input output → Read L set input output
  ask_read set input output did =
      let one = did.asks set did.asked (done_not_refused) in
      read_by set input output did.ends one.by one.asks (sym one.status_is)

  -- ---- all three

  pub asked_as_run : AsksAsBeside L → AskedAsRun L from onto
  asked_as_run law set project changes questions file asked served did also ran whole each asked_tells served_tells =
      let w = export_written set project changes file did in
      let a = ask_read set (file ++ questions) asked also in
      let r = run_told from onto set (changes ++ questions) served ran in
      let front = one_front set w.snapshot a.snapshot file a.file questions a.behind w.is_file a.is_file a.parts in
      let count : length (all_lines changes) ≡ length w.changes = sym (AllZip-long (Says set.chunk) (all_lines changes) w.changes w.say) in
      let same : r.replies ≡ numbers_behind 0 (all_lines changes) ++ a.told.replies =
      law set w.changes project w.snapshot a.snapshot file (all_lines changes) (all_lines questions) a.told.replies r.replies w.say w.accepted w.is w.is_file
      (subst (IsTokenFile set a.snapshot) front.1 a.is_file)
      (subst (λ (n : ℕ). AllByRecursion (IsQuestion set.chunk project n) (all_lines questions)) count each)
      (subst (λ (bytes : List ℕ). AnswersLines a.snapshot set (all_lines bytes) a.told.replies) front.2 a.told.talk)
      (subst (λ (lines : List (List ℕ)). AreBeside set lines r.replies) (lines_behind changes questions whole) r.talk)
      (no_memory (AnswersLines a.snapshot set) a.behind asked a.told asked_tells)
      (no_memory (AreBeside set) (changes ++ questions) served r served_tells) in
      r.output_is ∙ ap (flat_map reply_line) same ∙ flat_map-append reply_line (numbers_behind 0 (all_lines changes)) a.told.replies ∙ ap (λ (bytes : List ℕ). flat_map reply_line (numbers_behind 0 (all_lines changes)) ++ bytes) (sym a.told.output_is)

-- What commands may not come to: under other settings, with other numbers, or with another status.
use Rattle.std.specs.Prelude.{◌≡◌, ℕ, nat_lt, false, MatchBool, List, [], ◌∷◌, ◌++◌, slice_index, Option, None, Some, IfSome, Result, Ok, Err}
use Rattle.std.specs.Io.KnownBytes.{Appends, Consumes}
use Rattle.std.proofs.Common.{arith, ap, refl, sym, ◌∙◌, subst, inl, inr}
use Rattle.cq_definition_cases.proofs.Endings.{rose}
use Rattle.cq_base.specs.declared.refusal.Refusal.TheVariants as refusal
use Rattle.cq_base.specs.declared.settings.Settings.{Settings}
use Rattle.cq_beside.specs.Replies.{AreWithWorkers}
use Rattle.cq_export.specs.Exports.{Exports}
use Rattle.cq_export.specs.declared.exporting.Exported.TheVariants as exported
use Rattle.cq_io.specs.Causes.{HasCause}
use Rattle.cq_io.specs.declared.sink.Sink as sink
use Rattle.cq_io.specs.declared.source.Failed.{Failed}
use Rattle.cq_io.specs.declared.source.Source as source
use Rattle.cq_lines.specs.declared.ending.End.TheVariants as end
use Rattle.cq_listen.specs.declared.listening.Served.{Served}
use Rattle.cq_program.specs.Statuses.{HasServed, end_of, status_of}
use Rattle.cq_program.specs.Top.{IsMade}
use Rattle.cq_program.specs.declared.status.Status.{Status}
use Rattle.cq_program.specs.declared.status.Status.TheVariants as ended
use Rattle.cq_reply.specs.declared.reply.Reply.TheVariants as reply
use Rattle.cq_request.specs.declared.request.Query.{Query}
use Rattle.cq_tokask.specs.Asked.{AnswersQuery}
use Rattle.cq_tokask.specs.Kept.{Asks, BeginsWithNoFile}
use Rattle.cq_tokask.specs.declared.kept.Asked.TheVariants as kept
use Rattle.cq_tokfile.specs.Snapshot.{IsTokenFile, contents_of}
use Rattle.cq_tokfile.specs.declared.snapshot.Snapshot.{Snapshot}
use Rattle.cq_tokform.specs.Spelling.{Contents, whole}
use Rattle.cq_words.specs.declared.command.Listen.{Listen}

-- ---- `listen`

module _ (asked : Listen) (bound bound_now : Option (List ℕ)) (status : Status) (served : Served) where
  pub connections_are_served_under_the_settings_of_the_arguments : asked.settings.chunk ≡ 2 → served.settings.chunk ≡ 3 → HasServed asked bound bound_now status (Some served) → ⊥
  connections_are_served_under_the_settings_of_the_arguments two three says = let same = ap (λ (set : Settings). set.chunk) says.1.settings_are in omega (arith, two, three, same)

  pub as_many_connections_are_served_at_once_as_are_asked_for : asked.sessions ≡ 2 → served.sessions ≡ 1 → HasServed asked bound bound_now status (Some served) → ⊥
  as_many_connections_are_served_at_once_as_are_asked_for two one says = let same = says.1.sessions_are in omega (arith, two, one, same)

pub who_serves_no_connection_is_not_done : (asked : Listen) (bound bound_now : Option (List ℕ)) → HasServed asked bound bound_now ended.Done None → ⊥
who_serves_no_connection_is_not_done asked bound bound_now (inl memory) = grind (arith, memory)
who_serves_no_connection_is_not_done asked bound bound_now (inr doors) = let other = doors.0 in grind (arith, other)

-- ---- `make`

of_line : (by : Result (Unit {0}) Failed) → ended.WriteFault ≡ status_of (end_of by) → HasCause 0 0 by → ⊥
of_line (Ok sent) is cause = grind (arith, is)
of_line (Err failed) is cause = rose cause.failed

pub a_made_line_that_was_sent_is_no_write_fault : (number files : ℕ) (before written_now : Option (List ℕ)) → IsMade number files before written_now 0 0 ended.WriteFault → ⊥
a_made_line_that_was_sent_is_no_write_fault number files before written_now is = of_line is.by is.status_is is.cause

not_spent : (by : Result (Unit {0}) Failed) → ended.Spent ≡ status_of (end_of by) → ⊥
not_spent (Ok sent) is = grind (arith, is)
not_spent (Err failed) is = grind (arith, is)

pub a_made_line_is_not_too_much_input : (number files : ℕ) (before written_now : Option (List ℕ)) → IsMade number files before written_now 0 0 ended.Spent → ⊥
a_made_line_is_not_too_much_input number files before written_now is = not_spent is.by is.status_is

-- ---- `run` with workers

pub a_line_has_its_reply_beside_workers : (set : Settings) (callers workers reads reads_now : ℕ) (line : List ℕ) → AreWithWorkers set callers workers reads reads_now (line ∷ []) [] → ⊥
a_line_has_its_reply_beside_workers set callers workers reads reads_now line are = are.beside

-- ---- `ask`: a query that asks for a later version is told which one there is

the_kept_version_is_told : (Answered : Type 0) (version at : ℕ) → version ≡ 3 → at ≡ 5 → MatchBool (nat_lt version at) (reply.Refused (refusal.Future 5) ≡ reply.Refused (refusal.Future version)) Answered → ⊥
the_kept_version_is_told Answered version at three five says =
    let later : MatchBool (nat_lt version 5) (reply.Refused (refusal.Future 5) ≡ reply.Refused (refusal.Future version)) Answered =
    subst (λ n. MatchBool (nat_lt version n) (reply.Refused (refusal.Future 5) ≡ reply.Refused (refusal.Future version)) Answered) five says in
    let other : reply.Refused (refusal.Future 5) ≡ reply.Refused (refusal.Future 3) =
    subst (λ n. MatchBool (nat_lt n 5) (reply.Refused (refusal.Future 5) ≡ reply.Refused (refusal.Future n)) Answered) three later in grind (arith, other)

pub the_version_that_was_asked_for_is_not_told : {L : Type 0} (s : Snapshot L) (q : Query) → s.version ≡ 3 → q.at ≡ 5 → AnswersQuery s q (reply.Refused (refusal.Future 5)) → ⊥
the_version_that_was_asked_for_is_not_told s q three five says = the_kept_version_is_told _ s.version q.at three five says

-- ---- `ask` and `export`: a token file has the settings that it was written under

abbrev under : ℕ → Settings
under chunk = record { chunk = chunk; shards = 16; key_bits = 64; ignore_ids = false; ignore_lits = false; change_limit = 262144; text_limit = 33554432; byte_limit = 1152921504606846976 }

-- the last byte of the windows' length
two_is_written : (c : Contents) (behind : List ℕ) → slice_index (whole (under 2) c ++ behind) 27 ≡ 2
two_is_written c behind = refl

three_is_written : (c : Contents) (behind : List ℕ) → slice_index (whole (under 3) c ++ behind) 27 ≡ 3
three_is_written c behind = refl

-- what was taken is a front of the bytes
front : (bytes file : List ℕ) (behind : Option (List ℕ)) → Consumes (Some bytes) behind file → (rest : List ℕ) × (bytes ≡ file ++ rest)
front bytes file None consumes = absurd consumes
front bytes file (Some rest) consumes = (rest, consumes)

module _ (L : Type 0) {S K : Type 0} (from : source.Ghosts S) (onto : sink.Ghosts K) where
  -- a file that was written under other settings is none of these
  begins_with_none : (s : Snapshot L) (file behind : List ℕ) → IsTokenFile (under 3) s file → BeginsWithNoFile L from onto (under 2) (file ++ behind)
  begins_with_none s file behind is t own rest same its =
      let bytes : whole (under 3) (contents_of s) ++ behind ≡ whole (under 2) (contents_of t) ++ rest =
      ap (λ (bs : List ℕ). bs ++ behind) (sym is.is) ∙ (same ∙ ap (λ (bs : List ℕ). bs ++ rest) its.is) in
      let differ : 3 ≡ 2 = sym (three_is_written (contents_of s) behind) ∙ (ap (λ (bs : List ℕ). slice_index bs 27) bytes ∙ two_is_written (contents_of t) rest) in omega (arith, differ)

  module _ (read read_now : S) (written written_now : K) where
    pub a_failed_read_is_not_told_as_no_token_file : (set : Settings) → from.faults read ≡ 0 → from.faults read_now ≡ 1 → Asks L from onto set read read_now written written_now kept.Refused → ⊥
    a_failed_read_is_not_told_as_no_token_file set was is says = let same = says.1 in omega (arith, was, is, same)

    pub a_token_file_of_the_settings_is_not_refused :
        (set : Settings) (s : Snapshot L) (file behind : List ℕ) → IsTokenFile set s file → from.rest read ≡ Some (file ++ behind) → Asks L from onto set read read_now written written_now kept.Refused → ⊥
    a_token_file_of_the_settings_is_not_refused set s file behind is rest says =
        let none : BeginsWithNoFile L from onto set (file ++ behind) = subst (λ (known : Option (List ℕ)). IfSome known (BeginsWithNoFile L from onto set)) rest says.0 in none s file behind refl is

    pub a_token_file_of_other_settings_is_not_answered :
        (s : Snapshot L) (file behind : List ℕ) → IsTokenFile (under 3) s file → from.rest read ≡ Some (file ++ behind)
        → Asks L from onto (under 2) read read_now written written_now (kept.Ended end.Finished) → ⊥
    a_token_file_of_other_settings_is_not_answered s file behind is rest (inl fails) = let other = fails.ended in grind (arith, other)
    a_token_file_of_other_settings_is_not_answered s file behind is rest (inr (answers, cause)) =
        let taken : Consumes (Some (file ++ behind)) answers.behind answers.file = subst (λ (known : Option (List ℕ)). Consumes known answers.behind answers.file) rest answers.taken in
        let split = front (file ++ behind) answers.file answers.behind taken in begins_with_none s file behind is answers.snapshot answers.file split.0 split.1 answers.is_file

    pub a_version_is_written_under_the_settings_of_the_arguments :
        (project : List ℕ) (s : Snapshot L) (file : List ℕ) → IsTokenFile (under 3) s file → onto.written written ≡ Some [] → onto.written written_now ≡ Some file
        → Exports L from onto (under 2) project read read_now written written_now (exported.Ended end.Finished) → ⊥
    a_version_is_written_under_the_settings_of_the_arguments project s file is before now exports =
        let own = exports.writes.0 in
        let its : IsTokenFile (under 2) exports.snapshot own = exports.writes.1 in
        let all : file ≡ own =
        subst (λ (known : Option (List ℕ)). Appends (Some []) known own) now (subst (λ (known : Option (List ℕ)). Appends known (onto.written written_now) own) before exports.writes.2) in
        begins_with_none s file [] is exports.snapshot own [] (ap (λ (bs : List ℕ). bs ++ []) all) its

-- What a status, and the end of serving, may not say of a source, a sink and doors.
use Rattle.std.specs.Prelude.{◌≡◌, ℕ, ◌+◌, List, [], ◌∷◌, length, true, false, Option, Some, Ok, Err}
use Rattle.std.proofs.Common.{arith, ap, subst, inl, inr}
use Rattle.cq_base.specs.declared.settings.Settings.{Settings}
use Rattle.cq_chain.specs.Passes.{BoardPass}
use Rattle.cq_io.specs.Causes.{HasCause, Rose}
use Rattle.cq_io.specs.Sending.{Sends}
use Rattle.cq_io.specs.declared.sink.Sink as sink
use Rattle.cq_io.specs.declared.source.Source as source
use Rattle.cq_listen.specs.Endings.{HasEnded, IsServedWith}
use Rattle.cq_listen.specs.Seats.{IsFurnished}
use Rattle.cq_listen.specs.declared.listening.Served.{Served}
use Rattle.cq_program.specs.Statuses.{Ends, EndsUnread, HasListened}
use Rattle.cq_program.specs.declared.status.Status.TheVariants as ended
use Rattle.cq_shared.specs.declared.shared.Shared.{Shared}

pub rose : Rose 0 0 → ⊥
rose (inl more) = omega (arith, more)
rose (inr last) = omega (arith, last)

-- ---- one call of a source or a sink

pub a_call_that_fails_has_its_cause : HasCause {T = ℕ} {E = ℕ} 0 0 (Err 0) → ⊥
a_call_that_fails_has_its_cause h = rose h.failed

pub a_piece_is_sent_whole : Sends {E = ℕ} (Some []) (Some (1 ∷ [])) (1 ∷ 2 ∷ []) (Ok tt) → ⊥
a_piece_is_sent_whole sent = let whole : 1 ∷ [] ≡ 1 ∷ 2 ∷ [] = sent in omega (arith, ap (λ (s : List ℕ). length s) whole)

-- ---- a command over a source and a sink

module _ {S K : Type 0} (from : source.Ghosts S) (onto : sink.Ghosts K) (read read_now : S) (written written_now : K) where
  pub a_read_fault_has_its_cause : from.faults read ≡ 0 → from.faults read_now ≡ 0 → Ends from onto ended.ReadFault read read_now written written_now → ⊥
  a_read_fault_has_its_cause was is says = rose (subst (λ (n : ℕ). Rose n 0) was (subst (λ (n : ℕ). Rose (from.faults read) n) is says))

  pub a_write_fault_has_its_cause : onto.faults written ≡ 0 → onto.faults written_now ≡ 0 → Ends from onto ended.WriteFault read read_now written written_now → ⊥
  a_write_fault_has_its_cause was is says = rose (subst (λ (n : ℕ). Rose n 0) was (subst (λ (n : ℕ). Rose (onto.faults written) n) is says))

  pub a_failed_read_is_not_done : from.faults read ≡ 0 → from.faults read_now ≡ 1 → Ends from onto ended.Done read read_now written written_now → ⊥
  a_failed_read_is_not_done was is says = let same = says.0 in omega (arith, was, is, same)

  pub a_failed_read_refuses_no_file : from.faults read ≡ 0 → from.faults read_now ≡ 1 → Ends from onto ended.FileRefused read read_now written written_now → ⊥
  a_failed_read_refuses_no_file was is says = let same = says.0 in omega (arith, was, is, same)

  pub a_command_that_ran_has_valid_arguments : Ends from onto ended.Arguments read read_now written written_now → ⊥
  a_command_that_ran_has_valid_arguments says = says

-- ---- a command that only writes

module _ {K : Type 0} (onto : sink.Ghosts K) (written written_now : K) where
  pub a_line_that_is_not_written_has_its_cause : onto.faults written ≡ 0 → onto.faults written_now ≡ 0 → EndsUnread onto ended.WriteFault written written_now → ⊥
  a_line_that_is_not_written_has_its_cause was is says = rose (subst (λ (n : ℕ). Rose n 0) was (subst (λ (n : ℕ). Rose (onto.faults written) n) is says))

  pub what_reads_nothing_reads_not_too_much : EndsUnread onto ended.Spent written written_now → ⊥
  what_reads_nothing_reads_not_too_much says = says

-- ---- doors

module _ (address : List ℕ) (bound : Option (List ℕ)) (left left_now : Option ℕ) where
  pub doors_without_a_fault_have_not_failed : HasListened address bound left left_now 0 0 ended.DoorsFault → ⊥
  doors_without_a_fault_have_not_failed says = rose says

  pub doors_with_a_fault_are_not_done : HasListened address bound left left_now 0 1 ended.Done → ⊥
  doors_with_a_fault_are_not_done says = let same = says.2 in omega (arith, same)

  pub serving_without_a_fault_has_not_failed : HasEnded 0 0 left left_now true → ⊥
  serving_without_a_fault_has_not_failed says = rose says

  pub serving_with_a_fault_has_failed : HasEnded 0 1 left left_now false → ⊥
  serving_with_a_fault_has_failed says = let same = says.0 in omega (arith, same)

pub listening_ends_behind_the_last_connection : (address : List ℕ) (bound : Option (List ℕ)) → HasListened address bound (Some 2) (Some 1) 0 0 ended.Done → ⊥
listening_ends_behind_the_last_connection address bound says = let none : Some 1 ≡ Some 0 = says.1 in grind (arith, none)

pub serving_ends_behind_the_last_connection : HasEnded 0 0 (Some 2) (Some 1) false → ⊥
serving_ends_behind_the_last_connection says = let none : Some 1 ≡ Some 0 = says.1 in grind (arith, none)

pub as_many_workers_serve_as_are_asked_for : (set : Settings) (served : Served) → served.workers ≡ 3 → IsServedWith set 4 1 served → ⊥
as_many_workers_serve_as_are_asked_for set served three says = let four = says.workers_are in omega (arith, three, four)

pub a_session_has_the_limit_of_the_settings : {W R : Type 0} (set : Settings) (hub : Shared W R) (p : BoardPass) → IsFurnished set hub p (set.byte_limit + 1) → ⊥
a_session_has_the_limit_of_the_settings set hub p says = let same = says.limit_is in omega (arith, same)

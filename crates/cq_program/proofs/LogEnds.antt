-- What the status of a command says that takes a log, by how the command ended.
use Rattle.std.proofs.Common.{Bool, true, false, List, ℕ, ap, inl, inr}
use Rattle.std.specs.Prelude.{if◌then◌else◌}
use Rattle.cq_base.specs.declared.change.Change.{Change}
use Rattle.cq_base.specs.declared.settings.Settings.{Settings}
use Rattle.cq_io.specs.declared.sink.Sink as sink
use Rattle.cq_io.specs.declared.source.Source as source
use Rattle.cq_lines.specs.declared.ending.End.TheVariants as end
use Rattle.cq_program.specs.Statuses.{Ends, status_of_logged, status_of_shortened}
use Rattle.cq_program.specs.Top.{Logs}
use Rattle.cq_program.specs.declared.status.Status.TheVariants as ended
use Rattle.cq_serve_kept.specs.Continued.{ContinuesWhole, EndsKept, TookLog}
use Rattle.cq_serve_kept.specs.declared.serving.Kept.{Kept}
use Rattle.cq_serve_kept.specs.declared.serving.Kept.TheVariants as logged
use Rattle.cq_shorten.specs.Shortened.{Shortens}
use Rattle.cq_shorten.specs.declared.shortening.Shortened.{Shortened}
use Rattle.cq_shorten.specs.declared.shortening.Shortened.TheVariants as shortened

module _ {S K : Type 0} (from : source.Ghosts S) (onto : sink.Ghosts K) (set : Settings) (read read_now : S) (written written_now : K) where
  abbrev Took : (List ℕ → List Change → Type 0) → Type 0
  Took Holds = TookLog from onto set read read_now written written_now Holds

  -- something weaker holds of the log that was taken
  took_weaker : (Holds Then : List ℕ → List Change → Type 0) → ((mended : List ℕ) (before : List Change) → Holds mended before → Then mended before) → Took Holds → Took Then
  took_weaker Holds Then to is = record { got = is.got; bytes = is.bytes; at_end = is.at_end; front = is.front; held = is.held; holds = to _ _ is.holds }

  logs_served : (failed : Bool) → Took (λ mended before. ContinuesWhole onto set mended before written written_now) → Logs from onto set read read_now written written_now (if failed then ended.DoorsFault else ended.Done)
  logs_served true is = took_weaker _ _ (λ mended before whole. inl whole) is
  logs_served false is = is

  pub logs_kept : (by : Kept) → EndsKept from onto set read read_now written written_now by → Logs from onto set read read_now written written_now (status_of_logged by)
  logs_kept (logged.Served served) is = logs_served served.failed is
  logs_kept logged.Broken is = is
  logs_kept logged.Refused is = is
  logs_kept logged.Spent is = is
  logs_kept logged.ReadFault is = is
  logs_kept logged.Unbound is = took_weaker _ _ (λ mended before same. inr same) is

  pub ended_shortened : (by : Shortened) → Shortens from onto set read read_now written written_now by → Ends from onto (status_of_shortened by) read read_now written written_now
  ended_shortened shortened.Refused is = (is.0.faults, is.1)
  ended_shortened (shortened.Ended end.Finished) is = (is.0.faults, is.2)
  ended_shortened (shortened.Ended end.WriteFault) is = is.5
  ended_shortened (shortened.Ended end.ReadFault) is = is.0
  ended_shortened (shortened.Ended end.Spent) is = (is.0.faults, ap onto.faults is.1)

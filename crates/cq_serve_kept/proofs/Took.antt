-- How a server ended that took a log, by how it ended once the log was taken.
use Rattle.std.proofs.Common.{Bool, ℕ, List, subst}
use Rattle.cq_base.specs.declared.change.Change.{Change}
use Rattle.cq_base.specs.declared.settings.Settings.{Settings}
use Rattle.cq_io.specs.declared.sink.Sink as sink
use Rattle.cq_io.specs.declared.source.Source as source
use Rattle.cq_log.specs.Logs.{front_of}
use Rattle.cq_log.specs.Mending.{mending}
use Rattle.cq_log.specs.Takers.{TakesAll}
use Rattle.cq_serve_kept.specs.Continued.{EndsKept, EndsTaken, TookLog}
use Rattle.cq_serve_kept.specs.declared.serving.Kept.{Kept}
use Rattle.cq_serve_kept.specs.declared.serving.Kept.TheVariants as kept

module _ {T S K : Type 0} (Has : T → Settings → List (List ℕ) → List Change → Type 0) (from : source.Ghosts S) (onto : sink.Ghosts K) (set : Settings) (read read_now : S) (written written_now : K) (t : T) (unclosed torn : Bool) (all : TakesAll Has set (from.rest read) (from.rest read_now) t unclosed torn) where
  took : (Holds : List ℕ → List Change → Type 0) → Holds (mending unclosed torn) all.has.changes → TookLog from onto set read read_now written written_now Holds
  took Holds is = record {
    got = all.got;
    bytes = all.bytes;
    at_end = all.at_end;
    front = front_of all.has.own all.has.changes torn;
    held = all.has.held;
    holds = subst (λ (u : Bool). Holds (mending u torn) all.has.changes) all.unclosed_is is;
  }

  pub ends_kept : (by : Kept) → EndsTaken onto set (mending unclosed torn) all.has.changes written written_now by → EndsKept from onto set read read_now written written_now by
  ends_kept (kept.Served served) is = took _ is
  ends_kept kept.Broken is = took _ is
  ends_kept kept.Unbound is = took _ is
  ends_kept kept.Refused is = absurd is
  ends_kept kept.Spent is = absurd is
  ends_kept kept.ReadFault is = absurd is

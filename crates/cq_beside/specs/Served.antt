-- What a session with workers beside it comes to.
use Rattle.std.specs.Prelude.{◌≡◌, ℕ, ◌+◌, List, []}
use Rattle.cq_base.specs.declared.settings.Settings.{Settings}
use Rattle.cq_cells.specs.Passes.{by_of}
use Rattle.cq_chain.specs.Passes.{BoardPass}
use Rattle.cq_history.specs.declared.event.Event.{Event}
use Rattle.cq_history.specs.Lawful.{Lawful}
use Rattle.cq_io.specs.declared.sink.Sink as sink
use Rattle.cq_io.specs.declared.source.Source as source
use Rattle.cq_lines.specs.Serving.{ServesLines}
use Rattle.cq_lines.specs.declared.ending.End.{End}
use Rattle.cq_reply.specs.Written.{line_of}
use Rattle.cq_session.specs.Costs.{counted}
use Rattle.cq_session.specs.Turn.{CountedTalk}
use Rattle.cq_shared.specs.declared.shared.Shared.{Shared}
use Rattle.cq_shared.specs.SharedPasses.{callers_of}
use Rattle.cq_beside.specs.Replies.{AreWithWorkers}

-- from a source to a sink, for a caller who had seen this history, where so many tokens were read before and now
module _ {S K : Type 0} (from : source.Ghosts S) (onto : sink.Ghosts K) (set : Settings) (callers c : ℕ) (h : List Event) (reads reads_now : ℕ) where
  -- the lines were served by the talk to this history, with so many questions for the windows with a key
  abbrev pub IsTold : List Event → ℕ → ℕ → S → S → K → K → End → Type 0
  IsTold heard asked limit read read_now written written_now by = ServesLines from onto line_of (CountedTalk set callers ⊥ c h (counted reads reads_now 0 asked) heard) limit read read_now written written_now by

  -- they were by a talk to some history, which may be
  pub record IsServed (limit : ℕ) (read read_now : S) (written written_now : K) (by : End) : Type 0 where
    pub heard : List Event
    pub asked : ℕ
    pub lawful : Lawful set callers heard
    pub told : IsTold heard asked limit read read_now written written_now by

-- nothing has happened yet, and no other caller's pass was made
pub record IsFirst {W R : Type 0} (hub : Shared W R) (p : BoardPass) : Type 0 where
  pub none : p.seen ≡ []
  pub first : by_of p ≡ 0
  pub room : p.room + 1 ≡ callers_of hub

-- under a server's settings and over its hub, where the passes of so many workers are split from this one
module _ {S K W R : Type 0} (from : source.Ghosts S) (onto : sink.Ghosts K) (set : Settings) (hub : Shared W R) (p : BoardPass) (workers reads reads_now : ℕ) where
  -- the client, whose pass is split after the workers', was served from what the pass had seen
  abbrev pub ServesClient : ℕ → S → S → K → K → End → Type 0
  ServesClient limit read read_now written written_now by = IsServed from onto set (callers_of hub) (p.next + workers) p.seen reads reads_now limit read read_now written written_now by

  -- and from nothing on, its replies are those that a server may give with workers beside it
  abbrev pub ServesBeside : ℕ → S → S → K → K → End → Type 0
  ServesBeside limit read read_now written written_now by = IsFirst hub p → ServesLines from onto line_of (AreWithWorkers set (callers_of hub) workers reads reads_now) limit read read_now written written_now by

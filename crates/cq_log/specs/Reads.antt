-- Why the lines of a source were not taken to its end.
use Rattle.std.specs.Prelude.{◌≡◌, ℕ, List, length, None}
use Rattle.std.specs.Io.KnownBytes.{Consumes}
use Rattle.cq_base.specs.declared.settings.Settings.{Settings}
use Rattle.cq_io.specs.declared.source.Source as source
use Rattle.cq_lines.specs.Runs.{AreWhole}
use Rattle.cq_log.specs.Logs.{held_in}

module _ {S : Type 0} (from : source.Ghosts S) (set : Settings) where
  -- the lines up to one of them are no log
  pub record ReadsNone (read read_now : S) : Type 0 where
    pub got : List ℕ
    pub bytes : Consumes (from.rest read) (from.rest read_now) got
    pub faults : from.faults read_now ≡ from.faults read
    pub lines : List (List ℕ)
    pub whole : AreWhole set.byte_limit (from.rest read_now) got lines
    pub refused : held_in set lines ≡ None

  -- as many bytes came as may
  pub record ReadsMost (read read_now : S) : Type 0 where
    pub got : List ℕ
    pub bytes : Consumes (from.rest read) (from.rest read_now) got
    pub most : length got ≡ set.byte_limit
    pub faults : from.faults read_now ≡ from.faults read

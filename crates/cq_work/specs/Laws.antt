-- What a reader may rely on of keys.
use Rattle.std.specs.Prelude.{◌≤◌, List, map}
use Rattle.cq_base.specs.declared.settings.Settings.{Settings}
use Rattle.cq_base.specs.declared.norm.Norm.{Norm}
use Rattle.cq_clones.specs.Windows.{AreKeyed}
use Rattle.cq_work.specs.Keys.{window_keys}

-- each window of the files has a key, and equal windows have equal ones
abbrev pub FilesAreKeyedByTheirWindows : Type 0
FilesAreKeyedByTheirWindows = (settings : Settings) (corpus : List (List Norm)) → 1 ≤ settings.chunk → AreKeyed settings.chunk corpus (map (window_keys settings) corpus)

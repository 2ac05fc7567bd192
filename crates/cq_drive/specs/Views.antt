-- The files of one project in a view that a caller has open.
use Rattle.std.specs.Prelude.{◌≡◌, ◌<◌, ℕ, List, Some}
use Rattle.cq_base.specs.Settings.{IsInRange}
use Rattle.cq_base.specs.declared.settings.Settings.{Settings}
use Rattle.cq_board.specs.Related.{AreSameFiles}
use Rattle.cq_core.specs.Cores.{CoreState}
use Rattle.cq_history.specs.Files.{File, files_at}
use Rattle.cq_history.specs.State.{changes_in, view_of}
use Rattle.cq_work.specs.Work.{IsWorkOf}
use Rattle.cq_work.specs.declared.work.Work.{Work}
use Rattle.cq_drive.specs.Cores.{IsDriven}
use Rattle.cq_drive.specs.Script.{callers}

-- the caller has a view open, and the files are those that its version has of one project
pub record IsInView (L : Type 0) (set : Settings) (c : CoreState) (by : ℕ) (files : List (File (Work L))) : Type 0 where
  pub in_range : IsInRange set
  pub driven : IsDriven L set c
  pub caller : by < callers
  pub version : ℕ
  pub opened : view_of c.board.state by ≡ Some version
  pub project : List ℕ
  pub files_are : AreSameFiles (λ lang text work. IsWorkOf set lang text work) (files_at (changes_in c.board.state) version project) files

-- The files of one project in a view that a pass has open.
use Rattle.std.specs.Prelude.{◌≡◌, ℕ, List, map, filter, nat_eq}
use Rattle.std.specs.List.{list_any}
use Rattle.std.specs.Arc.{arc_value}
use Rattle.cq_base.specs.declared.entry.Entry.{Entry}
use Rattle.cq_base.specs.declared.lang.Lang.{Lang}
use Rattle.cq_history.specs.declared.event.Event.{Event}
use Rattle.cq_history.specs.Files.{File}
use Rattle.cq_history.specs.State.{state}
use Rattle.cq_board.specs.declared.listing.View.{View}
use Rattle.cq_projects.specs.Projects.{files_in}
use Rattle.cq_hub.specs.Views.{IsOpen}

-- the keys of each file
abbrev pub keys_in_files : {W : Type 0} → (W → List ℕ) → List (File W) → List (List ℕ)
keys_in_files {W} keys_in files = map (λ (f : File W). keys_in f.body) files

-- those of some entries that changes with these numbers put
abbrev pub entries_of : List ℕ → List Entry → List Entry
entries_of numbers entries = filter (λ e. list_any (nat_eq e.change) numbers) entries

-- the pass has the view open, and the files are those that the view has of one project
pub record IsReady {S P W : Type 0} (Stands : S → P → ℕ → List Event → Type 0) (callers : ℕ) (IsWork : Lang → List ℕ → W → Type 0) (hub : S) (view : View W) (pass : P) (files : List (File W)) : Type 0 where
  pub caller : ℕ
  pub seen : List Event
  pub stands : Stands hub pass caller seen
  pub opened : IsOpen IsWork (state callers seen) caller view
  pub project : List ℕ
  pub files_are : files ≡ files_in (arc_value view.listing).projects project

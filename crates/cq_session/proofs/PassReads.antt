-- One question over a pass that has a view open.
use Rattle.std.proofs.Common.{◌≡◌, ℕ, List, [], take, sym, ap, subst, subst₂, append-nil}
use Rattle.std.specs.Arc.{arc_value}
use Rattle.cq_base.specs.declared.lang.Lang.{Lang}
use Rattle.cq_base.specs.declared.settings.Settings.{Settings}
use Rattle.cq_history.specs.declared.event.Event.{Event}
use Rattle.cq_history.specs.Files.{File, files_at, files_of}
use Rattle.cq_history.specs.State.{state, accepted}
use Rattle.cq_history.specs.Lawful.{Lawful}
use Rattle.cq_history.proofs.Prefixes.{changes_in-state}
use Rattle.cq_board.specs.declared.listing.View.{View}
use Rattle.cq_projects.specs.Projects.{files_in}
use Rattle.cq_board.specs.Related.{AreSameFiles}
use Rattle.cq_hub.specs.Hubs.{Calls, Never}
use Rattle.cq_hub.specs.Views.{IsOpen}
use Rattle.cq_session.specs.Moves.{Later}
use Rattle.cq_session.specs.Moving.{open_stays}
use Rattle.cq_session.specs.Projects.{IsReady}

module _ {S P W : Type 0} (Stands : S → P → ℕ → List Event → Type 0) (settings : S → Settings) (callers : S → ℕ) (alone : Type 0) (IsWork : Settings → Lang → List ℕ → W → Type 0)
    (lawful : (hub : S) (pass : P) (c : ℕ) (h : List Event) → Stands hub pass c h → Lawful (settings hub) (callers hub) h) (hub : S) (v : View W) (old new : P) where
  pub open_again : (c : ℕ) (h : List Event) (Says : List Event → Type 0) → Stands hub old c h → IsOpen (IsWork (settings hub)) (state (callers hub) h) c v → (call : Calls Stands alone Never c hub new h [] Says) → IsOpen (IsWork (settings hub)) (state (callers hub) call.mid) c v
  open_again c h Says stands opened call = open_stays (IsWork (settings hub)) (settings hub) (callers hub) c alone v h call.mid (lawful hub old c h stands) opened call.others

  pub read_later : (c : ℕ) (h : List Event) (Says : List Event → Type 0) → Stands hub old c h → IsOpen (IsWork (settings hub)) (state (callers hub) h) c v → Calls Stands alone Never c hub new h [] Says → Later Stands (callers hub) alone (IsWork (settings hub)) hub v c h new
  read_later c h Says stands opened call = record {
    after = call.mid;
    grows = call.others;
    stands = subst (Stands hub new c) (append-nil call.mid) call.stands;
    opened = open_again c h Says stands opened call;
  }

  -- it is ready again
  pub ready_again : (files : List (File W)) (ready : IsReady Stands (callers hub) (IsWork (settings hub)) hub v old files) (Says : List Event → Type 0) → Calls Stands alone Never ready.caller hub new ready.seen [] Says → IsReady Stands (callers hub) (IsWork (settings hub)) hub v new files
  ready_again files ready Says call =
      let later = read_later ready.caller ready.seen Says ready.stands ready.opened call in
      record { caller = ready.caller; seen = later.after; stands = later.stands; opened = later.opened; project = ready.project; files_are = ready.files_are }

-- the files of an open view are those of its version
pub open_files : {W : Type 0} (IsWork : Lang → List ℕ → W → Type 0) (callers c : ℕ) (h : List Event) (v : View W) (project : List ℕ) (files : List (File W)) → IsOpen IsWork (state callers h) c v → files ≡ files_in (arc_value v.listing).projects project → AreSameFiles IsWork (files_at (accepted h) v.version project) files
open_files IsWork callers c h v project files opened are =
    subst₂ (AreSameFiles IsWork) (ap (λ cs. files_of project (take v.version cs)) (changes_in-state callers h)) (sym are) (opened.shows.files project)

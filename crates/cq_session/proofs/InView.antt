-- A query's reply in an open view.
use Rattle.std.proofs.Common.{◌≡◌, ◌≤◌, ℕ, List, length, take, sym, ap, ◌∙◌, subst, arith}
use Rattle.std.specs.Prelude.{All}
use Rattle.std.specs.Arc.{arc_value}
use Rattle.cq_answer.specs.Versions.{AreOfVersion, HaveVersion}
use Rattle.cq_base.specs.Changes.{IsSoundChange}
use Rattle.cq_base.specs.declared.change.Change.{Change}
use Rattle.cq_base.specs.declared.change.Condition.{Condition}
use Rattle.cq_base.specs.declared.settings.Settings.{Settings}
use Rattle.cq_projects.specs.Projects.{files_in, conditions_in}
use Rattle.cq_board.specs.Related.{AreSameFiles}
use Rattle.cq_board.specs.declared.listing.View.{View}
use Rattle.cq_history.specs.declared.event.Event.{Event}
use Rattle.cq_history.specs.Files.{File, files_at, files_of, conditions_of}
use Rattle.cq_history.specs.Lawful.{Lawful}
use Rattle.cq_history.specs.State.{state, accepted}
use Rattle.cq_history.proofs.Bounds.{in_order}
use Rattle.cq_history.proofs.FewFiles.{files_few}
use Rattle.cq_history.proofs.Limits.{few_kept}
use Rattle.cq_history.proofs.Prefixes.{changes_in-state}
use Rattle.cq_hub.specs.Views.{IsOpen}
use Rattle.cq_work.specs.Work.{IsWorkOf}
use Rattle.cq_work.specs.declared.work.Work.{Work}

module _ {L : Type 0} (set now : Settings) (same : set ≡ now) (callers c : ℕ) (h : List Event) (view : View (Work L)) (project : List ℕ) (files : List (File (Work L))) (conditions : List Condition) (opened : IsOpen (IsWorkOf set) (state callers h) c view)
    (files_are : files ≡ files_in (arc_value view.listing).projects project) (conditions_are : conditions ≡ conditions_in (arc_value view.listing).projects project) where
  files_then : AreSameFiles (IsWorkOf set) (files_at (accepted h) view.version project) (files_in (arc_value view.listing).projects project)
  files_then =
      subst (λ (cs : List Change). AreSameFiles (IsWorkOf set) (files_of project (take view.version cs)) (files_in (arc_value view.listing).projects project)) (changes_in-state callers h) (opened.shows.files project)

  -- its files and conditions are those of its version of the accepted changes
  pub of_version : AreOfVersion now (accepted h) view.version project files conditions
  of_version = subst (λ (s : Settings). AreOfVersion s (accepted h) view.version project files conditions) same (record {
    files_are = subst (λ (fs : List (File (Work L))). AreSameFiles (IsWorkOf set) (files_at (accepted h) view.version project) fs) (sym files_are) files_then;
    conditions_are = conditions_are ∙ opened.shows.conditions project ∙ ap (λ cs. conditions_of project (take view.version cs)) (changes_in-state callers h);
  })

  -- no more of them than may be kept, since its version is no lower than the floor
  few_then : Lawful set callers h → length (files_at (accepted h) view.version project) ≤ now.change_limit
  few_then law =
      let floor = (state callers h).floor in
      let low = ((in_order set callers h law).views c view.version opened.version).0 in
      let most = files_few (accepted h) floor view.version project low in
      let room = (few_kept set callers h law).0 in
      subst (λ (s : Settings). length (files_at (accepted h) view.version project) ≤ s.change_limit) same (omega (arith, most, room))

  pub have_version : Lawful set callers h → All IsSoundChange (accepted h) → HaveVersion now view.version project files conditions
  have_version law sound = record { changes = accepted h; sound = sound; few = few_then law; are = of_version }

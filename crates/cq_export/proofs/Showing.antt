-- What a view of all changes shows of a project.
use Rattle.std.proofs.Common.{◌≡◌, ℕ, List, length, take, sym, ap, ◌∙◌, subst, arith}
use Rattle.std.specs.Arc.{arc_value}
use Rattle.std.proofs.lemmas.List.{take_all}
use Rattle.cq_base.specs.declared.change.Change.{Change}
use Rattle.cq_base.specs.declared.settings.Settings.{Settings}
use Rattle.cq_board.specs.Answers.{IsViewOf}
use Rattle.cq_board.specs.Listings.{IsListing}
use Rattle.cq_board.specs.Related.{AreSameFiles}
use Rattle.cq_board.specs.Stands.{BoardState}
use Rattle.cq_board.specs.declared.listing.View.{View}
use Rattle.cq_export.specs.Boards.{IsPublished, IsViewOfAll}
use Rattle.cq_history.specs.Files.{File, files_of, conditions_of}
use Rattle.cq_history.specs.State.{changes_in}
use Rattle.cq_tokask.specs.Exported.{IsOfChanges}
use Rattle.cq_projects.specs.Projects.{files_in, conditions_in}
use Rattle.cq_tokfile.specs.declared.snapshot.Snapshot.{Snapshot}
use Rattle.cq_work.specs.Work.{IsWorkOf}
use Rattle.cq_work.specs.declared.work.Work.{Work}

all_of : (changes : List Change) → take (length changes) changes ≡ changes
all_of changes = take_all (length changes) changes (omega arith)

pub shows_all : {L : Type 0} (set : Settings) (changes : List Change) (b : BoardState) (view : View (Work L)) → IsPublished set changes b → view.version ≡ b.state.published → IsViewOf (IsWorkOf b.settings) b.state view → IsViewOfAll set changes view
shows_all set changes b view published version shows =
    let number : view.version ≡ length changes = version ∙ published.published in
    let at : take view.version (changes_in b.state) ≡ changes = ap (take view.version) published.changes_are ∙ ap (λ (n : ℕ). take n changes) number ∙ all_of changes in
    record {
      version_is = number;
      shows = subst (λ (s : Settings). IsListing (IsWorkOf s) changes (arc_value view.listing)) published.settings_are (subst (λ (cs : List Change). IsListing (IsWorkOf b.settings) cs (arc_value view.listing)) at shows);
    }

pub shown_of : {L : Type 0} (set : Settings) (changes : List Change) (project : List ℕ) (view : View (Work L)) (s : Snapshot L) → IsViewOfAll set changes view → s.version ≡ view.version → s.project ≡ project
    → s.files ≡ files_in (arc_value view.listing).projects project → s.conditions.items ≡ conditions_in (arc_value view.listing).projects project → IsOfChanges set changes project s
shown_of {L} set changes project view s all version project_is files conditions = record {
  version_is = version ∙ all.version_is;
  project_is = project_is;
  are = record {
    files_are = subst (λ (fs : List (File (Work L))). AreSameFiles (IsWorkOf set) (files_of project (take (length changes) changes)) fs) (sym files)
        (subst (λ (cs : List Change). AreSameFiles (IsWorkOf set) (files_of project cs) (files_in (arc_value view.listing).projects project)) (sym (all_of changes)) (all.shows.files project));
    conditions_are = conditions ∙ all.shows.conditions project ∙ ap (conditions_of project) (sym (all_of changes));
  };
}

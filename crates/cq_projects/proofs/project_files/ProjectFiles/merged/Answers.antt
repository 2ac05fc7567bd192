use Rattle.std.proofs.Common.{List, sym, ap, ◌∙◌, subst}
use Rattle.std.specs.Arc.{arc_value}
use Rattle.std.proofs.Common.{map}
use Rattle.cq_history.specs.Files.{File}
use Rattle.cq_projects.specs.Drafts.{AreCut, edited_named, files_at}
use Rattle.cq_projects.specs.Spotted.{AreApartIn}
use Rattle.cq_projects.specs.Projects.{path_of}
use Rattle.cq_projects.specs.Ordered.{AreRising}
use Rattle.cq_projects.proofs.Gathering.{all_rise}
use Rattle.cq_projects.proofs.project_files.ProjectFiles.merged.Goals as goal

pub merged-requires-2-clause-cut : goal.merged-requires-2-clause-cut
merged-requires-2-clause-cut g c = subst (λ (fs : List (File g.row.W.Denot)). AreCut fs c.args.paths.entries) (sym c.self.view_is) c.requires.cut

pub guessed-requires-clause-rising : goal.guessed-requires-clause-rising
guessed-requires-clause-rising g c =
    subst (AreRising path_of) (sym c.in_ok-items.ensures) (all_rise (files_at c.args.paths.entries) (map arc_value c.self.inside.items.items) c.self.invariant.rising)

pub guessed-requires-clause-apart : goal.guessed-requires-clause-apart
guessed-requires-clause-apart g c =
    subst AreApartIn (sym (c.in_ok-items.ensures ∙ ap (edited_named c.args.paths.entries) c.self.view_is)) c.requires.apart

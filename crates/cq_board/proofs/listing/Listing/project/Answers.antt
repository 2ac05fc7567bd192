use Rattle.std.proofs.Common.{List, Global, ap, subst, ◌∙◌}
use Rattle.std.specs.declared.sync.Arc.{Arc}
use Rattle.cq_board.specs.Listings.{Listed}
use Rattle.cq_projects.specs.Projects.{owner_name, files_in, ListedProject}
use Rattle.cq_projects.specs.Ordered.{IsAt, IsGap}
use Rattle.cq_board.proofs.Reading.{files_found, files_absent}
use Rattle.cq_board.proofs.listing.Listing.project.Goals as goal

pub returns-in-Ok : goal.returns-in-Ok
returns-in-Ok g c =
    ap (λ (p : ListedProject g.row.W.Denot). p.files) (c.behind-index.view_is ∙ c.deref-in-Ok.ensures)
    ∙ files_found c.args.name.now c.self.inside.projects.items c.in-Ok.i (subst (λ (ps : List (Arc (ListedProject g.row.W.Denot) Global)). IsAt owner_name c.args.name.now ps c.in-Ok.i) c.deref.ensures.value c.in-Ok.ensures.found) c.index.result.now c.index.ensures
    ∙ ap (λ (l : Listed g.row.W.Denot). files_in l.projects c.args.name.now) c.self.view_is

pub returns-in-Err : goal.returns-in-Err
returns-in-Err g c =
    c.self.invariant.1
    ∙ files_absent c.args.name.now c.self.inside.projects.items c.in-Err.field-0 (subst (λ (ps : List (Arc (ListedProject g.row.W.Denot) Global)). IsGap owner_name c.args.name.now ps c.in-Err.field-0) c.deref.ensures.value c.in-Err.ensures.gap)
    ∙ ap (λ (l : Listed g.row.W.Denot). files_in l.projects c.args.name.now) c.self.view_is

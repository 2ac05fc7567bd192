use Rattle.std.proofs.Common.{Global, List, Some, None, sym, subst}
use Rattle.std.specs.declared.sync.Arc.{Arc}
use Rattle.cq_history.specs.Files.{File}
use Rattle.cq_projects.specs.Projects.{path_in}
use Rattle.cq_projects.specs.Ordered.{AreRising, IsAt, IsGap}
use Rattle.cq_projects.specs.Spotted.{IsPositionOfPath}
use Rattle.cq_projects.proofs.OwnerLists.{rising_held}
use Rattle.cq_projects.proofs.SpottedFiles.{path_at, path_nowhere}
use Rattle.cq_projects.proofs.project_files.ProjectFiles.position_of_path.Goals as goal

pub find-requires : goal.find-requires
find-requires g c = subst (AreRising path_in) (sym c.deref.ensures.value) (rising_held c.self.inside.items.items c.self.invariant.rising)

pub returns-in-Ok : goal.returns-in-Ok
returns-in-Ok g c =
    subst (λ (fs : List (File g.row.W.Denot)). IsPositionOfPath fs c.args.path.now (Some c.in-Ok.i)) c.self.view_is
    (path_at c.args.path.now c.self.inside.items.items c.in-Ok.i (subst (λ (hs : List (Arc (File g.row.W.Denot) Global)). IsAt path_in c.args.path.now hs c.in-Ok.i) c.deref.ensures.value c.in-Ok.ensures.found))

pub returns-in-Err : goal.returns-in-Err
returns-in-Err g c =
    subst (λ (fs : List (File g.row.W.Denot)). IsPositionOfPath fs c.args.path.now None) c.self.view_is
    (path_nowhere c.args.path.now c.self.inside.items.items c.in-Err.field-0 (subst (λ (hs : List (Arc (File g.row.W.Denot) Global)). IsGap path_in c.args.path.now hs c.in-Err.field-0) c.deref.ensures.value c.in-Err.ensures.gap))

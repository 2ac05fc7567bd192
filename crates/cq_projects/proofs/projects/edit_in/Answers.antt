use Rattle.std.specs.Arc.{arc_value}
use Rattle.std.proofs.Common.{List, ◌≡◌, sym, ap, subst}
use Rattle.std.specs.Prelude.{IfOk}
use Rattle.std.proofs.lemmas.Result.{on_ok_weaker, on_err_weaker}
use Rattle.cq_history.specs.Files.{File}
use Rattle.cq_projects.specs.Projects.{ListedProject}
use Rattle.cq_projects.specs.Edits.{edited_files, edited_conditions, replaced_by, IsNewer}
use Rattle.cq_projects.proofs.Editing.{names_stay, files_here, files_edited, files_same, conditions_edited, conditions_same}
use Rattle.cq_projects.proofs.projects.edit_in.Goals as goal

pub edit_shared-requires : goal.edit_shared-requires
edit_shared-requires g c = record {
  newer = subst (IsNewer c.args.edit) (sym (files_here (arc_value c.args.name.now) c.args.projects.now.items c.project_at.new.projects.items c.in_ok-i.i c.in_ok-i.ensures.first c.in_ok-i.ensures.within c.index_mut.result.now c.index_mut.ensures.value c.project_at.ensures.files)) c.requires.newer;
}

pub returns-clause-names : goal.returns-clause-names
returns-clause-names g c = names_stay (arc_value c.args.name.now) c.args.projects.now.items c.project_at.new.projects.items c.in_ok-i.i c.in_ok-i.ensures.first c.in_ok-i.ensures.within c.index_mut.result.now c.index_mut.ensures.value c.edit_shared.new.project c.edit_shared.ensures.name c.project_at.ensures.names

pub returns-clause-number : goal.returns-clause-number
returns-clause-number g c = subst (λ (fs : List (File g.row.W.Denot)). IfOk c.edit_shared.result (λ n. n ≡ replaced_by c.args.edit fs)) (files_here (arc_value c.args.name.now) c.args.projects.now.items c.project_at.new.projects.items c.in_ok-i.i c.in_ok-i.ensures.first c.in_ok-i.ensures.within c.index_mut.result.now c.index_mut.ensures.value c.project_at.ensures.files) c.edit_shared.ensures.number

pub returns-clause-files : goal.returns-clause-files
returns-clause-files g c = on_ok_weaker c.edit_shared.result (files_edited (arc_value c.args.name.now) c.args.projects.now.items c.project_at.new.projects.items c.in_ok-i.i c.in_ok-i.ensures.first c.in_ok-i.ensures.within c.index_mut.result.now c.index_mut.ensures.value c.project_at.ensures.files c.edit_shared.new.project (edited_files c.args.edit) c.edit_shared.ensures.name) c.edit_shared.ensures.files

pub returns-clause-conditions : goal.returns-clause-conditions
returns-clause-conditions g c = on_ok_weaker c.edit_shared.result (conditions_edited (arc_value c.args.name.now) c.args.projects.now.items c.project_at.new.projects.items c.in_ok-i.i c.in_ok-i.ensures.first c.in_ok-i.ensures.within c.index_mut.result.now c.index_mut.ensures.value c.project_at.ensures.conditions c.edit_shared.new.project (edited_conditions c.args.edit) c.edit_shared.ensures.name) c.edit_shared.ensures.conditions

pub returns-clause-same_files : goal.returns-clause-same_files
returns-clause-same_files g c = on_err_weaker c.edit_shared.result (λ same. files_same (arc_value c.args.name.now) c.args.projects.now.items c.project_at.new.projects.items c.in_ok-i.i c.in_ok-i.ensures.first c.in_ok-i.ensures.within c.index_mut.result.now c.index_mut.ensures.value c.project_at.ensures.files c.edit_shared.new.project c.edit_shared.ensures.name (ap (λ (p : ListedProject g.row.W.Denot). p.files) same)) c.edit_shared.ensures.unchanged

pub returns-clause-same_conditions : goal.returns-clause-same_conditions
returns-clause-same_conditions g c = on_err_weaker c.edit_shared.result (λ same. conditions_same (arc_value c.args.name.now) c.args.projects.now.items c.project_at.new.projects.items c.in_ok-i.i c.in_ok-i.ensures.first c.in_ok-i.ensures.within c.index_mut.result.now c.index_mut.ensures.value c.project_at.ensures.conditions c.edit_shared.new.project c.edit_shared.ensures.name (ap (λ (p : ListedProject g.row.W.Denot). p.conditions) same)) c.edit_shared.ensures.unchanged

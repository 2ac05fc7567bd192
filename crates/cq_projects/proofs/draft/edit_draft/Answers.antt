use Rattle.std.proofs.Common.{◌≡◌, List, cond, sym, ap, ◌∙◌, subst}
use Rattle.std.specs.Arc.{arc_value}
use Rattle.std.specs.Prelude.{IfOk}
use Rattle.std.specs.Str.{bytes_eq}
use Rattle.std.proofs.lemmas.Result.{on_ok_weaker}
use Rattle.cq_base.specs.declared.change.Condition.{Condition}
use Rattle.cq_history.specs.Files.{File}
use Rattle.cq_projects.specs.Edits.{edited_files, edited_conditions, replaced_by}
use Rattle.cq_projects.specs.Projects.{name_in}
use Rattle.cq_projects.proofs.OwnerLists.{rising_set}
use Rattle.cq_projects.proofs.ProjectLists.{files_at-position, put_at, gate_at}
use Rattle.cq_projects.proofs.Editing.{ok_both}
use Rattle.cq_projects.proofs.draft.edit_draft.Goals as goal

pub returns-clause-names : goal.returns-clause-names
returns-clause-names g c =
    on_ok_weaker c.edit.result (λ named. rising_set name_in c.draft_at.new.drafts.items c.in_ok-i.i c.index_mut.result.now c.edit.new.self c.in_ok-i.ensures.within c.index_mut.ensures.value named c.draft_at.ensures.names) c.edit.ensures.name

pub returns-clause-number : goal.returns-clause-number
returns-clause-number g c =
    let here = sym (files_at-position (arc_value c.args.name.now) c.draft_at.new.drafts.items c.in_ok-i.i c.index_mut.result.now c.in_ok-i.ensures.first c.in_ok-i.ensures.within c.index_mut.ensures.value).1 ∙ c.draft_at.ensures.files (arc_value c.args.name.now) in
    subst (λ (fs : List (File g.row.W.Denot)). IfOk c.edit.result (λ n. n ≡ replaced_by c.args.edit fs)) here c.edit.ensures.number

pub returns-clause-files : goal.returns-clause-files
returns-clause-files g c =
    ok_both c.edit.result
    (λ named done q. put_at (arc_value c.args.name.now) c.draft_at.new.drafts.items c.in_ok-i.i c.index_mut.result.now c.edit.new.self (edited_files c.args.edit) c.in_ok-i.ensures.first c.in_ok-i.ensures.within c.index_mut.ensures.value named done q
    ∙ ap (λ (fs : List (File g.row.W.Denot)). cond (bytes_eq q (arc_value c.args.name.now)) (edited_files c.args.edit fs) fs) (c.draft_at.ensures.files q))
    c.edit.ensures.name c.edit.ensures.files

pub returns-clause-conditions : goal.returns-clause-conditions
returns-clause-conditions g c =
    ok_both c.edit.result
    (λ named done q. gate_at (arc_value c.args.name.now) c.draft_at.new.drafts.items c.in_ok-i.i c.index_mut.result.now c.edit.new.self (edited_conditions c.args.edit) c.in_ok-i.ensures.first c.in_ok-i.ensures.within c.index_mut.ensures.value named done q
    ∙ ap (λ (cs : List Condition). cond (bytes_eq q (arc_value c.args.name.now)) (edited_conditions c.args.edit cs) cs) (c.draft_at.ensures.conditions q))
    c.edit.ensures.name c.edit.ensures.conditions

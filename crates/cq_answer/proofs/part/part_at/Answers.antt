use Rattle.std.proofs.Common.{◌≡◌, rules, Some, refl, arith, sym, ap, ◌∙◌}
use Rattle.std.proofs.lemmas.List.{length-map}
use Rattle.std.proofs.lemmas.Option.{slice_get_within}
use Rattle.cq_history.specs.Files.{File}
use Rattle.cq_work.specs.declared.work.Work.{Work}
use Rattle.cq_answer.specs.Parts.{file_part, part_at}
use Rattle.cq_answer.specs.Works.{paths_in}
use Rattle.cq_answer.proofs.Rows.{position_is}
use Rattle.cq_answer.proofs.part.part_at.Goals as goal

pub returns-in-Some-position_of_path-clause-part : goal.returns-in-Some-position_of_path-clause-part
returns-in-Some-position_of_path-clause-part g c =
    let asked : c.args.path.now ≡ Some c.in-Some.path = search rules in
    ap file_part (position_is (paths_in c.args.files.now) c.in-Some.path _ c.in-Some-position_of_path.ensures) ∙ ap (part_at (paths_in c.args.files.now)) (sym asked)

pub returns-in-Some-position_of_path-clause-within : goal.returns-in-Some-position_of_path-clause-within
returns-in-Some-position_of_path-clause-within g c =
    let within = slice_get_within (paths_in c.args.files.now) c.in-Some-position_of_path.file c.in-Some.path ((c.in-Some-position_of_path.ensures c.in-Some-position_of_path.file).0 refl) in
    omega (arith, within, length-map c.args.files.now (λ (f : File (Work g.row.L.Denot)). f.path))

pub returns-in-None-clause-part : goal.returns-in-None-clause-part
returns-in-None-clause-part g c =
    let asked : c.args.path.now ≡ Some c.in-Some.path = search rules in
    ap file_part (position_is (paths_in c.args.files.now) c.in-Some.path _ c.in-None.ensures) ∙ ap (part_at (paths_in c.args.files.now)) (sym asked)

use Rattle.std.proofs.Common.{◌≡◌, true, sym, ◌∙◌, rules}
use Rattle.std.proofs.lemmas.Result.{IfOk-weaker}
use Rattle.cq_answer.specs.Parts.{chooses_all}
use Rattle.cq_answer.specs.Works.{works_in}
use Rattle.cq_answer.proofs.Chosen.{whole_of_all}
use Rattle.cq_answer.proofs.measuring.measures_of_whole.Goals as goal

pub returns-then-is_of_all : goal.returns-then-is_of_all
returns-then-is_of_all g c =
    let q = c.args.query.now in
    let all : chooses_all q.scope q.since ≡ true = search rules in
    IfOk-weaker c.measures_of_all.result _ _ (λ m is. is ∙ sym (whole_of_all (works_in c.args.files.now) q c.args.groups.now all c.requires.numbered c.requires.measurable.inside)) c.measures_of_all.ensures

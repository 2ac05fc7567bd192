use Rattle.std.proofs.Common.{◌≡◌, Bool, true, cond, sym, ap, ◌∙◌}
use Rattle.std.proofs.lemmas.Result.{IfOk-weaker}
use Rattle.cq_base.specs.Measures.{no_measures}
use Rattle.cq_measures.specs.Measures.{file_measures}
use Rattle.cq_answer.specs.Works.{works_in, facts_in, chosen_in}
use Rattle.cq_answer.proofs.measuring.measures_of_file.Goals as goal

pub returns-then-is_chosen : goal.returns-then-is_chosen
returns-then-is_chosen g c =
    let facts = facts_in (works_in c.args.files.now) in
    let chosen : chosen_in (works_in c.args.files.now) c.args.query.now c.args.file ≡ true = sym c.in_ok-is_chosen.ensures ∙ c.if-is_chosen.true in
    IfOk-weaker c.measures_at.result _ _ (λ m is. is ∙ sym (ap (λ (b : Bool). cond b (file_measures facts.counts facts.spans c.args.file c.args.groups.now) no_measures) chosen)) c.measures_at.ensures

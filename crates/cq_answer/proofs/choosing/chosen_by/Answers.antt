use Rattle.std.proofs.Common.{List, ℕ, Option, ap, ◌∙◌, arith}
use Rattle.std.proofs.lemmas.Result.{IfOk-weaker}
use Rattle.cq_scope.specs.Chosen.{chosen}
use Rattle.cq_answer.specs.Works.{works_in}
use Rattle.cq_answer.proofs.choosing.chosen_by.Goals as goal

pub choose-requires : goal.choose-requires
choose-requires g c = omega (arith, c.requires.few)

pub returns-clause-chosen : goal.returns-clause-chosen
returns-clause-chosen g c =
    let q = c.args.query.now in
    let scope = c.as_ref.ensures.value ∙ c.in_ok-scope.ensures in
    IfOk-weaker c.choose.result _ _ (λ v is. is ∙ ap (λ (s : Option (List ℕ)). chosen s q.since (works_in c.args.files.now)) scope) c.choose.ensures.chosen

use Rattle.std.proofs.Common.{◌∙◌, List, ap, ap₂}
use Rattle.std.proofs.lemmas.Result.{IfOk-weaker}
use Rattle.cq_base.specs.declared.measures.FileCounts.{FileCounts}
use Rattle.cq_base.specs.declared.token.Token.{Token}
use Rattle.cq_measures.specs.Measures.{counts_of, spans_of, project_measures}
use Rattle.cq_answer.proofs.measuring.measures_of_all.Goals as goal

pub returns : goal.returns
returns g c =
    let counts = ap counts_of c.deref.ensures.value ∙ c.in_ok-lines_of.ensures.counts in
    let spans = ap spans_of c.deref.ensures.value ∙ c.in_ok-lines_of.ensures.spans in
    IfOk-weaker c.project_measures.result _ _ (λ m is. is ∙ ap₂ (λ (cs : List FileCounts) (ss : List (List Token)). project_measures cs ss c.args.groups.now) counts spans) c.project_measures.ensures

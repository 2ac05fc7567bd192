use Rattle.std.proofs.Common.{◌≡◌, Bool, true, cond, Some, None, sym, ap, ◌∙◌, subst, rules}
use Rattle.std.proofs.lemmas.Result.{IfOk-weaker}
use Rattle.cq_answer.specs.Parts.{IsPattern}
use Rattle.cq_names.specs.Names.{is_path}
use Rattle.cq_answer.proofs.choosing.pattern_of.Goals as goal

pub returns-in-Some : goal.returns-in-Some
returns-in-Some c =
    let scope : c.args.scope.now ≡ Some c.in-Some.text = search rules in
    let path : is_path c.in-Some.text ≡ true = subst IsPattern scope c.requires in
    IfOk-weaker c.read.result _ _ (λ p is. is ∙ ap (λ (b : Bool). cond b (Some c.in-Some.text) None) path ∙ sym scope) c.read.ensures

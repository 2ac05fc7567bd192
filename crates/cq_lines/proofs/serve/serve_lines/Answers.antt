use Rattle.std.proofs.Common.{◌≡◌, refl, sym, subst}
use Rattle.cq_lines.proofs.Serving.{serves_as, serves_by}
use Rattle.cq_lines.proofs.serve.serve_lines.Goals as goal

pub returns-clause-served : goal.returns-clause-served
returns-clause-served g c = λ from begins.
    let now = c.serve_lines_until.new.answers in
    let first = c.args.answers in
    let (name, none, served) = serves_by g.A.Answers.line_of (λ (name : now.answers.ghost_name ≡ c.unstopped-1.given). Unit {0}) (λ (name : now.answers.ghost_name ≡ c.unstopped-1.given). g.A.Answers.AreReplies from first.now now.answers.now) _ _ _ _ _ _
    (serves_as g.A.Answers.line_of _ _ (λ lines replies is. (is.1, tt, is.0)) _ _ _ _ _ _ (c.in-Ok.ensures.served from (begins, refl))) in
    let answers_is = c.answers-1.given.1 (sym name) in
    serves_as g.A.Answers.line_of _ _ (λ lines replies is. subst (λ (a : g.row.A.Denot). g.A.Answers.AreReplies from first.now a lines replies) (sym answers_is) is) _ _ _ _ _ _ served

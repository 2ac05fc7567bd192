use Rattle.std.proofs.Common.{[], ◌∷◌, ◌++◌, ap, ◌∙◌}
use Rattle.cq_reply.proofs.Read.{text_made}
use Rattle.cq_make.specs.Summary.{summary_data}
use Rattle.cq_make.proofs.summary.summary_line.Goals as goal

pub returns : goal.returns
returns c =
    let d = summary_data c.args.groups c.args.measures.now c.args.tokens c.args.version in
    let text = c.into_inner-line.ensures.items ∙ text_made d _ _ c.in_ok-write_summary.ensures.adds (c.new-out.ensures.before ∙ c.in_ok-with_capacity.ensures.items) c.new-out.ensures.tokens in
    c.from_vec.ensures ∙ (c.in_ok-push.ensures.items ∙ ap (λ t. t ++ 10 ∷ []) text)

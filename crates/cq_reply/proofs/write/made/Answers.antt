use Rattle.std.proofs.Common.{[], ◌∷◌, ◌++◌, ap, ◌∙◌}
use Rattle.serde_json.specs.Written.{compact_text}
use Rattle.cq_reply.specs.Written.{reply_data}
use Rattle.cq_reply.proofs.Depths.{reply_depth}
use Rattle.cq_reply.proofs.Read.{text_read, text_made, lexed_made}
use Rattle.cq_reply.proofs.write.made.Goals as goal

pub returns-clause-line : goal.returns-clause-line
returns-clause-line c =
    let d = reply_data c.args.reply.now in
    let text = c.into_inner-line.ensures.items ∙ text_made d _ _ c.in_ok-write_reply.ensures.adds (c.new-out.ensures.before ∙ c.in_ok-with_capacity.ensures.items) c.new-out.ensures.tokens in
    c.from_vec.ensures ∙ (c.in_ok-push.ensures.items ∙ ap (λ t. t ++ 10 ∷ []) text)

pub returns-clause-reads_back : goal.returns-clause-reads_back
returns-clause-reads_back c =
    let d = reply_data c.args.reply.now in
    let wrote = c.in_ok-write_reply.ensures in
    let text = c.into_inner-line.ensures.items ∙ text_made d _ _ wrote.adds (c.new-out.ensures.before ∙ c.in_ok-with_capacity.ensures.items) c.new-out.ensures.tokens in
    record {
      text = compact_text d;
      line_is = c.from_vec.ensures ∙ (c.in_ok-push.ensures.items ∙ ap (λ t. t ++ 10 ∷ []) text);
      reads = text_read d (lexed_made d _ _ wrote.adds c.new-out.ensures.tokens c.into_inner-line.ensures.reads_back) wrote.reads (reply_depth c.args.reply.now);
    }

use Rattle.std.proofs.Common.{◌≡◌, refl, ◌∙◌, rules}
use Rattle.cq_normal.specs.Kept.{spans_of}
use Rattle.cq_work.specs.Counts.{early_counts, completed_counts}
use Rattle.cq_work.specs.Lexing.{tokens_in, marks_in, kept_in, state_of}
use Rattle.cq_work.proofs.Counted.{same_counts}
use Rattle.cq_work.proofs.work.work_of.Goals as goal

pub returns : goal.returns
returns g c =
    let answer = c.in_ok-answer.answer in
    let early : c.in_ok-early.early ≡ early_counts c.args.lang (state_of answer) (tokens_in answer) (marks_in answer) = search rules in
    let listed : c.deref-5.result.now ≡ spans_of (kept_in answer) = search rules in
    record {
      answer = answer;
      lexes = c.in_ok-answer.ensures.lexes;
      shows = record {
        lang_is = refl;
        state_is = c.state_of-state.ensures;
        spans_are = search rules;
        tokens_are = search rules;
        keys_are = search rules;
        counts_are = c.in_ok-counts.ensures.counts ∙ (λ i. completed_counts c.args.text.now (early i) (listed i)) ∙ same_counts c.args.lang c.args.text.now answer;
        functions_are = search rules;
        small = c.in_ok-counts.ensures.small;
        few = c.in_ok-answer.ensures.few;
      };
    }

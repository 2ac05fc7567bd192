use Rattle.std.proofs.Common.{ℕ, List, ◌++◌, ◌∷◌, [], ap, ◌∙◌}
use Rattle.std.specs.Int.{w64, to_be_bytes}
use Rattle.cq_tokform.specs.Spelling.{text, language, outcome, counts}
use Rattle.cq_tokform.proofs.Appended.{five}
use Rattle.cq_tokform.proofs.file.put_front.Goals as goal

pub returns-clause-written : goal.returns-clause-written
returns-clause-written c =
    five _ _ _ _ _ _ (text c.args.path.now) (to_be_bytes w64 c.args.change) (language c.args.lang) (outcome c.args.state) (counts c.args.counts)
    (c.in_ok-put_text.ensures.written ∙ ap (λ (path : List ℕ). c.args.out.now.items ++ text path) c.as_bytes.ensures) c.in_ok-put_u64.ensures.written (c.in_ok-put_u8.ensures.written ∙ ap (λ (b : ℕ). c.put_u64.new.out.items ++ b ∷ []) c.code.ensures) c.in_ok-put_state.ensures.written c.in_ok-put_counts.ensures.written

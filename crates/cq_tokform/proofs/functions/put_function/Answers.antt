use Rattle.std.proofs.Common.{ℕ, List, ◌++◌, ap, ◌∙◌}
use Rattle.std.specs.Int.{w32, to_be_bytes}
use Rattle.cq_tokform.specs.Spelling.{text}
use Rattle.cq_tokform.proofs.Appended.{four}
use Rattle.cq_tokform.proofs.functions.put_function.Goals as goal

pub returns-clause-written : goal.returns-clause-written
returns-clause-written c = four _ _ _ _ _ (text c.args.function.now.name) (to_be_bytes w32 c.args.function.now.first) (to_be_bytes w32 c.args.function.now.last) (to_be_bytes w32 c.args.function.now.complexity)
    (c.in_ok-put_text.ensures.written ∙ ap (λ (name : List ℕ). c.args.out.now.items ++ text name) c.as_bytes.ensures) c.in_ok-put_u32.ensures.written c.in_ok-put_u32-2.ensures.written c.in_ok-put_u32-3.ensures.written

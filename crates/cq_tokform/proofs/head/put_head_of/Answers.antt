use Rattle.std.proofs.Common.{ℕ, List, ◌++◌, ◌∷◌, [], ap, ◌∙◌}
use Rattle.std.specs.Int.{w32, w64, to_be_bytes}
use Rattle.cq_tokform.specs.Spelling.{text, flag}
use Rattle.cq_tokform.proofs.Appended.{five}
use Rattle.cq_tokform.proofs.head.put_head_of.Goals as goal

pub returns-clause-written : goal.returns-clause-written
returns-clause-written c = five _ _ _ _ _ _ (to_be_bytes w64 c.args.version) (to_be_bytes w32 c.args.settings.now.chunk) (flag c.args.settings.now.ignore_ids ∷ []) (flag c.args.settings.now.ignore_lits ∷ []) (text c.args.project.now)
    c.in_ok-put_u64.ensures.written c.in_ok-put_u32.ensures.written
    (c.in_ok-put_u8.ensures.written ∙ ap (λ (b : ℕ). c.put_u32.new.out.items ++ b ∷ []) c.flag.ensures)
    (c.in_ok-put_u8-2.ensures.written ∙ ap (λ (b : ℕ). c.put_u8.new.out.items ++ b ∷ []) c.flag-2.ensures)
    (c.in_ok-put_text.ensures.written ∙ ap (λ (name : List ℕ). c.put_u8-2.new.out.items ++ text name) c.as_bytes.ensures)

use Rattle.std.proofs.Common.{◌∙◌, ◌∷◌, [], ap, ◌++◌}
use Rattle.std.specs.Int.{w32, to_be_bytes}
use Rattle.cq_base.specs.Tables.{class_code}
use Rattle.cq_tokform.proofs.Appended.{five}
use Rattle.cq_tokform.proofs.tokens.put_place.Goals as goal

pub returns-clause-written : goal.returns-clause-written
returns-clause-written c = five _ _ _ _ _ _ (class_code c.args.token.class ∷ []) (to_be_bytes w32 c.args.token.start) (to_be_bytes w32 c.args.token.len) (to_be_bytes w32 c.args.token.first_line) (to_be_bytes w32 c.args.token.last_line)
    (c.in_ok-put_u8.ensures.written ∙ ap (λ b. c.args.out.now.items ++ b ∷ []) c.code.ensures) c.in_ok-put_u32.ensures.written c.in_ok-put_u32-2.ensures.written c.in_ok-put_u32-3.ensures.written c.in_ok-put_u32-4.ensures.written

use Rattle.std.proofs.Common.{◌-◌, arith}
use Rattle.cq_lex_java.proofs.Spans.{at_within, first_before}
use Rattle.cq_lex_java.proofs.translation.spanning.Goals as goal

pub overflow_add-result : goal.overflow_add-result
overflow_add-result c =
    let within = at_within c.args.units.now (c.args.len - 1) 0 1048576 (omega (arith, c.requires.some, c.requires.within)) c.requires.in_order in omega (arith, within.1)

pub overflow_sub-result : goal.overflow_sub-result
overflow_sub-result c =
    let less = first_before c.args.units.now (c.args.len - 1) 0 1048576 (omega (arith, c.requires.some, c.requires.within)) c.requires.in_order in omega (arith, less)

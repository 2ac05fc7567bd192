use Rattle.std.proofs.Common.{rules}
use Rattle.cq_func.specs.Names.{c_function}
use Rattle.cq_func.proofs.Listed.{kept_more}
use Rattle.cq_func.proofs.c.c_functions.Goals as goal

pub loop-name-preserved : goal.loop-name-preserved
loop-name-preserved c = let next = kept_more (c_function c.args.tokens.now) c.loop-name.name c.loop-name.found.items _ c.loop-name.invariant c.c_function.ensures in search (rules, next)

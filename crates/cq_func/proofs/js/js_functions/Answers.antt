use Rattle.std.proofs.Common.{rules}
use Rattle.cq_func.specs.Names.{js_function}
use Rattle.cq_func.proofs.Listed.{kept_more}
use Rattle.cq_func.proofs.js.js_functions.Goals as goal

pub loop-name-preserved : goal.loop-name-preserved
loop-name-preserved c = let next = kept_more (js_function c.args.tokens.now) c.loop-name.name c.loop-name.found.items _ c.loop-name.invariant c.js_function.ensures in search (rules, next)

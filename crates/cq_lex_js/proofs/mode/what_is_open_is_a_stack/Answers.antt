use Rattle.cq_lex_js.proofs.Stacks.{are_a_stack}
use Rattle.cq_lex_js.proofs.mode.what_is_open_is_a_stack.Goals as goal

pub returns : goal.returns
returns c = are_a_stack

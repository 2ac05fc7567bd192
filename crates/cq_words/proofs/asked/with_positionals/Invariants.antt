use Rattle.std.proofs.Common.{◌≡◌, drop}
use Rattle.clap.specs.Words.{app_of}
use Rattle.cq_words.specs.Asked.{with_positionals}
use Rattle.cq_words.proofs.asked.with_positionals.Given as goal

abbrev pub invariant-loop-param : goal.invariant-loop-param
invariant-loop-param l = with_positionals (app_of l.command) (drop l.param-index l.params) ≡ with_positionals (app_of l.fn.bare) l.params

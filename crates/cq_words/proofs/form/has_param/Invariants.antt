use Rattle.std.proofs.Common.{◌≡◌, drop, map}
use Rattle.cq_words.specs.Grammar.{has_name}
use Rattle.cq_words.specs.Table.{param_name}
use Rattle.cq_words.proofs.form.has_param.Given as goal

abbrev pub invariant-loop-param : goal.invariant-loop-param
invariant-loop-param l = has_name (map param_name (drop l.param-index l.params)) l.name ≡ has_name (map param_name l.params) l.name

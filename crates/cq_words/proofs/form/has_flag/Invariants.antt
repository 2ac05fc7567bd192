use Rattle.std.proofs.Common.{◌≡◌, drop, map}
use Rattle.cq_words.specs.Grammar.{has_name}
use Rattle.cq_words.specs.Table.{flag_name}
use Rattle.cq_words.proofs.form.has_flag.Given as goal

abbrev pub invariant-loop-flag : goal.invariant-loop-flag
invariant-loop-flag l = has_name (map flag_name (drop l.flag-index l.flags)) l.name ≡ has_name (map flag_name l.flags) l.name

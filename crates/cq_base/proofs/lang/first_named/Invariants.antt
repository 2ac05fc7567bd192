use Rattle.std.proofs.Common.{◌≡◌, drop}
use Rattle.cq_base.specs.Tables.{lang_name, with_name}
use Rattle.cq_base.proofs.lang.first_named.Given as goal

abbrev pub invariant-loop-lang : goal.invariant-loop-lang
invariant-loop-lang l = with_name lang_name (drop l.lang-index l.langs) l.name ≡ with_name lang_name l.langs l.name

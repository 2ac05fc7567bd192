use Rattle.std.proofs.Common.{◌≡◌, drop}
use Rattle.cq_base.specs.Tables.{lang_code, with_code}
use Rattle.cq_base.proofs.lang.first_coded.Given as goal

abbrev pub invariant-loop-lang : goal.invariant-loop-lang
invariant-loop-lang l = with_code lang_code (drop l.lang-index l.langs) l.code ≡ with_code lang_code l.langs l.code

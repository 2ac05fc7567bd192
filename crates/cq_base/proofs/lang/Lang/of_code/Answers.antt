use Rattle.std.proofs.Common.{List, ◌∙◌, ap}
use Rattle.cq_base.specs.Tables.{lang_code, with_code}
use Rattle.cq_base.specs.declared.lang.Lang.{Lang}
use Rattle.cq_base.proofs.lang.Lang.of_code.Goals as goal

pub returns : goal.returns
returns c = c.first_coded.ensures ∙ ap (λ (xs : List Lang). with_code lang_code xs c.args.code) c.all.ensures

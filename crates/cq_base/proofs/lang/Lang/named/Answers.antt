use Rattle.std.proofs.Common.{List, ◌∙◌, ap}
use Rattle.cq_base.specs.Tables.{lang_name, with_name}
use Rattle.cq_base.specs.declared.lang.Lang.{Lang}
use Rattle.cq_base.proofs.lang.Lang.named.Goals as goal

pub returns : goal.returns
returns c = c.first_named.ensures ∙ ap (λ (xs : List Lang). with_name lang_name xs c.args.name.now) c.all.ensures

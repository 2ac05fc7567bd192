-- What is looked up of the tokens of a text of Go.
use Rattle.std.specs.Prelude.{List}
use Rattle.cq_base.specs.declared.lang.Lang.TheVariants as lang
use Rattle.cq_base.specs.declared.token.Spelled.{Spelled}
use Rattle.cq_func.specs.declared.brackets.Kind.TheVariants as kind
use Rattle.cq_func.specs.declared.go.Tables.{Tables}
use Rattle.cq_func.specs.Tables.{ArePartners, AreFuncs, AreEnds, AreOpens}

pub record AreTables (ts : List Spelled) (t : Tables) : Type 0 where
  pub round : ArePartners lang.Go kind.Round ts t.round.items
  pub square : ArePartners lang.Go kind.Square ts t.square.items
  pub funcs : AreFuncs ts t.funcs.items
  pub ends : AreEnds ts t.ends.items
  pub opens : AreOpens ts t.opens.items

use Rattle.std.proofs.Common.{◌≤◌, length, sym, ap, subst, ◌∷◌, get_or, arith}
use Rattle.std.specs.Prelude.{IfSome}
use Rattle.cq_base.specs.declared.token.Class.TheVariants.{Ident}
use Rattle.cq_munch.specs.Automata.{tables_of}
use Rattle.cq_munch.specs.Characters.{seen_by}
use Rattle.cq_munch.specs.Language.{Takes}
use Rattle.cq_munch.specs.Patterned.{rows_of}
use Rattle.cq_munch.specs.Table.{table}
use Rattle.cq_munch.specs.declared.element.Found.{Found}
use Rattle.cq_munch.specs.declared.element.Spell.TheVariants.{Token}
use Rattle.cq_munch.proofs.RowScans.{one_there}
use Rattle.cq_munch.proofs.names.row_found.Goals as goal

pub found_of-requires : goal.found_of-requires
found_of-requires g c = let within = c.in-Some.ensures.within in let few = c.requires in omega (arith, within, few)

pub returns-in-Some-clause-found : goal.returns-in-Some-clause-found
returns-in-Some-clause-found g c = λ name words others is.
    let text = seen_by g.S.StandIn.stood c.args.units.now in
    let row = c.in-Some.ensures.row (tables_of c.args.by) is.state 0 g.S.StandIn.stood is.plain is.itself in
    subst (Takes (table (rows_of ((Token Ident, name) ∷ others))) 0 c.args.mode text) (sym c.found_of.ensures)
    (one_there ((Token Ident, name) ∷ others) is.texts (tables_of c.args.by) is.fits.1 c.args.spells.now is.fits.0 0 c.args.mode text c.in-Some.len 0 (Token Ident) row (ap (λ v. get_or v 0 (Token Ident)) is.fits.0))

pub returns-in-None-clause-found : goal.returns-in-None-clause-found
returns-in-None-clause-found g c = λ name words others is. c.longest_found.ensures.found ((Token Ident, name) ∷ others) is.texts is.fits

pub returns-in-Some-clause-within : goal.returns-in-Some-clause-within
returns-in-Some-clause-within g c = subst (λ r. IfSome r (λ (f : Found). f.units ≤ length c.args.units.now)) (sym c.found_of.ensures) c.in-Some.ensures.within

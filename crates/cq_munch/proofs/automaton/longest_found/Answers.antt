use Rattle.std.proofs.Common.{◌≤◌, length, sym, subst, arith}
use Rattle.std.specs.Prelude.{IfSome}
use Rattle.std.proofs.lemmas.List.{length-map}
use Rattle.cq_munch.specs.Automata.{tables_of}
use Rattle.cq_munch.specs.Characters.{seen_by}
use Rattle.cq_munch.specs.Language.{Takes}
use Rattle.cq_munch.specs.Patterned.{rows_of}
use Rattle.cq_munch.specs.Table.{table}
use Rattle.cq_munch.specs.declared.element.Found.{Found}
use Rattle.cq_munch.specs.declared.unit.Unit.{Unit}
use Rattle.cq_munch.proofs.RowScans.{none_there, one_there, not_past}
use Rattle.cq_munch.proofs.automaton.longest_found.Goals as goal

pub returns-in-Some-get-clause-found : goal.returns-in-Some-get-clause-found
returns-in-Some-get-clause-found g c = λ rows texts right.
    subst (Takes (table (rows_of rows)) 0 c.args.mode (seen_by g.S.StandIn.stood c.args.units.now)) (sym c.found_of.ensures)
    (one_there rows texts (tables_of c.args.by) right.1 c.args.spells.now right.0 0 c.args.mode (seen_by g.S.StandIn.stood c.args.units.now) c.in-Some.len c.in-Some.row c.in-Some-get.spell.now c.in-Some.ensures c.in-Some-get.ensures.lookup.1)

pub returns-in-None-get-clause-found : goal.returns-in-None-get-clause-found
returns-in-None-get-clause-found g c = λ rows texts right.
    absurd (not_past rows texts (tables_of c.args.by) right.1 c.args.spells.now right.0 0 c.args.mode (seen_by g.S.StandIn.stood c.args.units.now) c.in-Some.len c.in-Some.row c.in-Some.ensures c.in-None-get.ensures.lookup.3)

pub returns-in-None-clause-found : goal.returns-in-None-clause-found
returns-in-None-clause-found g c = λ rows texts right.
    none_there rows texts (tables_of c.args.by) right.1 c.args.spells.now right.0 0 c.args.mode (seen_by g.S.StandIn.stood c.args.units.now) c.in-None.ensures

pub returns-in-Some-get-clause-within : goal.returns-in-Some-get-clause-within
returns-in-Some-get-clause-within g c =
    let within = c.in-Some.ensures.0.within in
    let many = length-map c.args.units.now (λ (u : Unit). g.S.StandIn.stood u.ch) in
    subst (λ r. IfSome r (λ (f : Found). f.units ≤ length c.args.units.now)) (sym c.found_of.ensures) (omega (arith, within, many))

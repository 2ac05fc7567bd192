use Rattle.std.proofs.Common.{Some, None, ◌∷◌, take, sym, subst}
use Rattle.std.proofs.lemmas.List.{take-map}
use Rattle.cq_base.specs.declared.token.Class.TheVariants.{Ident}
use Rattle.cq_munch.specs.Automata.{tables_of}
use Rattle.cq_munch.specs.ByLetter.{IsListedByLetter}
use Rattle.cq_munch.specs.Characters.{characters}
use Rattle.cq_munch.specs.Language.{Takes}
use Rattle.cq_munch.specs.Patterned.{rows_of}
use Rattle.cq_munch.specs.Table.{table}
use Rattle.cq_munch.specs.declared.element.Spell.TheVariants.{Token}
use Rattle.cq_munch.specs.declared.unit.Unit.{Unit}
use Rattle.cq_munch.proofs.Reserving.{none_reserved, word_taken, free_taken}
use Rattle.cq_munch.proofs.Seen.{seen_is}
use Rattle.cq_munch.proofs.names.named_found.Goals as goal

pub returns-in-None : goal.returns-in-None
returns-in-None g c = λ name words others is listed.
    none_reserved g.S.StandIn.stood name words others c.args.kinds.now c.args.spells.now (tables_of c.args.by) is 0 c.args.mode (characters c.args.units.now)
    (subst (λ t. Takes (table (rows_of ((Token Ident, name) ∷ others))) 0 c.args.mode t None) (seen_is g.S.StandIn.stood c.args.units.now) (c.in-None.ensures.found name words others is))

pub returns-then-is_reserved : goal.returns-then-is_reserved
returns-then-is_reserved g c = λ name words others is listed.
    let units = c.args.units.now in
    let found = c.in-Some.found in
    let front = sym (take-map (λ (u : Unit). u.ch) found.units units) in
    word_taken g.S.StandIn.stood name words others c.args.kinds.now c.args.spells.now (tables_of c.args.by) is 0 c.args.mode (characters units) found
    ((listed (take found.units (characters units))).0 (subst (IsListedByLetter c.args.reserved.now) front (c.is_reserved.ensures.word c.if-is_reserved.true)))
    (subst (λ t. Takes (table (rows_of ((Token Ident, name) ∷ others))) 0 c.args.mode t (Some found)) (seen_is g.S.StandIn.stood units) (c.in-Some.ensures.found name words others is))

pub returns-else-is_reserved : goal.returns-else-is_reserved
returns-else-is_reserved g c = λ name words others is listed.
    let units = c.args.units.now in
    let found = c.in-Some.found in
    let front = take-map (λ (u : Unit). u.ch) found.units units in
    free_taken g.S.StandIn.stood name words others c.args.kinds.now c.args.spells.now (tables_of c.args.by) is 0 c.args.mode (characters units) found
    (λ named word. c.is_reserved.ensures.free c.if-is_reserved.false named (subst (IsListedByLetter c.args.reserved.now) front ((listed (take found.units (characters units))).1 word)))
    (subst (λ t. Takes (table (rows_of ((Token Ident, name) ∷ others))) 0 c.args.mode t (Some found)) (seen_is g.S.StandIn.stood units) (c.in-Some.ensures.found name words others is))

use Rattle.std.proofs.Common.{sym, ◌∙◌, arith}
use Rattle.std.proofs.lemmas.List.{length-map}
use Rattle.cq_munch.specs.Characters.{characters}
use Rattle.cq_munch.specs.declared.unit.Unit.{Unit}
use Rattle.cq_munch.proofs.Front.{ch_at, as_many}
use Rattle.cq_lex_java.proofs.Opening.{ended, refused, went_on, all_blank}
use Rattle.cq_lex_java.proofs.block.ends_opening.Goals as goal

pub returns-then-is_line_end : goal.returns-then-is_line_end
returns-then-is_line_end c =
    let units = c.args.units.now in
    let i = c.loop-unit.unit-index in
    ended (characters units) i _ (as_many units i c.loop-unit-test.true) (ch_at units i c.loop-unit-test.true) c.loop-unit.invariant (sym c.is_line_end.ensures ∙ c.if-is_line_end.true)

pub returns-then-not-is_space : goal.returns-then-not-is_space
returns-then-not-is_space c =
    let units = c.args.units.now in
    let i = c.loop-unit.unit-index in
    refused (characters units) i _ (as_many units i c.loop-unit-test.true) (ch_at units i c.loop-unit-test.true) c.loop-unit.invariant (sym c.is_line_end.ensures ∙ c.if-is_line_end.false) (sym c.is_space.ensures ∙ c.if-not-is_space.true)

pub loop-unit-preserved : goal.loop-unit-preserved
loop-unit-preserved c =
    let units = c.args.units.now in
    let i = c.loop-unit.unit-index in
    went_on (characters units) i _ (as_many units i c.loop-unit-test.true) (ch_at units i c.loop-unit-test.true) c.loop-unit.invariant (sym c.is_line_end.ensures ∙ c.if-is_line_end.false) (sym c.is_space.ensures ∙ c.if-not-is_space.false)

pub returns : goal.returns
returns c =
    let many = length-map c.args.units.now (λ (u : Unit). u.ch) in
    all_blank (characters c.args.units.now) c.loop-unit.unit-index (omega (arith, c.loop-unit-test.false)) c.loop-unit.invariant

use Rattle.std.proofs.Common.{◌+◌, Some, arith}
use Rattle.std.proofs.lemmas.List.{length-map}
use Rattle.cq_munch.specs.Automata.{tables_of}
use Rattle.cq_munch.specs.Characters.{characters}
use Rattle.cq_munch.specs.declared.unit.Unit.{Unit}
use Rattle.cq_munch.proofs.Front.{ch_at, as_many}
use Rattle.cq_munch.proofs.Once.{none_read, none_to_end, none_stopped, one_more, ended, by_pattern, none_begins}
use Rattle.cq_munch.proofs.Rowed.{entry_is}
use Rattle.cq_munch.proofs.automaton.scan_once.Goals as goal

pub loop-i-init : goal.loop-i-init
loop-i-init c = none_read (tables_of c.args.by) (characters c.args.units.now)

pub returns-in-None-clause-none : goal.returns-in-None-clause-none
returns-in-None-clause-none c = λ p texts right.
    let t = tables_of c.args.by in
    let text = characters c.args.units.now in
    let i = c.loop-i.i in
    none_begins p texts t right text i c.loop-i.state c.loop-i.invariant
    (none_stopped t text i c.loop-i.state c.loop-i.invariant _ (as_many c.args.units.now i c.loop-i-test.true) (ch_at c.args.units.now i c.loop-i-test.true)
    (entry_is t c.loop-i.state _ c.class_of.result c.class_of.ensures _ c.in-None.ensures.none))

pub returns-then-is_end-clause-found : goal.returns-then-is_end-clause-found
returns-then-is_end-clause-found c = λ p texts right.
    let t = tables_of c.args.by in
    let text = characters c.args.units.now in
    let i = c.loop-i.i in
    by_pattern p texts t right text (Some (i + 1))
    (ended t text i c.loop-i.state c.loop-i.invariant _ (as_many c.args.units.now i c.loop-i-test.true) (ch_at c.args.units.now i c.loop-i-test.true) c.in-Some.next
    (entry_is t c.loop-i.state _ c.class_of.result c.class_of.ensures _ c.in-Some.ensures.some) right.1 (c.is_end.ensures.some c.if-is_end.true))

pub loop-i-preserved : goal.loop-i-preserved
loop-i-preserved c =
    let t = tables_of c.args.by in
    let i = c.loop-i.i in
    one_more t (characters c.args.units.now) i c.loop-i.state c.loop-i.invariant _ (as_many c.args.units.now i c.loop-i-test.true) (ch_at c.args.units.now i c.loop-i-test.true) c.in-Some.next
    (entry_is t c.loop-i.state _ c.class_of.result c.class_of.ensures _ c.in-Some.ensures.some) (c.is_end.ensures.none c.if-is_end.false)

pub returns-clause-none : goal.returns-clause-none
returns-clause-none c = λ p texts right.
    let t = tables_of c.args.by in
    let units = c.args.units.now in
    let text = characters units in
    let many = length-map units (λ (u : Unit). u.ch) in
    let end = c.loop-i-test.false in
    let none = none_begins p texts t right text c.loop-i.i c.loop-i.state c.loop-i.invariant (none_to_end t text c.loop-i.i c.loop-i.state c.loop-i.invariant (omega (arith, many, end))) in
    (none.0, λ at from less. none.1 at from (omega (arith, less, end)))

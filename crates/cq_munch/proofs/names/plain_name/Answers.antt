use Rattle.std.proofs.Common.{◌≤◌, sym, ◌∙◌, arith}
use Rattle.cq_munch.specs.Lexed.{unit_at}
use Rattle.cq_munch.specs.PlainNames.{kind_at}
use Rattle.cq_munch.proofs.PlainScans.{plain_one, plain_more, plain_ended, plain_all}
use Rattle.cq_munch.proofs.names.plain_name.Goals as goal

pub loop-at-init : goal.loop-at-init
loop-at-init c = λ t state row stood right itself.
    plain_one c.args.kinds.now t state row stood right itself c.args.units.now (sym c.begins_name.ensures ∙ c.if-not-begins_name.false)

pub loop-at-preserved : goal.loop-at-preserved
loop-at-preserved c = λ t state row stood right itself.
    let is = c.kind_of-kind.ensures in
    let past = c.if-kind-lt50.false in
    let goes : 50 ≤ kind_at c.args.kinds.now (unit_at c.args.units.now c.loop-at.at).ch = omega (arith, is, past) in
    plain_more c.args.kinds.now t state row stood right itself c.args.units.now c.loop-at.at c.loop-at-test.true (c.loop-at.invariant t state row stood right itself) goes

pub returns-then-kind-eq48-clause-row : goal.returns-then-kind-eq48-clause-row
returns-then-kind-eq48-clause-row c = λ t state row stood right itself.
    plain_ended c.args.kinds.now t state row stood right itself c.args.units.now c.loop-at.at c.loop-at-test.true (c.loop-at.invariant t state row stood right itself) (sym c.kind_of-kind.ensures ∙ c.if-kind-eq48.true)

pub returns-clause-row : goal.returns-clause-row
returns-clause-row c = λ t state row stood right itself.
    plain_all c.args.kinds.now t state row stood right itself c.args.units.now c.loop-at.at c.loop-at-test.false (c.loop-at.invariant t state row stood right itself)

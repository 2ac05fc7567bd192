use Rattle.std.proofs.Common.{◌≡◌, ◌+◌, ◌<◌, length, sym, arith, rules}
use Rattle.cq_func.specs.Levels.{level}
use Rattle.cq_func.proofs.Counted.{level-first, level-small, levelled_first, levelled_more, levelled_all}
use Rattle.cq_func.proofs.Signs.{level_next, as_many}
use Rattle.cq_func.proofs.brackets.levels.Goals as goal

pub loop-sign-init : goal.loop-sign-init
loop-sign-init c =
    let first = level-first c.args.lang c.args.kind c.args.tokens.now in
    (sym first, let all = levelled_first c.args.lang c.args.kind c.args.tokens.now (length c.args.tokens.now) (sym first) in search (rules, all))

pub next_level-level-requires-clause-high : goal.next_level-level-requires-clause-high
next_level-level-requires-clause-high c =
    let at = c.loop-sign.sign-index in
    let many = as_many c.args.lang c.args.tokens.now c.args.signs.now c.requires.signs in
    let inside : at < length c.args.tokens.now = omega (arith, many, c.loop-sign-test.true) in
    let small = level-small c.args.lang c.args.kind c.args.tokens.now at (omega arith) in
    let is = c.loop-sign.invariant.0 in
    omega (arith, small, is)

pub next_level-level-requires-clause-low : goal.next_level-level-requires-clause-low
next_level-level-requires-clause-low c =
    let at = c.loop-sign.sign-index in
    let many = as_many c.args.lang c.args.tokens.now c.args.signs.now c.requires.signs in
    let inside : at < length c.args.tokens.now = omega (arith, many, c.loop-sign-test.true) in
    let next = level_next c.args.lang c.args.kind c.args.tokens.now c.args.signs.now at c.requires.signs inside in
    let is = c.loop-sign.invariant.0 in
    omega (arith, next, is)

pub loop-sign-preserved : goal.loop-sign-preserved
loop-sign-preserved c =
    let at = c.loop-sign.sign-index in
    let many = as_many c.args.lang c.args.tokens.now c.args.signs.now c.requires.signs in
    let inside : at < length c.args.tokens.now = omega (arith, many, c.loop-sign-test.true) in
    let next = level_next c.args.lang c.args.kind c.args.tokens.now c.args.signs.now at c.requires.signs inside in
    let was = c.loop-sign.invariant.0 in
    let made = c.next_level-level.ensures in
    let is : c.next_level-level.result ≡ level c.args.lang c.args.kind c.args.tokens.now (at + 1) = omega (arith, next, was, made) in
    let all = levelled_more c.args.lang c.args.kind c.args.tokens.now at c.loop-sign.levels.items c.next_level-level.result is c.loop-sign.invariant.1 in
    (is, search (rules, all))

pub returns : goal.returns
returns c =
    let at = c.loop-sign.sign-index in
    let many = as_many c.args.lang c.args.tokens.now c.args.signs.now c.requires.signs in
    let whole : at ≡ length c.args.tokens.now = search (rules, many) in
    levelled_all c.args.lang c.args.kind c.args.tokens.now at c.loop-sign.levels.items whole c.loop-sign.invariant.1

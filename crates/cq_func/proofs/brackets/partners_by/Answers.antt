use Rattle.std.proofs.Common.{◌≡◌, ◌+◌, ◌-◌, ◌*◌, length, take, drop, arith, rules}
use Rattle.cq_func.proofs.Partners.{before_below, behind_below, before_long, behind_long, partners_from}
use Rattle.cq_func.proofs.Listed.{if_ok}
use Rattle.cq_func.proofs.brackets.partners_by.Goals as goal

pub places_above-requires-clause-alike : goal.places_above-requires-clause-alike
places_above-requires-clause-alike c =
    let levels = c.args.levels.now in
    let looked : c.before_each-wanted.result.now ≡ take (length levels - 1) levels = search rules in
    let marked : c.behind_each-marks.result.now ≡ drop 1 levels = search rules in
    let a = before_long c.args.lang c.args.kind c.args.tokens.now levels c.before_each-wanted.result.now c.requires.counted looked in
    let b = behind_long c.args.lang c.args.kind c.args.tokens.now levels c.behind_each-marks.result.now c.requires.counted marked in
    omega (arith, a, b)

pub places_above-requires-clause-few : goal.places_above-requires-clause-few
places_above-requires-clause-few c =
    let levels = c.args.levels.now in
    let marked : c.behind_each-marks.result.now ≡ drop 1 levels = search rules in
    let b = behind_long c.args.lang c.args.kind c.args.tokens.now levels c.behind_each-marks.result.now c.requires.counted marked in
    omega (arith, b)

pub places_above-requires-clause-looked_for : goal.places_above-requires-clause-looked_for
places_above-requires-clause-looked_for c =
    let levels = c.args.levels.now in
    before_below c.args.lang c.args.kind c.args.tokens.now levels c.before_each-wanted.result.now (2 * length c.args.tokens.now + 1) c.requires.counted (search rules) (omega arith)

pub places_above-requires-clause-marked : goal.places_above-requires-clause-marked
places_above-requires-clause-marked c =
    let levels = c.args.levels.now in
    behind_below c.args.lang c.args.kind c.args.tokens.now levels c.behind_each-marks.result.now (2 * length c.args.tokens.now + 1) c.requires.counted (search rules) (omega arith)

pub returns : goal.returns
returns c =
    let levels = c.args.levels.now in
    let looked : c.before_each-wanted.result.now ≡ take (length levels - 1) levels = search rules in
    let marked : c.behind_each-marks.result.now ≡ drop 1 levels = search rules in
    if_ok (λ t. partners_from c.args.lang c.args.kind c.args.tokens.now levels c.before_each-wanted.result.now c.behind_each-marks.result.now t.items c.requires.counted looked marked) c.places_above.result c.places_above.ensures

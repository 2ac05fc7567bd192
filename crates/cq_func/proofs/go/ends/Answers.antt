use Rattle.std.proofs.Common.{◌≡◌, ◌+◌, ◌*◌, length, map, drop, arith, rules}
use Rattle.std.specs.List.{range_with_len}
use Rattle.cq_base.specs.declared.lang.Lang.TheVariants as lang
use Rattle.cq_func.specs.declared.brackets.Kind.TheVariants as kind
use Rattle.cq_func.specs.Levels.{end_mark}
use Rattle.cq_func.proofs.Marks.{marks_long}
use Rattle.cq_func.proofs.Partners.{behind_below, behind_long, marks_below, end_mark-small, ends_from}
use Rattle.cq_func.proofs.Listed.{if_ok}
use Rattle.cq_func.proofs.go.ends.Goals as goal

pub places_above-requires-clause-alike : goal.places_above-requires-clause-alike
places_above-requires-clause-alike c =
    let ts = c.args.tokens.now in
    let looked : c.behind_each-wanted.result.now ≡ drop 1 c.args.levels.now = search rules in
    let a = behind_long lang.Go kind.All ts c.args.levels.now c.behind_each-wanted.result.now c.requires.counted looked in
    let marked : c.deref.result.now ≡ map (end_mark ts) (range_with_len 0 (length ts)) = search rules in
    let b = marks_long (end_mark ts) (length ts) c.deref.result.now marked in
    omega (arith, a, b)

pub places_above-requires-clause-few : goal.places_above-requires-clause-few
places_above-requires-clause-few c =
    let ts = c.args.tokens.now in
    let marked : c.deref.result.now ≡ map (end_mark ts) (range_with_len 0 (length ts)) = search rules in
    let b = marks_long (end_mark ts) (length ts) c.deref.result.now marked in
    omega (arith, b)

pub places_above-requires-clause-looked_for : goal.places_above-requires-clause-looked_for
places_above-requires-clause-looked_for c =
    behind_below lang.Go kind.All c.args.tokens.now c.args.levels.now c.behind_each-wanted.result.now (2 * length c.args.tokens.now + 2) c.requires.counted (search rules) (omega arith)

pub places_above-requires-clause-marked : goal.places_above-requires-clause-marked
places_above-requires-clause-marked c =
    let ts = c.args.tokens.now in
    marks_below (end_mark ts) (length ts) (2 * length ts + 2) c.deref.result.now (search rules) (end_mark-small ts)

pub returns : goal.returns
returns c =
    let ts = c.args.tokens.now in
    let marked : c.deref.result.now ≡ map (end_mark ts) (range_with_len 0 (length ts)) = search rules in
    if_ok (λ t. ends_from ts c.args.levels.now c.behind_each-wanted.result.now c.deref.result.now t.items c.requires.counted c.behind_each-wanted.ensures marked) c.places_above.result c.places_above.ensures

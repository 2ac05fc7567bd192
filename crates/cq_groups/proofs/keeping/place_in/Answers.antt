use Rattle.std.proofs.Common.{◌≡◌, ◌<◌, arith}
use Rattle.std.proofs.Math.Nat.{mul-le-mul_right}
use Rattle.cq_groups.proofs.Kept.{further_none}
use Rattle.cq_groups.proofs.keeping.place_in.Goals as goal

pub overflow_mul-result : goal.overflow_mul-result
overflow_mul-result c =
    let row = c.args.row.now in
    let some : 0 < row.others = omega (arith, c.if-row-eq0.false) in
    let h = mul-le-mul_right row.gap c.requires.within in
    omega (arith, h, c.requires.inside some)

pub overflow_add-result : goal.overflow_add-result
overflow_add-result c =
    let row = c.args.row.now in
    let some : 0 < row.others = omega (arith, c.if-row-eq0.false) in
    let h = mul-le-mul_right row.gap c.requires.within in
    omega (arith, h, c.requires.inside some)

pub returns-then-row-eq0 : goal.returns-then-row-eq0
returns-then-row-eq0 c =
    let row = c.args.row.now in
    let none : c.args.k ≡ 0 = omega (arith, c.requires.within, c.if-row-eq0.true) in
    further_none row.first.place row.gap c.args.k none

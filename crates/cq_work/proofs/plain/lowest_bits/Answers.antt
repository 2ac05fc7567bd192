use Rattle.std.proofs.Common.{◌^◌, ◌<◌, ◌≤◌, sym, arith}
use Rattle.std.proofs.Math.Nat.{pow-le-pow_right, mod-eq_of_lt}
use Rattle.cq_work.proofs.plain.lowest_bits.Goals as goal

pub returns-then-bits-ge64 : goal.returns-then-bits-ge64
returns-then-bits-ge64 c =
    let wide : 2 ^ 64 ≤ 2 ^ c.args.bits = pow-le-pow_right (omega arith) c.if-bits-ge64.true in
    let low : c.args.key < 2 ^ 64 = c.ranges.key.fits in
    sym (mod-eq_of_lt (omega (arith, wide, low)))

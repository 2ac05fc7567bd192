use Rattle.std.proofs.Common.{◌≡◌, true, rules}
use Rattle.cq_log.proofs.Saying.{mended_if}
use Rattle.cq_log.proofs.taking.take_line.Goals as goal

pub returns-then-torn-clause-takes : goal.returns-then-torn-clause-takes
returns-then-torn-clause-takes g c =
    let is : c.args.torn ≡ true = search rules in
    mended_if g.T.Taker.Has c.args.settings.now c.args.line.now c.args.taker.now c.args.torn c.mends.result is c.mends.ensures

use Rattle.std.proofs.Common.{refl}
use Rattle.cq_board.proofs.Freeing.{higher_free}
use Rattle.cq_board.proofs.free.pass_over.Goals as goal

pub returns-clause-passed : goal.returns-clause-passed
returns-clause-passed c slots low le done are =
    let dropped = c.drop_passed.ensures in
    higher_free slots low c.drop_passed.new.free (dropped.free slots low done are) c.args.floor _ le done refl c.max-free.ensures (dropped.passed are.heap)

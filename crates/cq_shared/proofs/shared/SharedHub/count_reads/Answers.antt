use Rattle.cq_shared.proofs.Calling.{counted_stands}
use Rattle.cq_shared.proofs.shared.SharedHub.count_reads.Goals as goal

pub returns-clause-stands : goal.returns-clause-stands
returns-clause-stands g c = counted_stands c.args.self.now c.args.pass.now c.count_reads.new.self _ c.count_reads.ensures

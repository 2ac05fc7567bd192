use Rattle.std.proofs.Common.{sym, arith}
use Rattle.cq_reply.proofs.Shorts.{change_read, pending_read, long_read, memory_read, read_as}
use Rattle.cq_reply.proofs.write.line_of.Goals as goal

pub returns-in-Change-clause-reads_back : goal.returns-in-Change-clause-reads_back
returns-in-Change-clause-reads_back c = read_as c.fixed.ensures (sym c.in-Change.is) (change_read c.in-Change.number (omega arith))

pub returns-in-Pending-clause-reads_back : goal.returns-in-Pending-clause-reads_back
returns-in-Pending-clause-reads_back c = read_as c.fixed-in-Pending.ensures (sym c.in-Pending.is) (pending_read c.in-Pending.number (omega arith))

pub returns-in-Long-clause-reads_back : goal.returns-in-Long-clause-reads_back
returns-in-Long-clause-reads_back c = read_as c.fixed-in-Long.ensures (sym c.in-Long.is) long_read

pub returns-in-Memory-clause-reads_back : goal.returns-in-Memory-clause-reads_back
returns-in-Memory-clause-reads_back c = read_as c.fixed-in-Memory.ensures (sym c.in-Memory.is) memory_read

use Rattle.std.proofs.Common.{sym, ap, arith}
use Rattle.std.proofs.lemmas.List.{get_or_past}
use Rattle.cq_history.specs.State.{no_slot, is_free}
use Rattle.cq_board.proofs.free.is_free_at.Goals as goal

pub returns-then-i-len : goal.returns-then-i-len
returns-then-i-len g c = ap is_free (sym (get_or_past c.args.changes.now.slots c.args.i no_slot (omega (arith, c.if-i-len.true, c.len.ensures))))

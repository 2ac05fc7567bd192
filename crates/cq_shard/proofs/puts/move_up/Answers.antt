use Rattle.std.proofs.Common.{◌+◌, ◌-◌, drop, sym, ap, ◌∙◌, arith}
use Rattle.std.proofs.Math.Seq.{paste}
use Rattle.cq_shard.proofs.Closing.{moved_nowhere}
use Rattle.cq_shard.proofs.puts.move_up.Goals as goal

pub returns-else-to-from : goal.returns-else-to-from
returns-else-to-from c =
    let xs = c.args.numbers.now.items in
    let from = c.args.from in
    let many = c.args.from + c.args.many - c.args.from in
    sym (ap (λ to. paste xs to (drop from xs) many) (omega (arith, c.requires.earlier, c.if-to-from.false)) ∙ moved_nowhere xs from many)

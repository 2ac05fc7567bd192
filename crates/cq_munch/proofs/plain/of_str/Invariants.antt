use Rattle.cq_munch.proofs.Decoding.{Decoded}
use Rattle.cq_munch.proofs.plain.of_str.Given as goal

abbrev pub invariant-loop-ch : goal.invariant-loop-ch
invariant-loop-ch l = Decoded l.text l.units.items l.start l.ch-iterator.rest.now

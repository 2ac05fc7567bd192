use Rattle.cq_beside.proofs.joining.+beside+fn-beside-join+arg3.Given as goal

abbrev pub decreases-beside : goal.decreases-beside
decreases-beside g l = l.workers

abbrev pub decreases-join+arg3 : goal.decreases-join+arg3
decreases-join+arg3 g l = l.fewer

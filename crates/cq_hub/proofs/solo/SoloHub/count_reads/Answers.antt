use Rattle.cq_hub.proofs.solo.SoloHub.count_reads.Goals as goal

pub returns-clause-stands : goal.returns-clause-stands
returns-clause-stands g c = λ by h is. is

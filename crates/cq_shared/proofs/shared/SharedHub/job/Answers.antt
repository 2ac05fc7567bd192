use Rattle.std.proofs.Common.{sym, subst}
use Rattle.cq_history.specs.State.{IsAccepted}
use Rattle.cq_shared.specs.SharedPasses.{state_of}
use Rattle.cq_shared.proofs.Calling.{extends}
use Rattle.cq_shared.proofs.shared.SharedHub.job.Goals as goal

pub job-requires : goal.job-requires
job-requires g c = let r = c.requires.accepted in record { of = r.2.is; accepted = subst (λ l. IsAccepted (state_of c.args.self.now l) c.args.change) (sym r.2.seen) r.3 }

pub returns-clause-job : goal.returns-clause-job
returns-clause-job g c = extends _ _ _ _ _ _ c.job.ensures.job

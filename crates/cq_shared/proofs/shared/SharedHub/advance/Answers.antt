use Rattle.std.proofs.Common.{◌≤◌, sym, subst}
use Rattle.cq_history.specs.State.{ready}
use Rattle.cq_shared.specs.SharedPasses.{state_of}
use Rattle.cq_shared.proofs.Calling.{extends}
use Rattle.cq_shared.proofs.shared.SharedHub.advance.Goals as goal

pub advance-requires : goal.advance-requires
advance-requires g c = let r = c.requires.done in record { of = r.2.is; done = subst (λ l. c.args.to ≤ ready (state_of c.args.self.now l)) (sym r.2.seen) r.3 }

pub returns-clause-published : goal.returns-clause-published
returns-clause-published g c = extends _ _ _ _ _ _ c.advance.ensures.published

use Rattle.std.proofs.Common.{sym, subst₂}
use Rattle.std.specs.Prelude.{IsSome}
use Rattle.cq_history.specs.State.{view_of}
use Rattle.cq_shared.specs.SharedPasses.{state_of}
use Rattle.cq_shared.proofs.Calling.{extends}
use Rattle.cq_shared.proofs.shared.SharedHub.close_view.Goals as goal

pub close_view-requires : goal.close_view-requires
close_view-requires g c = let r = c.requires.viewing in record { of = r.2.is; viewing = subst₂ (λ n l. IsSome (view_of (state_of c.args.self.now l) n)) (sym r.2.caller) (sym r.2.seen) r.3 }

pub returns-clause-shut : goal.returns-clause-shut
returns-clause-shut g c = extends _ _ _ _ _ _ c.close_view.ensures.shut

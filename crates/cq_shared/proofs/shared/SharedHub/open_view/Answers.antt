use Rattle.std.proofs.Common.{◌≡◌, sym, subst₂, None}
use Rattle.std.proofs.lemmas.Result.{IfOk-weaker, on_err_weaker}
use Rattle.cq_history.specs.State.{view_of}
use Rattle.cq_shared.specs.SharedPasses.{state_of}
use Rattle.cq_shared.proofs.Calling.{extends}
use Rattle.cq_shared.proofs.shared.SharedHub.open_view.Goals as goal

pub open_view-requires : goal.open_view-requires
open_view-requires g c = let r = c.requires.closed in record { of = r.2.is; closed = subst₂ (λ n l. view_of (state_of c.args.self.now l) n ≡ None) (sym r.2.caller) (sym r.2.seen) r.3 }

pub returns-clause-opened : goal.returns-clause-opened
returns-clause-opened g c = IfOk-weaker c.open_view.result _ _ (λ view call. extends _ _ _ _ _ _ call) c.open_view.ensures.opened

pub returns-clause-refused : goal.returns-clause-refused
returns-clause-refused g c = on_err_weaker c.open_view.result (λ call. extends _ _ _ _ _ _ call) c.open_view.ensures.refused

use Rattle.std.proofs.lemmas.Result.{IfOk-weaker, on_err_weaker}
use Rattle.cq_shared.proofs.Calling.{extends, match_weaker}
use Rattle.cq_shared.proofs.shared.SharedHub.take.Goals as goal

pub take-requires : goal.take-requires
take-requires g c = record { of = c.requires.stands.2.is }

pub returns-clause-taken : goal.returns-clause-taken
returns-clause-taken g c = IfOk-weaker c.take.result _ _ (λ job call. match_weaker job _ _ _ _ (λ none. extends _ _ _ _ _ _ none) (λ j taken. extends _ _ _ _ _ _ taken) call) c.take.ensures.taken

pub returns-clause-refused : goal.returns-clause-refused
returns-clause-refused g c = on_err_weaker c.take.result (λ call. extends _ _ _ _ _ _ call) c.take.ensures.refused

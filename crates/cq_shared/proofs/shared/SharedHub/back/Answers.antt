use Rattle.std.proofs.lemmas.Bool.{OnTrue_at, OnTrue_from, OnFalse_at, OnFalse_from}
use Rattle.cq_shared.proofs.Calling.{extends}
use Rattle.cq_shared.proofs.shared.SharedHub.back.Goals as goal

pub back-requires : goal.back-requires
back-requires g c = record { of = c.requires.stands.2.is }

pub returns-clause-back : goal.returns-clause-back
returns-clause-back g c = OnTrue_from c.back.result _ (λ yes. extends _ _ _ _ _ _ (OnTrue_at yes c.back.ensures.back))

pub returns-clause-not_taken : goal.returns-clause-not_taken
returns-clause-not_taken g c = OnFalse_from c.back.result _ (λ no₁. extends _ _ _ _ _ _ (OnFalse_at no₁ c.back.ensures.not_taken))

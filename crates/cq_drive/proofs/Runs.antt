-- One more line of a script.
use Rattle.std.proofs.Common.{ℕ, List, [], ◌∷◌, ◌++◌, refl, subst}
use Rattle.cq_base.specs.declared.settings.Settings.{Settings}
use Rattle.cq_history.specs.Core.{Core}
use Rattle.cq_drive.specs.declared.outcome.ScriptOutcome.{ScriptOutcome}
use Rattle.cq_drive.specs.Script.{LineComesTo, ComeTo}

pub come_more : (set : Settings) (k mid later : Core) (lines : List (List ℕ)) (outcomes : List ScriptOutcome) (line : List ℕ) (o : ScriptOutcome) → LineComesTo set mid line o later → ComeTo set k lines outcomes mid → ComeTo set k (lines ++ line ∷ []) (outcomes ++ o ∷ []) later
come_more set k mid later [] [] line o comes is = (later, subst (λ (c : Core). LineComesTo set c line o later) is comes, refl)
come_more set k mid later [] (p ∷ outcomes) line o comes is = absurd is
come_more set k mid later (l ∷ lines) [] line o comes is = absurd is
come_more set k mid later (l ∷ lines) (p ∷ outcomes) line o comes is = (is.0, is.1, come_more set is.0 mid later lines outcomes line o comes is.2)

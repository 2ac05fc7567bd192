-- Lists of words, and tests of them that compute.
use Rattle.std.proofs.Common.{◌≡◌, ℕ, Bool, true, List, [], ◌∷◌, ap, ◌∙◌, ⊎_elim}
use Rattle.std.proofs.lemmas.Bool.{and_parts}
use Rattle.std.specs.List.{list_all}
use Rattle.cq_munch.specs.Longest.{IsAmong}

-- what each word of a list passes, one of them passes
pub among_passes : (ws : List (List ℕ)) (test : List ℕ → Bool) (s : List ℕ) → list_all test ws ≡ true → IsAmong ws s → test s ≡ true
among_passes [] test s h among = absurd among
among_passes (w ∷ ws) test s h among =
    ⊎_elim (λ e. ap test e ∙ (and_parts _ _ h).0) (λ rest. among_passes ws test s (and_parts (test w) _ h).1 rest) among

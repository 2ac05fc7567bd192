-- Why a change is not accepted.
use Rattle.std.proofs.Common.{◌≡◌, Bool, true, false, cond, Some, None, refl, ap, ap₂, ◌∙◌}
use Rattle.cq_base.specs.declared.change.Change.{Change}
use Rattle.cq_base.specs.declared.settings.Settings.{Settings}
use Rattle.cq_history.specs.Lawful.{is_absent, is_full, is_long}
use Rattle.cq_history.specs.State.{State}
use Rattle.cq_board.specs.declared.answers.Refused.TheVariants.{Absent, FullChanges, FullText}
use Rattle.cq_board.specs.Answers.{refusal_of}

no_cause : (a b c : Bool) → cond a (Some Absent) (cond b (Some FullChanges) (cond c (Some FullText) None)) ≡ None → (a ≡ false) × (b ≡ false) × (c ≡ false)
no_cause true b c e = absurd (cc)
no_cause false true c e = absurd (cc)
no_cause false false true e = absurd (cc)
no_cause false false false e = (refl, refl, refl)

pub causes : (settings : Settings) (s : State) (change : Change) → refusal_of settings s change ≡ None → (is_absent s change ≡ false) × (is_full settings s ≡ false) × (is_long settings s change ≡ false)
causes settings s change e = no_cause (is_absent s change) (is_full settings s) (is_long settings s change) e

-- the first that holds
pub cause_is : (settings : Settings) (s : State) (change : Change) (a b c : Bool) → is_absent s change ≡ a → is_full settings s ≡ b → is_long settings s change ≡ c → refusal_of settings s change ≡ cond a (Some Absent) (cond b (Some FullChanges) (cond c (Some FullText) None))
cause_is settings s change a b c absent full long =
    ap (λ x. cond x (Some Absent) (cond (is_full settings s) (Some FullChanges) (cond (is_long settings s change) (Some FullText) None))) absent
    ∙ ap₂ (λ x y. cond a (Some Absent) (cond x (Some FullChanges) (cond y (Some FullText) None))) full long

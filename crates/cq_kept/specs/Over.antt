-- The changes that are over, which a floor forgets as soon as it gets there, each with the change that made it so.
use Rattle.std.specs.Prelude.{◌≡◌, ◌≢◌, ◌↔◌, ℕ, ◌<◌, ◌≤◌, List, [], ◌∷◌, length, All, AllPairs, Contains, Option, Some, None}
use Rattle.cq_base.specs.declared.change.Change.{Change}
use Rattle.cq_history.specs.Gone.{IsGone}
use Rattle.cq_kept.specs.declared.over.Over.{Over}

-- one more, if the change made another one over
abbrev pub noted : ℕ → Option ℕ → List Over
noted by None = []
noted by (Some number) = record { by = by; number = number } ∷ []

-- the one was made so by no later change
abbrev pub IsNoLater : Over → Over → Type 0
IsNoLater a b = a.by ≤ b.by

abbrev pub AreOthers : Over → Over → Type 0
AreOthers a b = a.number ≢ b.number

-- one of them is this change, made so by one numbered at most the floor
abbrev pub IsOverAt : List Over → ℕ → ℕ → Type 0
IsOverAt all floor number = (o : Over) × Contains all o × (o.by ≤ floor) × (o.number ≡ number)

-- each change that the floor keeps and some higher one forgets, once, in the order of the changes that made it so
pub record AreNoted (changes : List Change) (floor : ℕ) (all : List Over) : Type 0 where
  pub in_order : AllPairs IsNoLater all
  pub once : AllPairs AreOthers all
  pub above : All (λ o. floor < o.by) all
  pub known : All (λ o. o.by ≤ length changes) all
  pub each : (higher number : ℕ) → floor ≤ higher → IsOverAt all higher number ↔ (IsGone changes higher number × (IsGone changes floor number → ⊥))

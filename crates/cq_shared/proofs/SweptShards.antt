-- A shard is swept up to a floor, and is right for each history that begins with what was seen.
use Rattle.std.proofs.Common.{◌≡◌, ℕ, ◌≤◌, List, ◌++◌, length, refl, sym, ap, ◌∙◌, subst, inl, inr, ⊎_elim, arith}
use mathlib.Core.List.{IsPrefix}
use Rattle.cq_base.specs.declared.lang.Lang.{Lang}
use Rattle.cq_history.specs.declared.event.Event.{Event}
use Rattle.cq_history.specs.Gone.{AreKeptPuts}
use Rattle.cq_history.specs.State.{accepted, changes_in}
use Rattle.cq_history.proofs.Prefixes.{accepted-append, changes_in-state}
use Rattle.cq_history.proofs.Bounds.{in_order}
use Rattle.cq_history.proofs.KeptPuts.{kept_puts_stay}
use Rattle.cq_shard.specs.Shard.{Contents}
use Rattle.cq_shard.proofs.Sweeping.{stands_swept}
use Rattle.cq_board.specs.Stands.{BoardState}
use Rattle.cq_chain.specs.declared.about.About.{About}
use Rattle.cq_chain.specs.Held.{state_in, IsBoard, IsLawful}
use Rattle.cq_chain.specs.Passes.{IsStep}
use Rattle.cq_hub.specs.Shards.{IsSweptTo}
use Rattle.cq_shared.proofs.Calling.{state_is}
use Rattle.cq_shared.proofs.Applying.{within_accepted, same_step}

-- ---- a shard

module _ (IsWindow : Lang → List ℕ → ℕ → ℕ → Type 0) (about : About) (seen : List Event) (law : IsLawful about seen) where
  -- the floor is that of a change that was accepted
  floor_accepted : (state_in about seen).floor ≤ length (accepted seen)
  floor_accepted =
      let order = in_order about.settings about.callers seen law.lawful in
      let low = order.floor in
      let next = order.published in
      within_accepted about seen (state_in about seen).floor (omega (arith, low, next))

  -- the puts that a floor keeps are the same in each history that goes on
  pub kept_on : (floor : ℕ) (keep : List ℕ) (log : List Event) → floor ≡ (state_in about seen).floor → AreKeptPuts (accepted seen) floor keep → IsPrefix seen log → AreKeptPuts (accepted log) floor keep
  kept_on floor keep log is are begins =
      let later = begins.0 in
      let most = floor_accepted in
      subst (λ l. AreKeptPuts (accepted l) floor keep) begins.1
      (subst (λ cs. AreKeptPuts cs floor keep) (sym (accepted-append seen later)) (kept_puts_stay (accepted seen) (accepted later) floor keep (omega (arith, is, most)) are))

  pub swept_step : (floor : ℕ) (keep : List ℕ) (x y : Contents) → floor ≡ (state_in about seen).floor → AreKeptPuts (accepted seen) floor keep → IsSweptTo floor keep x y → IsStep IsWindow about seen x y
  swept_step floor keep x y is are how =
      ⊎_elim
      (λ sweeps.
      let lt = sweeps.0 in
      subst (IsStep IsWindow about seen x) (sym sweeps.1) (record {
        applied = inl refl;
        swept = inr (omega (arith, is));
        number_is = refl;
        shards = refl;
        stands = λ later was.
            stands_swept IsWindow (accepted (seen ++ later)) x floor keep (omega (arith, lt))
            (kept_on floor keep (seen ++ later) is are (later, refl)) was;
      }))
      (λ stays. subst (IsStep IsWindow about seen x) (sym stays.1) (same_step IsWindow about seen x))
      how

-- ---- the board in hand

pub board_changes : (about : About) (log : List Event) (b : BoardState) → IsBoard about log b → changes_in b.state ≡ accepted log
board_changes about log b is = ap changes_in (state_is about log b is) ∙ changes_in-state about.callers log

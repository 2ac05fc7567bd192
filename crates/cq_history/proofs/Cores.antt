-- Each step keeps a core sound.
use Rattle.std.proofs.Common.{ℕ, ◌≤◌, List, [], get_or, set, sym, subst, arith}
use Rattle.std.specs.Prelude.{All}
use Rattle.std.proofs.lemmas.List.Elements.{All-get_or, All-set, All-weaker, All-replicate}
use Rattle.cq_base.specs.declared.settings.Settings.{Settings}
use Rattle.cq_history.specs.declared.event.Event.{Event}
use Rattle.cq_history.specs.declared.event.Event.TheVariants.{Accept, Ask, Took, Back, Done, Publish, Open, Shut, Floor}
use Rattle.cq_history.specs.State.{State, after, state}
use Rattle.cq_history.specs.Lawful.{Allowed}
use Rattle.cq_history.specs.Core.{Core, IsReached, IsSound, IsAppliedFor, Step, MayStep, stepped, first_core}
use Rattle.cq_history.specs.Core.Step.{Adds, Applies, Sweeps}
use Rattle.cq_history.proofs.States.{state_push, Lawful_push}
use Rattle.cq_history.proofs.Bounds.{ready_after}

pub All-both : {X : Type 0} (P Q R : X → Type 0) (xs : List X) → ((x : X) → P x → Q x → R x) → All P xs → All Q xs → All R xs
All-both P Q R xs join p q = λ k d within. join _ (p k d within) (q k d within)

-- an event leaves each shard that has applied what it asks for within its bounds
pub reached_after : (s : State) (e : Event) (applied : List ℕ) → IsAppliedFor applied e → All (IsReached s) applied → All (IsReached (after s e)) applied
reached_after s (Accept by change) applied ask h = All-weaker (IsReached s) (IsReached (after s (Accept by change))) (λ a r. (r.0, omega (arith, r.1, ready_after s (Accept by change)))) applied h
reached_after s (Ask by) applied ask h = h
reached_after s (Took by r) applied ask h = All-weaker (IsReached s) (IsReached (after s (Took by r))) (λ a g. (g.0, omega (arith, g.1, ready_after s (Took by r)))) applied h
reached_after s (Back by r) applied ask h = All-weaker (IsReached s) (IsReached (after s (Back by r))) (λ a g. (g.0, omega (arith, g.1, ready_after s (Back by r)))) applied h
reached_after s (Done by r) applied ask h = All-weaker (IsReached s) (IsReached (after s (Done by r))) (λ a g. (g.0, omega (arith, g.1, ready_after s (Done by r)))) applied h
reached_after s (Publish p) applied ask h = All-both (IsReached s) (λ a. p ≤ a) (IsReached (after s (Publish p))) applied (λ a r le. (le, r.1)) h ask
reached_after s (Open by p) applied ask h = h
reached_after s (Shut by) applied ask h = h
reached_after s (Floor f) applied ask h = h

pub floor-rises : (set : Settings) (s : State) (e : Event) → Allowed set s e → s.floor ≤ (after s e).floor
floor-rises set s (Accept by change) ok = omega arith
floor-rises set s (Ask by) ok = omega arith
floor-rises set s (Took by r) ok = omega arith
floor-rises set s (Back by r) ok = omega arith
floor-rises set s (Done by r) ok = omega arith
floor-rises set s (Publish p) ok = omega arith
floor-rises set s (Open by p) ok = omega arith
floor-rises set s (Shut by) ok = omega arith
floor-rises set s (Floor f) ok = omega (arith, ok.1.0)

pub step_is_sound : (set : Settings) (callers : ℕ) (k : Core) (step : Step) → IsSound set callers k → MayStep set callers k step → IsSound set callers (stepped k step)
step_is_sound set callers k (Adds e) is may =
    let s = state callers k.history in
    record {
      lawful = Lawful_push set callers k.history e is.lawful may.0;
      applied = subst (λ t. All (IsReached t) k.applied) (sym (state_push callers k.history e)) (reached_after s e k.applied may.1 is.applied);
      floors = subst (λ t. All (λ f. f ≤ t.floor) k.floors) (sym (state_push callers k.history e))
          (All-weaker (λ f. f ≤ s.floor) (λ f. f ≤ (after s e).floor) (λ f le. omega (arith, le, floor-rises set s e may.0)) k.floors is.floors);
    }
step_is_sound set callers k (Applies shard) is may =
    let here : IsReached (state callers k.history) (get_or k.applied shard 0) = All-get_or (IsReached (state callers k.history)) k.applied shard 0 may.0 is.applied in
    record {
      lawful = is.lawful;
      applied = All-set (IsReached (state callers k.history)) k.applied shard _ (omega (arith, here.0), may.1) is.applied;
      floors = is.floors;
    }
step_is_sound set callers k (Sweeps shard to) is may = record {
  lawful = is.lawful;
  applied = is.applied;
  floors = All-set (λ f. f ≤ (state callers k.history).floor) k.floors shard to may.1 is.floors;
}

pub first_is_sound : (set : Settings) (callers shards : ℕ) → IsSound set callers (first_core shards)
first_is_sound set callers shards = record {
  lawful = tt;
  applied = All-replicate (IsReached (state callers [])) shards 0 (omega arith, omega arith);
  floors = All-replicate (λ f. f ≤ 0) shards 0 (omega arith);
}

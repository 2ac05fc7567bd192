-- A shard stays right when the history grows.
use Rattle.std.proofs.Common.{ℕ, ◌≤◌, List, [], ◌∷◌, ◌++◌, sym, subst, arith}
use Rattle.std.proofs.lemmas.List.Elements.{All-cons, All-nil}
use Rattle.cq_base.specs.declared.lang.Lang.{Lang}
use Rattle.cq_base.specs.declared.settings.Settings.{Settings}
use Rattle.cq_history.specs.declared.event.Event.{Event}
use Rattle.cq_history.specs.declared.event.Event.TheVariants.{Accept, Ask, Took, Back, Done, Publish, Open, Shut, Floor}
use Rattle.cq_history.specs.State.{State, state, accepted}
use Rattle.cq_history.specs.Core.{IsReached, IsAppliedFor}
use Rattle.cq_history.proofs.States.{state_push, Lawful_last, Lawful-prefix}
use Rattle.cq_history.proofs.Prefixes.{accepted-append}
use Rattle.cq_history.proofs.Bounds.{in_order}
use Rattle.cq_history.proofs.Cores.{floor-rises}
use Rattle.cq_history.proofs.Falling.{stays_reached}
use Rattle.cq_shard.specs.Shard as shard
use Rattle.cq_shard.specs.Shard.{Contents, HasWindow}
use Rattle.cq_shard.proofs.Standing.{later_stands}
use Rattle.cq_chain.specs.declared.about.About.{About}
use Rattle.cq_chain.specs.Held.{IsLawful, IsShardOf, IsShardAt, asks}

applied_for : (e : Event) (applied : ℕ) → asks e ≤ applied → IsAppliedFor (applied ∷ []) e
applied_for (Accept by change) applied ask = tt
applied_for (Ask by) applied ask = tt
applied_for (Took by r) applied ask = tt
applied_for (Back by r) applied ask = tt
applied_for (Done by r) applied ask = tt
applied_for (Publish p) applied ask = All-cons (λ a. p ≤ a) applied [] ask (All-nil (λ a. p ≤ a))
applied_for (Open by p) applied ask = tt
applied_for (Shut by) applied ask = tt
applied_for (Floor f) applied ask = tt

shard_lasts : (IsWindow : Lang → List ℕ → ℕ → ℕ → Type 0) (about : About) (log : List Event) (e : Event) (number : ℕ) (x : Contents)
    → IsLawful about (log ++ e ∷ []) → asks e ≤ x.applied → IsShardOf IsWindow about log number x → IsShardOf IsWindow about (log ++ e ∷ []) number x
shard_lasts IsWindow about log e number x law ask is =
    let s = state about.callers log in
    let order = in_order about.settings about.callers log (Lawful-prefix about.settings about.callers log (e ∷ []) law.lawful) in
    let now = state_push about.callers log e in
    let may = Lawful_last about.settings about.callers log e law.lawful in
    let low : x.floor ≤ x.applied = omega (arith, is.swept, order.floor, is.reached.0) in
    record {
      stands = subst (λ cs. shard.StandsFor IsWindow cs x) (sym (accepted-append log (e ∷ []))) (later_stands IsWindow (accepted log) (accepted (e ∷ [])) x low is.stands);
      reached = subst (λ t. IsReached t x.applied) (sym now) (stays_reached s e x.applied (applied_for e x.applied ask) is.reached);
      swept = subst (λ (t : State). x.floor ≤ t.floor) (sym now) (omega (arith, is.swept, floor-rises about.settings s e may));
      number_is = is.number_is;
      shards = is.shards;
    }

pub lasts : {W : Type 0} (keys_in : W → List ℕ) (IsWorkOf : Settings → Lang → List ℕ → W → Type 0) (about : About) (log : List Event) (e : Event) (number applied : ℕ) (x : Contents)
    → IsLawful about (log ++ e ∷ []) → asks e ≤ applied → IsShardAt keys_in IsWorkOf about log number applied x → IsShardAt keys_in IsWorkOf about (log ++ e ∷ []) number applied x
lasts keys_in IsWorkOf about log e number applied x law ask is =
    (is.0, shard_lasts (HasWindow keys_in IsWorkOf about.settings) about log e number x law (subst (λ (n : ℕ). asks e ≤ n) is.0 ask) is.1)

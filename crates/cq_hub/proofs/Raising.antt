-- The floor of a board is raised, and a shard is swept up to it.
use Rattle.std.proofs.Common.{◌≡◌, ℕ, ◌≤◌, Bool, true, false, inl, inr, List, [], ◌∷◌, ◌++◌, length, get_or, Option, Some, None, refl, sym, ap, ◌∙◌, subst, ⊎_elim, arith}
use Rattle.std.specs.Prelude.{◌⊎◌, ◌↔◌, All, IsTrue}
use Rattle.std.specs.Bool.{OnTrue, OnFalse}
use Rattle.std.proofs.lemmas.Bool.{cases_lt, OnTrue_at, OnFalse_at, iff_false}
use Rattle.std.proofs.lemmas.List.{get_or_default}
use Rattle.cq_base.specs.declared.lang.Lang.{Lang}
use Rattle.cq_base.specs.declared.settings.Settings.{Settings}
use Rattle.cq_history.specs.declared.event.Event.{Event}
use Rattle.cq_history.specs.declared.event.Event.TheVariants.{Floor}
use Rattle.cq_history.specs.Gone.{AreKeptPuts}
use Rattle.cq_history.specs.State.{State, state, changes_in}
use Rattle.cq_history.specs.Lawful.{IsBelow, Permits}
use Rattle.cq_history.proofs.States.{state_push}
use Rattle.cq_history.proofs.Bounds.{InOrder, in_order}
use Rattle.cq_shard.specs.Shard.{Contents}
use Rattle.cq_shard.proofs.Sweeping.{stands_swept}
use Rattle.cq_board.specs.Answers.{greatest_floor}
use Rattle.cq_board.specs.Stands.{BoardState, StandsFor, Adds}
use Rattle.cq_board.proofs.Floors.{fits_all, all_fit}
use Rattle.cq_hub.specs.Hubs.{Grows, IsFloor}
use Rattle.cq_hub.specs.Shards.{IsShardOf, IsSweptTo}
use Rattle.cq_hub.specs.Solos.{IsSoloOf}
use Rattle.cq_hub.proofs.Growing.{grows_none}
use Rattle.cq_hub.proofs.Soloing.{solo_state, solo_adds}

-- ---- the floor

if_some : (f : ℕ) (view : Option ℕ) → ((p : ℕ) → view ≡ Some p → f ≤ p) → IsBelow f view
if_some f None each = tt
if_some f (Some p) each = each p refl

all_below : (f : ℕ) (views : List (Option ℕ)) → ((by p : ℕ) → get_or views by None ≡ Some p → f ≤ p) → All (IsBelow f) views
all_below f views each k d lt = if_some f (get_or views k d) (λ p is. each k p (get_or_default views k None d lt ∙ is))

-- the floor is at most the greatest that there may be
floor_fits : (h : List Event) (b : BoardState) → StandsFor h b → b.state.floor ≤ greatest_floor b.state
floor_fits h b is =
    let order : InOrder b.state = subst InOrder (sym is.is) (in_order b.settings (length b.state.views) h is.lawful) in
    all_fit b.state.floor b.state.published b.state.views order.floor (all_below b.state.floor b.state.views (λ by p at. (order.views by p at).0))

-- where the greatest may not be set, it is set
pub floor_stays : (h : List Event) (b : BoardState) → StandsFor h b → (Permits b.settings b.state (Floor (greatest_floor b.state)) → ⊥) → b.state.floor ≡ greatest_floor b.state
floor_stays h b is never =
    let low = floor_fits h b is in
    let fits = fits_all (greatest_floor b.state) b.state.published b.state.views (omega arith) in
    ⊎_elim (λ lt. absurd (never (lt, fits.0, fits.1))) (λ ge. omega (arith, low, ge)) (cases_lt b.state.floor (greatest_floor b.state))

-- where it is set, it is so
pub floor_then : (callers : ℕ) (h : List Event) (f : ℕ) → f ≡ greatest_floor (state callers h) → let s = state callers (h ++ Floor f ∷ []) in (s.floor ≡ greatest_floor s) × (f ≡ s.floor)
floor_then callers h f is = subst (λ (s : State). (s.floor ≡ greatest_floor s) × (f ≡ s.floor)) (sym (state_push callers h (Floor f))) (is, refl)

-- a floor, which has no caller
grows_floor : (alone : Type 0) (c f : ℕ) (h : List Event) → Grows alone IsFloor c h (h ++ Floor f ∷ []) []
grows_floor alone c f h = record { more = Floor f ∷ []; after_is = refl; own_is = refl; alone_is = λ a. (inr tt, tt) }

-- The history is this one, or has a floor more. It is the greatest then, and the board and its shards stand for that.
pub record Raised (IsWindow : Lang → List ℕ → ℕ → ℕ → Type 0) (set : Settings) (c : ℕ) (h : List Event) (floor : ℕ) (new : BoardState) (shards : List Contents) : Type 0 where
  pub mid : List Event
  pub others : Grows (Unit {0}) IsFloor c h mid []
  pub greatest : (state 1 mid).floor ≡ greatest_floor (state 1 mid)
  pub told : floor ≡ (state 1 mid).floor
  pub is : IsSoloOf IsWindow set c mid new shards
  pub once : (mid ≡ h) ⊎ ((f : ℕ) × (mid ≡ h ++ Floor f ∷ []))

module _ (IsWindow : Lang → List ℕ → ℕ → ℕ → Type 0) (set : Settings) (c : ℕ) (h : List Event) (old : BoardState) (shards : List Contents) (is : IsSoloOf IsWindow set c h old shards) (floor : ℕ) (greatest : floor ≡ greatest_floor old.state) (new : BoardState) where
  -- the board of a plain hub was to set the greatest floor
  pub solo_raised : (ok : Bool) → OnTrue ok (Adds (Floor floor) old new) → (IsTrue ok ↔ Permits old.settings old.state (Floor floor)) → OnFalse ok (new ≡ old) → Raised IsWindow set c h floor new shards
  solo_raised true adds lawful same =
      let then = floor_then 1 h floor (greatest ∙ ap greatest_floor (solo_state IsWindow set c h old shards is)) in
      record {
        mid = h ++ Floor floor ∷ [];
        others = grows_floor (Unit {0}) c floor h;
        greatest = then.0;
        told = then.1;
        is = solo_adds IsWindow set c h old shards is new (Floor floor) (OnTrue_at refl adds) (λ x there. tt);
        once = inr (floor, refl);
      }
  solo_raised false adds lawful same =
      let at : old.state ≡ state 1 h = solo_state IsWindow set c h old shards is in
      let stays = floor_stays h old is.board (subst (λ f. Permits old.settings old.state (Floor f) → ⊥) greatest (iff_false lawful refl)) in
      record {
        mid = h;
        others = grows_none (Unit {0}) c IsFloor h;
        greatest = subst (λ (s : State). s.floor ≡ greatest_floor s) at stays;
        told = greatest ∙ sym stays ∙ ap (λ (s : State). s.floor) at;
        is = subst (λ b. IsSoloOf IsWindow set c h b shards) (sym (OnFalse_at refl same)) is;
        once = inl refl;
      }

-- whatever the shards are then, the pass stands for the same history, or one with a floor more
pub raised_once : (IsWindow : Lang → List ℕ → ℕ → ℕ → Type 0) (set : Settings) (c : ℕ) (h : List Event) (floor : ℕ) (new : BoardState) (shards : List Contents) (raised : Raised IsWindow set c h floor new shards) {more : List Contents} → IsSoloOf IsWindow set c raised.mid new more
    → IsSoloOf IsWindow set c h new more ⊎ ((f : ℕ) × IsSoloOf IsWindow set c (h ++ Floor f ∷ []) new more)
raised_once IsWindow set c h floor new shards raised {more} is =
    ⊎_elim
    (λ same. inl (subst (λ l. IsSoloOf IsWindow set c l new more) same is))
    (λ added. inr (added.0, subst (λ l. IsSoloOf IsWindow set c l new more) added.1 is))
    raised.once

-- the floor of a board is at most what it has published
pub floor_published : (IsWindow : Lang → List ℕ → ℕ → ℕ → Type 0) (set : Settings) (c : ℕ) (h : List Event) (b : BoardState) (shards : List Contents) → IsSoloOf IsWindow set c h b shards → b.state.floor ≤ b.state.published
floor_published IsWindow set c h b shards is =
    let order : InOrder b.state = subst InOrder (sym is.board.is) (in_order b.settings (length b.state.views) h is.board.lawful) in
    order.floor

-- ---- a shard

-- a shard beside a board, swept up to the board's floor but for what this keeps, stands beside it
pub shard_swept : (IsWindow : Lang → List ℕ → ℕ → ℕ → Type 0) (b : BoardState) (keep : List ℕ) → AreKeptPuts (changes_in b.state) b.state.floor keep → (n : ℕ) (old new : Contents) → IsSweptTo b.state.floor keep old new
    → IsShardOf IsWindow b n old → IsShardOf IsWindow b n new × (new.floor ≡ b.state.floor)
shard_swept IsWindow b keep are n old new how was =
    ⊎_elim
    (λ sweeps. subst (λ (x : Contents). IsShardOf IsWindow b n x × (x.floor ≡ b.state.floor)) (sym sweeps.1) (
      record {
        stands = stands_swept IsWindow (changes_in b.state) old b.state.floor keep (let lt = sweeps.0 in omega (arith, lt)) are was.stands;
        reached = was.reached;
        swept = omega arith;
        number_is = was.number_is;
        shards = was.shards;
      },
      refl,
    ))
    (λ stays. subst (λ (x : Contents). IsShardOf IsWindow b n x × (x.floor ≡ b.state.floor)) (sym stays.1) (was, (let most = was.swept in let ge = stays.0 in omega (arith, ge, most))))
    how

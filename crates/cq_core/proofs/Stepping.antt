-- A core that takes a step.
use Rattle.std.proofs.Common.{◌≡◌, ℕ, zero, suc, ◌<◌, ◌≤◌, List, [], ◌∷◌, ◌++◌, length, map, take, get_or, set, Option, Some, None, refl, sym, ap, ◌∙◌, subst, subst₂, ⊎_elim, arith, append-nil}
use Rattle.std.specs.Prelude.{All, option_map}
use Rattle.std.specs.Arc.{arc_value}
use Rattle.std.proofs.lemmas.Bool.{cases_eq}
use Rattle.std.proofs.lemmas.List.{take-append-le, length-map, length-set, map-set, get_or-map, get_or-set_same, get_or-set_other}
use Rattle.std.proofs.lemmas.List.Sums.{prefix_len-le-length}
use Rattle.cq_base.specs.declared.lang.Lang.{Lang}
use Rattle.cq_base.specs.declared.settings.Settings.{Settings}
use Rattle.cq_base.specs.declared.change.Change.{Change}
use Rattle.cq_history.specs.declared.event.Event.{Event}
use Rattle.cq_history.specs.State.{State, Slot, after, changes_in, accepted, is_done, view_of, state as state_of}
use Rattle.cq_history.specs.Lawful.{Allowed, Lawful}
use Rattle.cq_history.specs.Core.{Core, Step, IsAppliedFor, IsSound, stepped}
use Rattle.cq_history.specs.Core.Step.{Adds}
use Rattle.cq_history.proofs.States.{state_push, Lawful_last}
use Rattle.cq_history.proofs.Prefixes.{changes_after}
use Rattle.cq_history.proofs.Cores.{step_is_sound}
use Rattle.cq_history.proofs.Bounds.{InOrder, in_order}
use Rattle.cq_shard.specs.Shard as shard
use Rattle.cq_shard.specs.Shard.{Contents}
use Rattle.cq_shard.specs.Laws.{StandsOn}
use Rattle.cq_board.specs.Stands as board
use Rattle.cq_board.specs.declared.listing.View.{View}
use Rattle.cq_board.specs.Listings.{IsListing}
use Rattle.cq_core.specs.Cores.{CoreState, applied_of, StandsFor, AreNumbered}
use Rattle.cq_core.specs.Steps.{Takes, IsDone, IsStepped}
use Rattle.cq_core.specs.declared.step.Outcome.{Outcome}
use Rattle.cq_core.specs.Views.{AreViews, IsView, version_in}

abbrev pub core : board.BoardState → List Contents → CoreState
core b shards = record { board = b; shards = shards }

module _ (IsWindow : Lang → List ℕ → ℕ → ℕ → Type 0) (law : StandsOn IsWindow) (old new : board.BoardState) (shards : List Contents) (e : Event) (adds : board.Adds e old new) where
  module _ (k : Core) (is : StandsFor IsWindow k (core old shards)) where
    past : board.StandsFor (k.history ++ e ∷ []) new
    past = adds.history k.history is.past

    same_settings : new.settings ≡ old.settings
    same_settings = adds.settings

    pub state_after : new.state ≡ after old.state e
    state_after =
        past.is ∙ ap (λ n. state_of n (k.history ++ e ∷ [])) adds.callers ∙ state_push (length old.state.views) k.history e
        ∙ ap (λ s. after s e) (sym is.past.is)

    lawful_new : Lawful old.settings (length old.state.views) (k.history ++ e ∷ [])
    lawful_new = subst₂ (λ set n. Lawful set n (k.history ++ e ∷ [])) adds.settings adds.callers past.lawful

    pub allowed_then : Allowed old.settings (state_of (length old.state.views) k.history) e
    allowed_then = Lawful_last old.settings (length old.state.views) k.history e lawful_new

    pub allowed_now : Allowed old.settings old.state e
    allowed_now = subst (λ s. Allowed old.settings s e) (sym is.past.is) allowed_then

    later : List Change
    later = accepted (e ∷ [])

    pub changes_now : changes_in new.state ≡ changes_in old.state ++ accepted (e ∷ [])
    changes_now = ap changes_in state_after ∙ changes_after old.state e

    pub stands_then : IsAppliedFor k.applied e → StandsFor IsWindow (stepped k (Adds e)) (core new shards)
    stands_then reaches = record {
      past = past;
      applied = is.applied;
      floors = is.floors;
      sound = subst₂ (λ set n. IsSound set n (stepped k (Adds e))) (sym adds.settings) (sym adds.callers)
          (step_is_sound old.settings (length old.state.views) k (Adds e) is.sound (allowed_then, reaches));
      shards = λ i d lt.
          subst (λ cs. shard.StandsFor IsWindow cs (get_or shards i d)) (sym changes_now)
          (law (changes_in old.state) (accepted (e ∷ [])) (get_or shards i d) (is.numbered.passed i d lt) (is.shards i d lt));
      numbered = subst (λ set. AreNumbered set.shards shards) (sym adds.settings) is.numbered;
    }

  pub takes : ((k : Core) → StandsFor IsWindow k (core old shards) → IsAppliedFor k.applied e) → Takes IsWindow (Adds e) (core old shards) (core new shards)
  takes reaches = record {
    may = λ k is. (allowed_then k is, reaches k is);
    core = λ k is. stands_then k is (reaches k is);
  }

-- ---- the views

module _ {W : Type 0} (IsWork : Lang → List ℕ → W → Type 0) where
  -- a view of a version that was accepted stays one
  view_stays : (old new : State) (later : List Change) (v : View W) → changes_in new ≡ changes_in old ++ later → v.version ≤ length (changes_in old) → IsView IsWork old v → IsView IsWork new v
  view_stays old new later v more few is =
      subst (λ cs. IsListing IsWork cs (arc_value v.listing)) (sym (ap (take v.version) more ∙ take-append-le v.version (changes_in old) later few)) is

  version_at : (s : State) (views : List (Option (View W))) (i : ℕ) (v : View W) → AreViews IsWork s views → i < length views → ((d : Option (View W)) → get_or views i d ≡ Some v) → view_of s i ≡ Some v.version
  version_at s views i v are lt here =
      ap (λ vs. get_or vs i None) (sym are.versions) ∙ get_or-map (option_map version_in) views i None None lt ∙ ap (option_map version_in) (here None)

  pub accepted_version : (set : Settings) (callers : ℕ) (h : List Event) (s : State) (by p : ℕ) → s ≡ state_of callers h → Lawful set callers h → view_of s by ≡ Some p → p ≤ length (changes_in s)
  accepted_version set callers h s by p is lawful opened =
      let order : InOrder s = subst InOrder (sym is) (in_order set callers h lawful) in
      let view = order.views by p opened in
      omega (arith, view.1, order.published, prefix_len-le-length is_done s.slots, length-map s.slots (λ (slot : Slot). slot.change))

  module _ (IsWindow : Lang → List ℕ → ℕ → ℕ → Type 0) (law : StandsOn IsWindow) (old new : board.BoardState) (shards : List Contents) (e : Event) (adds : board.Adds e old new) (k : Core) (is : StandsFor IsWindow k (core old shards)) (views : List (Option (View W))) (are : AreViews IsWork old.state views) where
    -- the views as they were
    pub views_stay : (after old.state e).views ≡ old.state.views → AreViews IsWork new.state views
    views_stay same = record {
      versions = are.versions ∙ sym same ∙ ap (λ (s : State). s.views) (sym (state_after IsWindow law old new shards e adds k is));
      each = λ i v lt here.
          view_stays old.state new.state (accepted (e ∷ [])) v (changes_now IsWindow law old new shards e adds k is)
          (accepted_version old.settings (length old.state.views) k.history old.state i v.version is.past.is is.past.lawful (version_at old.state views i v are lt here))
          (are.each i v lt here);
    }

    -- one caller's view is another one now, or none
    pub view_set : (by : ℕ) (view : Option (View W)) → (after old.state e).views ≡ set old.state.views by (option_map version_in view) → ((v : View W) → view ≡ Some v → IsView IsWork new.state v) → AreViews IsWork new.state (set views by view)
    view_set by view changed is_view = record {
      versions = map-set (option_map version_in) views by view ∙ ap (λ vs. set vs by (option_map version_in view)) are.versions ∙ sym changed ∙ ap (λ (s : State). s.views) (sym (state_after IsWindow law old new shards e adds k is));
      each = λ i v lt here.
          let within : i < length views = omega (arith, lt, length-set views by view) in
          ⊎_elim
          (λ (same : i ≡ by). is_view v (sym (ap (λ n. get_or (set views n view) i None) (sym same) ∙ get_or-set_same views i view None within) ∙ here None))
          (λ other.
          let there : (d : Option (View W)) → get_or views i d ≡ Some v = λ d. sym (get_or-set_other views by i view d other) ∙ here d in
          view_stays old.state new.state (accepted (e ∷ [])) v (changes_now IsWindow law old new shards e adds k is)
          (accepted_version old.settings (length old.state.views) k.history old.state i v.version is.past.is is.past.lawful (version_at old.state views i v are within there))
          (are.each i v within there))
          (cases_eq i by);
    }

-- what a core keeps
abbrev pub Keeps : {W : Type 0} → (Settings → Lang → List ℕ → ℕ → ℕ → Type 0) → (Settings → Lang → List ℕ → W → Type 0) → board.BoardState → List Contents → List (Option (View W)) → Type 0
Keeps window_at work_at b shards views = ((k : Core) × StandsFor (window_at b.settings) k (core b shards)) × AreViews (work_at b.settings) b.state views

module _ {W : Type 0} (window_at : Settings → Lang → List ℕ → ℕ → ℕ → Type 0) (law : (set : Settings) → StandsOn (window_at set)) (work_at : Settings → Lang → List ℕ → W → Type 0) (old new : board.BoardState) (shards : List Contents) (views : List (Option (View W))) (keeps : Keeps window_at work_at old shards views) (e : Event) (adds : board.Adds e old new) where
  pub keeps_on : ((k : Core) → StandsFor (window_at old.settings) k (core old shards) → IsAppliedFor k.applied e) → (after old.state e).views ≡ old.state.views → Keeps window_at work_at new shards views
  keeps_on reaches same =
      let k = keeps.0.0 in
      let is = keeps.0.1 in
      subst (λ set. ((j : Core) × StandsFor (window_at set) j (core new shards)) × AreViews (work_at set) new.state views) (sym adds.settings) (
        (stepped k (Adds e), stands_then (window_at old.settings) (law old.settings) old new shards e adds k is (reaches k is)),
        views_stay (work_at old.settings) (window_at old.settings) (law old.settings) old new shards e adds k is views keeps.1 same,
      )

  -- with one caller's view set
  pub keeps_view : ((k : Core) → StandsFor (window_at old.settings) k (core old shards) → IsAppliedFor k.applied e) → (by : ℕ) (view : Option (View W)) → (after old.state e).views ≡ set old.state.views by (option_map version_in view) → accepted (e ∷ []) ≡ [] →
      ((v : View W) → view ≡ Some v → IsView (work_at old.settings) old.state v) → Keeps window_at work_at new shards (set views by view)
  keeps_view reaches by view changed none is_view =
      let k = keeps.0.0 in
      let is = keeps.0.1 in
      let same : changes_in new.state ≡ changes_in old.state = changes_now (window_at old.settings) (law old.settings) old new shards e adds k is ∙ ap (λ cs. changes_in old.state ++ cs) none ∙ append-nil (changes_in old.state) in
      subst (λ set₁. ((j : Core) × StandsFor (window_at set₁) j (core new shards)) × AreViews (work_at set₁) new.state (set views by view)) (sym adds.settings) (
        (stepped k (Adds e), stands_then (window_at old.settings) (law old.settings) old new shards e adds k is (reaches k is)),
        view_set (work_at old.settings) (window_at old.settings) (law old.settings) old new shards e adds k is views keeps.1 by view changed
            (λ v at. subst (λ cs. IsListing (work_at old.settings) (take v.version cs) (arc_value v.listing)) (sym same) (is_view v at)),
      )

  -- what is allowed of it
  pub allowed_of : Allowed old.settings old.state e
  allowed_of = allowed_now (window_at old.settings) (law old.settings) old new shards e adds keeps.0.0 keeps.0.1

  -- the step is done
  pub steps_on : ((k : Core) → StandsFor (window_at old.settings) k (core old shards) → IsAppliedFor k.applied e) → (o : Outcome) → IsDone o → IsStepped (window_at old.settings) (Adds e) (core old shards) (core new shards) o
  steps_on reaches o done = record {
    settings = adds.settings;
    callers = adds.callers;
    done = λ _. takes (window_at old.settings) (law old.settings) old new shards e adds reaches;
    not_done = λ not. absurd (not done);
  }

-- it is not
pub stays : (IsWindow : Lang → List ℕ → ℕ → ℕ → Type 0) (st : Step) (old new : board.BoardState) (shards : List Contents) (o : Outcome) → (IsDone o → ⊥) → new ≡ old → IsStepped IsWindow st (core old shards) (core new shards) o
stays IsWindow st old new shards o not same = record {
  settings = ap (λ (b : board.BoardState). b.settings) same;
  callers = ap (λ (b : board.BoardState). length b.state.views) same;
  done = λ done. absurd (not done);
  not_done = λ _. ap (λ b. core b shards) same;
}

pub keeps_same : {W : Type 0} (window_at : Settings → Lang → List ℕ → ℕ → ℕ → Type 0) (work_at : Settings → Lang → List ℕ → W → Type 0) (old new : board.BoardState) (shards : List Contents) (views : List (Option (View W))) → new ≡ old → Keeps window_at work_at old shards views → Keeps window_at work_at new shards views
keeps_same window_at work_at old new shards views same keeps = subst (λ b. Keeps window_at work_at b shards views) (sym same) keeps

-- each shard has applied so much
pub all_applied : (v : ℕ) (shards : List Contents) → All (λ s. v ≤ s.applied) shards → All (λ a. v ≤ a) (map applied_of shards)
all_applied v shards all k d lt =
    let within : k < length shards = omega (arith, lt, length-map shards applied_of) in
    let none : Contents = record { shard = 0; shards = 0; applied = 0; floor = 0; puts = []; entries = [] } in
    let here = all k none within in
    subst (λ n. v ≤ n) (sym (get_or-map applied_of shards k none d within)) here

pub applied_all : (v : ℕ) (shards : List Contents) → All (λ a. v ≤ a) (map applied_of shards) → All (λ s. v ≤ s.applied) shards
applied_all v shards all k d lt =
    let within : k < length (map applied_of shards) = omega (arith, lt, length-map shards applied_of) in
    subst (λ n. v ≤ n) (get_or-map applied_of shards k d 0 lt) (all k 0 within)

-- the view that a caller has
module _ {W : Type 0} (IsWork : Lang → List ℕ → W → Type 0) (s : State) (views : List (Option (View W))) (are : AreViews IsWork s views) where
  pub views_number : length views ≡ length s.views
  views_number = sym (length-map views (option_map version_in)) ∙ ap length are.versions

  pub view_at : (by : ℕ) (o : Option (View W)) (v : View W) → by < length s.views → o ≡ get_or views by o → o ≡ Some v → IsView IsWork s v × (view_of s by ≡ Some v.version)
  view_at by o v within read is =
      let lt : by < length views = omega (arith, within, views_number) in
      let here : (d : Option (View W)) → get_or views by d ≡ Some v = λ d. default_same views by d o lt ∙ sym read ∙ is in
      (are.each by v lt here, version_at IsWork s views by v are lt here)
    where
      default_same : {X : Type 0} (xs : List X) (i : ℕ) (d e : X) → i < length xs → get_or xs i d ≡ get_or xs i e
      default_same [] i d e lt = absurd (omega (arith, lt))
      default_same (x ∷ xs) zero d e lt = refl
      default_same (x ∷ xs) (suc i) d e lt = default_same xs i d e (omega (arith, lt))

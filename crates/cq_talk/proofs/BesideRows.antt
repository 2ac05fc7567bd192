-- What a talk's histories keep where the hub's other callers accept no changes.
use Rattle.std.proofs.Common.{◌≡◌, ◌==◌, ℕ, ◌+◌, ◌-◌, ◌<◌, ◌≤◌, Bool, true, false, cond, fold, not, List, [], ◌∷◌, ◌++◌, length, get_or, Option, Some, None, Ok, Err, refl, sym, ap, ◌∙◌, subst, inl, inr, ⊎_elim, arith, true≢false}
use Rattle.std.specs.Prelude.{◌||◌}
use Rattle.std.specs.List.{AllByRecursion}
use Rattle.std.proofs.lemmas.Bool.{cases_eq, ne_eqb}
use Rattle.std.proofs.lemmas.List.{get_or-map, get_or_default}
use Rattle.std.proofs.lemmas.List.Sums.{prefix_len_stops}
use Rattle.cq_base.specs.declared.settings.Settings.{Settings}
use Rattle.cq_base.specs.declared.change.Change.{Change}
use Rattle.cq_history.specs.Changes.{is_put}
use Rattle.cq_history.specs.declared.event.Event.{Event}
use Rattle.cq_history.specs.declared.event.Event.TheVariants.{Accept, Ask, Took, Back, Done, Publish, Open, Shut, Floor}
use Rattle.cq_history.specs.Lasts.{view_in, view_after}
use Rattle.cq_history.specs.State.{Slot, no_slot, state, accepted, own, is_done, ready}
use Rattle.cq_history.specs.Lawful.{Lawful}
use Rattle.cq_history.proofs.States.{Lawful-prefix}
use Rattle.cq_board.specs.Answers.{greatest_floor}
use Rattle.cq_history.proofs.Openings.{view_is, view_own}
use Rattle.cq_history.proofs.Prefixes.{changes_in-state, own-append}
use Rattle.cq_history.proofs.Falling.{never_falls}
use Rattle.cq_history.proofs.Doing.{slots_number}
use Rattle.cq_request.specs.declared.request.Query.{Query}
use Rattle.cq_request.specs.declared.request.Request.TheVariants as request
use Rattle.cq_hub.specs.Hubs.{Grows}
use Rattle.cq_talk.specs.Said.{Said, TooLong, Read}
use Rattle.cq_talk.specs.Talk.{Asks, IsServed, IsGivenUp}
use Rattle.cq_talk.specs.Beside.{IsPut}
use Rattle.cq_talk.specs.Laws.{ActsBy}
use Rattle.cq_talk.proofs.GoingOn.{GoesOnTo, by_one}
use Rattle.cq_talk.proofs.Served.{asks_grow, served_accept_none, served_grows, shut_last, none_open}
use Rattle.cq_talk.proofs.Unmade.{none_more}

pub all_before : {A : Type 0} (P : A → Type 0) (xs ys : List A) → AllByRecursion P (xs ++ ys) → AllByRecursion P xs
all_before P [] ys all = tt
all_before P (x ∷ xs) ys all = (all.0, all_before P xs ys all.1)

pub all_behind : {A : Type 0} (P : A → Type 0) (xs ys : List A) → AllByRecursion P (xs ++ ys) → AllByRecursion P ys
all_behind P [] ys all = all
all_behind P (x ∷ xs) ys all = all_behind P xs ys all.1

-- ---- views

quiet_view : (c w : ℕ) (e : Event) → (w ≡ c → ⊥) → ActsBy c e → view_after w None e ≡ None
quiet_view c w (Accept by change) other acts = refl
quiet_view c w (Ask by) other acts = refl
quiet_view c w (Took by r) other acts = refl
quiet_view c w (Back by r) other acts = refl
quiet_view c w (Done by r) other acts = refl
quiet_view c w (Publish p) other acts = refl
quiet_view c w (Open by p) other acts = ap (λ b. cond b (Some p) None) (ne_eqb w by (λ same. other (same ∙ acts)))
quiet_view c w (Shut by) other acts = by_both (w == by)
  where
    by_both : (b : Bool) → cond {A = Option ℕ} b None None ≡ None
    by_both true = refl
    by_both false = refl
quiet_view c w (Floor f) other acts = refl

-- no other caller has a view open
others_shut : (c w : ℕ) (h : List Event) → (w ≡ c → ⊥) → AllByRecursion (ActsBy c) h → view_in w h ≡ None
others_shut c w [] other all = refl
others_shut c w (e ∷ h) other all = ap (λ v. fold (view_after w) v h) (quiet_view c w e other all.0) ∙ others_shut c w h other all.1

-- ---- what stays and what rises

-- the history is lawful, and the other callers accept no changes and open no views in it
pub record Fair (set : Settings) (callers c : ℕ) (h : List Event) : Type 0 where
  pub law : Lawful set callers h
  pub accepts : AllByRecursion (ActsBy c) h

-- nothing more is accepted, and neither what is published nor the floor is taken back
pub record Keeps (callers : ℕ) (h later : List Event) : Type 0 where
  pub accepted_is : accepted later ≡ accepted h
  pub published : (state callers h).published ≤ (state callers later).published
  pub floor : (state callers h).floor ≤ (state callers later).floor

module _ (set : Settings) (callers : ℕ) (alone : Type 0) (c : ℕ) where
  pub fair_before : (h later : List Event) → GoesOnTo alone c h later → Fair set callers c later → Fair set callers c h
  fair_before h later on fair = record {
    law = Lawful-prefix set callers h on.more (subst (Lawful set callers) on.later_is fair.law);
    accepts = all_before (ActsBy c) h on.more (subst (AllByRecursion (ActsBy c)) on.later_is fair.accepts);
  }

  published_rises : (h later more : List Event) → later ≡ h ++ more → Lawful set callers later → (state callers h).published ≤ (state callers later).published
  published_rises h later more is law = subst (λ g. (state callers h).published ≤ (state callers g).published) (sym is) (never_falls set callers h more (subst (Lawful set callers) is law)).1

  floor_rises : (h later more : List Event) → later ≡ h ++ more → Lawful set callers later → (state callers h).floor ≤ (state callers later).floor
  floor_rises h later more is law = subst (λ g. (state callers h).floor ≤ (state callers g).floor) (sym is) (never_falls set callers h more (subst (Lawful set callers) is law)).2

  -- where none of the caller's own further events accepts a change, whatever the others do
  pub keeps : {May : Event → Type 0} (h later es : List Event) → accepted es ≡ [] → Grows alone May c h later es → Fair set callers c later → Keeps callers h later
  keeps h later es none grows fair =
      let accepts : AllByRecursion (ActsBy c) grows.more = all_behind (ActsBy c) h grows.more (subst (AllByRecursion (ActsBy c)) grows.after_is fair.accepts) in
      record {
        accepted_is = none_more c h later grows.more grows.after_is (ap accepted grows.own_is ∙ none) accepts;
        published = published_rises h later grows.more grows.after_is fair.law;
        floor = floor_rises h later grows.more grows.after_is fair.law;
      }

  pub keeps_asking : (h later : List Event) → Asks alone c h later → Fair set callers c later → Keeps callers h later
  keeps_asking h later asks fair = keeps h later (Ask c ∷ []) refl (asks_grow alone c h later asks) fair

  -- what holds at the question
  pub keeps_to_ask : (h later : List Event) → (asks : Asks alone c h later) → Fair set callers c later → Fair set callers c asks.mid × Keeps callers h asks.mid
  keeps_to_ask h later asks fair =
      let before = fair_before asks.mid later (by_one alone c asks.mid later (Ask c) refl asks.asks) fair in
      (before, keeps h asks.mid [] refl asks.waits before)

  pub keeps_serving : (seen : ℕ) (q : Query) (h later : List Event) (view : Option ℕ) → IsServed set callers alone c seen q h later view → Fair set callers c later → Keeps callers h later
  keeps_serving seen q h later view is fair = keeps h later _ (served_accept_none c is.finished view) (served_grows set callers alone c seen q h later view is) fair

  -- after a view that the caller shut, the greatest floor is the published version
  pub served_greatest : (seen : ℕ) (q : Query) (h later : List Event) (v : ℕ) → IsServed set callers alone c seen q h later (Some v) → Fair set callers c later → greatest_floor (state callers later) ≡ (state callers later).published
  served_greatest seen q h later v is fair =
      let grows = served_grows set callers alone c seen q h later (Some v) is in
      none_open (state callers later).views (state callers later).published (λ k d within.
      get_or_default (state callers later).views k d None within ∙ view_is set callers later k fair.law
      ∙ ⊎_elim
      (λ (same : k ≡ c). subst (λ w. view_in w later ≡ None) (sym same) (view_own c later ∙ ap (view_in c) (ap (own c) grows.after_is ∙ own-append c h grows.more ∙ ap (λ es. own c h ++ es) grows.own_is) ∙ shut_last c (own c h) is.finished v))
      (λ other. others_shut c k later other fair.accepts)
      (cases_eq k c))

  pub keeps_giving_up : (seen : ℕ) (h later : List Event) (l : Said) → IsGivenUp set callers alone c seen h l later → Fair set callers c later → Keeps callers h later
  keeps_giving_up seen h later TooLong is fair = absurd is
  keeps_giving_up seen h later (Read (Err why)) is fair = keeps h later [] refl is fair
  keeps_giving_up seen h later (Read (Ok (request.Change change))) is fair = keeps h later [] refl is fair
  keeps_giving_up seen h later (Read (Ok (request.Query q))) (inl waits) fair = keeps h later [] refl waits fair
  keeps_giving_up seen h later (Read (Ok (request.Query q))) (inr (inl asks)) fair = keeps_asking h later asks fair
  keeps_giving_up seen h later (Read (Ok (request.Query q))) (inr (inr served)) fair = keeps_serving seen q h later served.0 served.1 fair
  keeps_giving_up seen h later (Read (Ok request.State)) (inl waits) fair = keeps h later [] refl waits fair
  keeps_giving_up seen h later (Read (Ok request.State)) (inr asks) fair = keeps_asking h later asks fair

-- ---- the least change that isn't done is a put

put_undone : (slot : Slot) → is_done slot ≡ false → is_put slot.change ≡ true
put_undone slot is = by_kind (is_put slot.change) slot.finished is
  where
    by_kind : (b f : Bool) → (not b || f) ≡ false → b ≡ true
    by_kind true f is = refl
    by_kind false f is = absurd (true≢false is)

pub undone_put : (callers : ℕ) (h : List Event) (changes : List Change) (n : ℕ) → accepted h ≡ changes → n ≡ ready (state callers h) + 1 → n ≤ length (state callers h).slots → IsPut changes n
undone_put callers h changes n is at_most within =
    let s = state callers h in
    let less : ready s < length s.slots = omega (arith, at_most, within) in
    let one : n - 1 ≡ ready s = omega (arith, at_most) in
    let many : length s.slots ≡ length changes = slots_number callers h ∙ ap length is in
    let there₁ : get_or changes (ready s) no_slot.change ≡ (get_or s.slots (ready s) no_slot).change =
    ap (λ cs. get_or cs (ready s) no_slot.change) (sym (changes_in-state callers h ∙ is)) ∙ get_or-map (λ (slot : Slot). slot.change) s.slots (ready s) no_slot no_slot.change less in (
      (omega (arith, at_most), omega (arith, within, many)),
      ap (λ i. is_put (get_or changes i no_slot.change)) one ∙ (ap is_put there₁ ∙ put_undone (get_or s.slots (ready s) no_slot) (prefix_len_stops is_done s.slots no_slot less)),
    )

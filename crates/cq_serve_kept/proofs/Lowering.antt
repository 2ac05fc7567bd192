-- What the first pass of a hub knows that let go of all that it can, and why a change is not taken then.
use Rattle.std.proofs.Common.{◌≡◌, ◌≢◌, ◌⊎◌, ℕ, zero, suc, ◌+◌, ◌-◌, ◌<◌, ◌≤◌, Bool, true, false, not, ◌&&◌, List, [], ◌∷◌, ◌++◌, length, fold, get_or, Option, Some, None, Result, Ok, refl, sym, ap, ◌∙◌, subst, ⊎_elim, arith, append-nil, true≢false}
use Rattle.std.specs.Prelude.{is_none, Contains}
use Rattle.std.proofs.lemmas.List.Sums.{fails_before_first, prefix_len-le-length}
use Rattle.cq_base.proofs.Lists.{Contains-nil}
use Rattle.cq_base.specs.declared.change.Change.{Change}
use Rattle.cq_base.specs.declared.change.Change.TheVariants.{Put, Drop, Gate}
use Rattle.cq_base.specs.declared.memory.Memory.{Memory}
use Rattle.cq_base.specs.declared.refusal.Refusal.{Refusal}
use Rattle.cq_base.specs.declared.settings.Settings.{Settings}
use Rattle.cq_board.specs.Answers.{asked_of, cause_among, greatest_floor, lower}
use Rattle.cq_board.specs.declared.answers.Asked.{Asked}
use Rattle.cq_board.specs.declared.answers.Refused.{Refused}
use Rattle.cq_board.specs.declared.answers.Refused.TheVariants as refused
use Rattle.cq_cells.specs.Passes.{by_of}
use Rattle.cq_chain.specs.Passes.{BoardPass}
use Rattle.cq_history.specs.Lawful.{Lawful, is_absent, is_full, is_long}
use Rattle.cq_history.specs.State.{accepted, is_done, is_free, no_slot, ready, slot_of, view_of, AreDoneUpTo, IsTakenBy}
use Rattle.cq_history.specs.declared.event.Event.{Event}
use Rattle.cq_history.specs.declared.event.Event.TheVariants.{Accept, Ask, Took}
use Rattle.cq_history.proofs.Bounds.{in_order}
use Rattle.cq_history.proofs.Doing.{ready_greatest, slots_number}
use Rattle.cq_history.proofs.Falling.{never_falls}
use Rattle.cq_history.proofs.Holding.{taken_since}
use Rattle.cq_history.proofs.States.{Lawful-prefix}
use Rattle.cq_hub.specs.Hubs.{Never}
use Rattle.cq_hub.specs.Says.{HasGreatestFloor, HasPublished, IsNoneFree, IsRefusedFor}
use Rattle.cq_hub.proofs.Growing.{rises}
use Rattle.cq_log.specs.Logs.{is_accepted}
use Rattle.cq_request.specs.Reading.{line_says}
use Rattle.cq_request.specs.declared.request.Query.{Query}
use Rattle.cq_request.specs.declared.request.Request.{Request}
use Rattle.cq_request.specs.declared.request.Request.TheVariants as request
use Rattle.cq_serve.proofs.Easing.{unmade_closed}
use Rattle.cq_shared.specs.Answers.{Sweeps}
use Rattle.cq_shared.specs.Calls.{Calls}
use Rattle.cq_shared.specs.SharedPasses.{callers_of, settings_of, state_of}
use Rattle.cq_shared.specs.declared.shared.Shared.{Shared}
use Rattle.cq_talk.specs.Causes.{cause, state_at}
use Rattle.cq_talk.proofs.Causing.{cause_is}
use Rattle.cq_talk.proofs.Talking.{published_few}
use Rattle.cq_serve_kept.specs.Reloads.{HasTaken, IsDone, IsLow, TakesSaid}
use Rattle.cq_serve_kept.proofs.Continuing.{each_accepted}
use Rattle.cq_serve_kept.proofs.FirstPass.{lawful_seen, none_other, taken_accepted, taken_asked, taken_waited}

no_views : (n : ℕ) (views : List (Option ℕ)) → ((c : ℕ) → get_or views c None ≡ None) → fold lower n views ≡ n
no_views n [] none = refl
no_views n (v ∷ views) none = subst (λ (o : Option ℕ). fold lower (lower n o) views ≡ n) (sym (none 0)) (no_views n views (λ c. none (suc c)))

-- ---- causes against a change

same_absence : (changes : List Change) (low high : ℕ) (change : Change) → is_absent (state_at changes low) change ≡ is_absent (state_at changes high) change
same_absence changes low high (Put project path lang text) = refl
same_absence changes low high (Drop project path) = refl
same_absence changes low high (Gate project conditions) = refl

absent_of : (absent full long : Bool) → cause_among absent full long ≡ Some refused.Absent → absent ≡ true
absent_of true full long is = refl
absent_of false true long is = absurd (cc (is))
absent_of false false true is = absurd (cc (is))
absent_of false false false is = absurd (cc (is))

-- a drop of what is not there is refused whatever the floor is
absent_anywhere : (set : Settings) (changes : List Change) (low high : ℕ) (change : Change) → cause set changes low change ≡ Some refused.Absent → cause set changes high change ≡ Some refused.Absent
absent_anywhere set changes low high change is =
    let there = absent_of (is_absent (state_at changes low) change) (is_full set (state_at changes low)) (is_long set (state_at changes low) change) is in
    ap (λ (b : Bool). cause_among b (is_full set (state_at changes high)) (is_long set (state_at changes high) change)) (sym (same_absence changes low high change) ∙ there)

-- ---- what a line says

pub same_change : (says : Result Request Refusal) (a b : Change) → says ≡ Ok (request.Change a) → says ≡ Ok (request.Change b) → a ≡ b
same_change says a b one two =
    let left : Result Request Refusal = Ok (request.Change a) in
    let both : left ≡ Ok (request.Change b) = sym one ∙ two in
    cc (both)

pub no_query : (says : Result Request Refusal) (query : Query) (change : Change) → says ≡ Ok (request.Query query) → says ≡ Ok (request.Change change) → ⊥
no_query says query change one two =
    let left : Result Request Refusal = Ok (request.Query query) in
    let both : left ≡ Ok (request.Change change) = sym one ∙ two in
    cc (both)

pub no_state : (says : Result Request Refusal) (change : Change) → says ≡ Ok request.State → says ≡ Ok (request.Change change) → ⊥
no_state says change one two =
    let left : Result Request Refusal = Ok request.State in
    let both : left ≡ Ok (request.Change change) = sym one ∙ two in
    cc (both)

module _ {W R : Type 0} (hub : Shared W R) (set : Settings) (changes : List Change) where
  -- nobody has a change in hand
  nobody_holds : (p : BoardPass) → HasTaken hub p set changes → (r c : ℕ) → IsTakenBy (state_of hub p.seen) r c → ⊥
  nobody_holds p is r zero taken = is.ease.hands r taken
  nobody_holds p is r (suc c) taken =
      ⊎_elim
      (λ before. let some = before.0.0.0 in let few = before.0.0.1 in absurd (omega (arith, some, few)))
      (λ took. Contains-nil (Took (suc c) r) (subst (λ (es : List Event). Contains es (Took (suc c) r)) (none_other hub set changes p is (suc c) (omega arith)) took))
      (taken_since (settings_of hub) (callers_of hub) [] p.seen (suc c) r (lawful_seen hub p is.of) taken)

  -- if no change is neither done nor taken, all are done
  all_done : (p : BoardPass) → HasTaken hub p set changes → IsNoneFree (state_of hub p.seen) → IsDone hub p
  all_done p is none =
      let s = state_of hub p.seen in
      let each : AreDoneUpTo s (length s.slots) = λ r some few. ((some, few), go r some few (is_done (slot_of s r)) (slot_of s r).holder refl refl (fails_before_first is_free s.slots (r - 1) no_slot (omega (arith, none, some, few)))) in
      let most = (ready_greatest s).1 (length s.slots) each in
      let least = prefix_len-le-length is_done s.slots in
      let many = slots_number (callers_of hub) p.seen in
      omega (arith, most, least, many)
    where
      go : (r : ℕ) → 0 < r → r ≤ length (state_of hub p.seen).slots → (b : Bool) (h : Option ℕ) → is_done (slot_of (state_of hub p.seen) r) ≡ b → (slot_of (state_of hub p.seen) r).holder ≡ h → (not b && is_none h) ≡ false → is_done (slot_of (state_of hub p.seen) r) ≡ true
      go r some few true h done held fails = done
      go r some few false None done held fails = absurd (true≢false fails)
      go r some few false (Some c) done held fails = absurd (nobody_holds p is r c (((some, few), done), held))

  -- so when there is nothing to take
  pub done_taken : (p q : BoardPass) → HasTaken hub p set changes → Calls hub p q [] (λ mid. IsNoneFree (state_of hub mid)) → HasTaken hub q set changes × IsDone hub q
  done_taken p q is call =
      let still = taken_waited hub set changes p is q (λ mid. IsNoneFree (state_of hub mid)) call in
      (still, all_done q still (subst (λ (g : List Event). IsNoneFree (state_of hub g)) (sym (call.seen ∙ append-nil call.mid)) call.says))

  -- no view is open, so the floor that is as high as it may be is at the published version
  all_closed : (p : BoardPass) → HasTaken hub p set changes → (c : ℕ) → view_of (state_of hub p.seen) c ≡ None
  all_closed p is zero = is.ease.closed
  all_closed p is (suc c) = unmade_closed (callers_of hub) (suc c) p.seen (none_other hub set changes p is (suc c) (omega arith))

  floor_low : (p : BoardPass) → HasTaken hub p set changes → (state_of hub p.seen).floor ≡ greatest_floor (state_of hub p.seen) → length changes ≤ (state_of hub p.seen).published → IsLow hub p
  floor_low p is least all =
      let s = state_of hub p.seen in
      let at : s.floor ≡ s.published = least ∙ no_views s.published s.views (all_closed p is) in
      let few = published_few (settings_of hub) (callers_of hub) p.seen (lawful_seen hub p is.of) in
      let many : length (accepted p.seen) ≡ length changes = ap length is.accepts in
      omega (arith, at, few, many, all)

  module _ (p asking : BoardPass) (asked : Asked) (ask : Calls hub p asking (Ask (by_of p) ∷ []) (λ mid. asked ≡ asked_of (state_of hub mid))) where
    lawful_asked : Lawful (settings_of hub) (callers_of hub) (ask.mid ++ Ask (by_of p) ∷ [])
    lawful_asked = subst (Lawful (settings_of hub) (callers_of hub)) ask.seen (lawful_seen hub asking ask.of)

    done_told : asked.done ≡ ready (state_of hub ask.mid)
    done_told = ap (λ (a : Asked). a.done) ask.says

    -- what is done when the hub is asked is done after
    pub done_asked : asked.done ≤ ready (state_of hub asking.seen)
    done_asked =
        let up = (never_falls (settings_of hub) (callers_of hub) ask.mid (Ask (by_of p) ∷ []) lawful_asked).0 in
        let same : ready (state_of hub asking.seen) ≡ ready (state_of hub (ask.mid ++ Ask (by_of p) ∷ [])) = ap (λ (g : List Event). ready (state_of hub g)) ask.seen in
        omega (arith, up, done_told, same)

  -- all works are done, then the hub was asked, what is done was published, and the floor was raised
  module _ (p asking publishing q : BoardPass) (is : HasTaken hub p set changes) (done : IsDone hub p) (asked : Asked) (ask : Calls hub p asking (Ask (by_of p) ∷ []) (λ mid. asked ≡ asked_of (state_of hub mid))) where
    all_asked : length changes ≤ asked.done
    all_asked =
        let law = Lawful-prefix (settings_of hub) (callers_of hub) ask.mid (Ask (by_of p) ∷ []) (lawful_asked p asking asked ask) in
        let up = (rises (callers_of hub) ⊥ Never (by_of p) p.seen ask.mid [] ask.others (settings_of hub) law).0 in
        let told = done_told p asking asked ask in
        let many : length (accepted p.seen) ≡ length changes = ap length is.accepts in
        omega (arith, up, told, many, done)

    pub low_then : (version : ℕ) → Calls hub asking publishing [] (λ mid. HasPublished (state_of hub mid) asked.done version) → (result : Result ℕ Memory) → Sweeps hub publishing q result
        → HasTaken hub q set changes × IsLow hub q
    low_then version advance result sweep =
        let then = taken_waited hub set changes asking (taken_asked hub set changes p is asking (λ mid. asked ≡ asked_of (state_of hub mid)) ask) publishing (λ mid. HasPublished (state_of hub mid) asked.done version) advance in
        let last = taken_waited hub set changes publishing then q (λ mid. HasGreatestFloor (state_of hub mid) result) sweep in
        let there : publishing.seen ≡ advance.mid = advance.seen ∙ append-nil advance.mid in
        let here : q.seen ≡ sweep.mid = sweep.seen ∙ append-nil sweep.mid in
        let law = subst (Lawful (settings_of hub) (callers_of hub)) here (lawful_seen hub q sweep.of) in
        let up = (rises (callers_of hub) ⊥ Never (by_of publishing) publishing.seen sweep.mid [] sweep.others (settings_of hub) law).1 in
        let before : (state_of hub publishing.seen).published ≡ (state_of hub advance.mid).published = ap (λ (g : List Event). (state_of hub g).published) there in
        let after : (state_of hub q.seen).published ≡ (state_of hub sweep.mid).published = ap (λ (g : List Event). (state_of hub g).published) here in
        let version_is = advance.says.0 in
        let least = advance.says.1 in
        let floor = subst (λ (g : List Event). (state_of hub g).floor ≡ greatest_floor (state_of hub g)) (sym here) sweep.says.0 in
        (last, floor_low q last floor (omega (arith, all_asked, up, before, after, version_is, least)))

  -- ---- what is taken, and what is not

  module _ (p q : BoardPass) (is : HasTaken hub p set changes) (change : Change) where
    pub accepted_next : (Says : List Event → Type 0) → Calls hub p q (Accept (by_of p) change ∷ []) Says → (is_accepted set changes change ≡ true) × HasTaken hub q set (changes ++ change ∷ [])
    accepted_next Says call =
        let then = taken_accepted hub set changes p is q change Says call in
        (subst (λ (s : Settings). is_accepted s changes change ≡ true) is.settings (each_accepted (settings_of hub) (callers_of hub) q.seen changes [] change (lawful_seen hub q call.of) then.accepts), then)

    module _ (why : Refused) (call : Calls hub p q [] (IsRefusedFor (settings_of hub) (callers_of hub) change why)) (known : why ≢ refused.Memory) where
      lawful_then : Lawful (settings_of hub) (callers_of hub) call.mid
      lawful_then = subst (Lawful (settings_of hub) (callers_of hub)) (call.seen ∙ append-nil call.mid) (lawful_seen hub q call.of)

      accepted_then : accepted call.mid ≡ changes
      accepted_then = subst (λ (g : List Event). accepted g ≡ changes) (call.seen ∙ append-nil call.mid) (taken_waited hub set changes p is q (IsRefusedFor (settings_of hub) (callers_of hub) change why) call).accepts

      against : cause (settings_of hub) changes (state_of hub call.mid).floor change ≡ Some why
      against = sym (cause_is (settings_of hub) (callers_of hub) call.mid changes change accepted_then) ∙ ⊎_elim (λ memory. absurd (known memory)) (λ says. says) call.says

      not_then : (floor : ℕ) → cause (settings_of hub) changes floor change ≡ Some why → floor ≡ length changes → is_accepted set changes change ≡ false
      not_then floor is_so at =
          subst (λ (s : Settings). is_accepted s changes change ≡ false) is.settings
          (ap (λ (o : Option Refused). is_none o) (subst (λ (n : ℕ). cause (settings_of hub) changes n change ≡ Some why) at is_so))

      -- the floor was at the last change
      pub refused_low : IsLow hub p → is_accepted set changes change ≡ false
      refused_low low =
          let up = (never_falls (settings_of hub) (callers_of hub) p.seen call.others.more (subst (Lawful (settings_of hub) (callers_of hub)) call.others.after_is lawful_then)).2 in
          let same : (state_of hub call.mid).floor ≡ (state_of hub (p.seen ++ call.others.more)).floor = ap (λ (g : List Event). (state_of hub g).floor) call.others.after_is in
          let below = (in_order (settings_of hub) (callers_of hub) call.mid lawful_then).floor in
          let few = published_few (settings_of hub) (callers_of hub) call.mid lawful_then in
          let many : length (accepted p.seen) ≡ length changes = ap length is.accepts in
          let many_then : length (accepted call.mid) ≡ length changes = ap length accepted_then in
          not_then (state_of hub call.mid).floor against (omega (arith, up, same, below, few, many, many_then, low))

    -- a drop of what is not there
    pub refused_absent : Calls hub p q [] (IsRefusedFor (settings_of hub) (callers_of hub) change refused.Absent) → is_accepted set changes change ≡ false
    refused_absent call =
        let absent = absent_anywhere (settings_of hub) changes (state_of hub call.mid).floor (length changes) change (against refused.Absent call (λ is_memory. absurd (cc))) in
        not_then refused.Absent call (λ is_memory. absurd (cc)) (length changes) absent refl

-- the same in the words of whoever takes changes: what it had taken before a refusal, it had taken after it
module _ {W R : Type 0} (hub : Shared W R) (set : Settings) (p m q : BoardPass) (change : Change) (chunk : ℕ) (line : List ℕ) (says : line_says chunk line ≡ Ok (request.Change change))
    (waits : (changes : List Change) → HasTaken hub p set changes → HasTaken hub m set changes) where
  pub taken_as : (Holds : List (List ℕ) → List Change → Bool → Type 0)
      → ((lines : List (List ℕ)) (changes : List Change) → (is_accepted set changes change ≡ true) × HasTaken hub q set (changes ++ change ∷ []) → Holds lines changes true)
      → ((lines : List (List ℕ)) (changes : List Change) → is_accepted set changes change ≡ false → Holds lines changes false)
      → (result : Bool) → TakesSaid hub m q chunk line result → (lines : List (List ℕ)) (changes : List Change) → HasTaken hub p set changes → Holds lines changes result
  taken_as Holds if_taken if_refused true takes lines changes is = if_taken lines changes (takes change says set changes (waits changes is))
  taken_as Holds if_taken if_refused false takes lines changes is = if_refused lines changes (takes change says set changes (waits changes is))

-- A turn, call by call.
use Rattle.std.proofs.Common.{◌≡◌, ℕ, Bool, true, false, List, [], ◌∷◌, ◌++◌, refl, sym, subst, append-nil, inl, inr}
use Rattle.std.specs.Arc.{arc_value}
use Rattle.std.specs.Bool.{OnTrue, OnFalse}
use Rattle.cq_base.specs.declared.lang.Lang.{Lang}
use Rattle.cq_board.specs.Answers.{IsJob}
use Rattle.cq_board.specs.declared.answers.Job.{Job}
use Rattle.cq_history.specs.Changes.{IsWorkFor}
use Rattle.cq_history.proofs.Doing as doing
use Rattle.cq_board.proofs.Jobs.{job_work}
use Rattle.cq_base.specs.declared.settings.Settings.{Settings}
use Rattle.cq_history.specs.declared.event.Event.{Event}
use Rattle.cq_history.specs.declared.event.Event.TheVariants as event
use Rattle.cq_history.specs.State.{state, slot_of, IsAccepted, IsDone, IsUndone, IsTakenBy}
use Rattle.cq_history.specs.Lawful.{Lawful}
use Rattle.cq_hub.specs.Hubs.{Grows, Calls, Extends, IsPublication, Never}
use Rattle.cq_hub.proofs.Following.{done_then}
use Rattle.cq_hub.proofs.Growing.{grows_then, grows_own, grows_event, grows_may}
use Rattle.cq_hub.proofs.Staying.{accepted_stays}
use Rattle.cq_hub.specs.declared.hub.Hub.{Ghosts}
use Rattle.cq_serve.specs.Turns.{Passes, IsTurn, Eases, Asks}
use Rattle.cq_serve.specs.declared.answers.Turn.TheVariants.{Worked, GaveBack}
use Rattle.cq_serve.proofs.Easing.{eases, stays_done, done_since, took_done, took_given}

module _ {H W P : Type 0} (of : Ghosts H W P) (hub : H) (set : Settings) (lawful : (pass : P) (c : ℕ) (h : List Event) → of.Stands hub pass c h → Lawful set (of.callers hub) h) (c : ℕ) (h : List Event) where
  -- nothing was taken
  pub no_events : (pass : P) (Says Holds : List Event → Type 0) (call : Calls of.Stands of.alone Never c hub pass h [] Says) → (Grows of.alone Never c h call.mid [] → Says call.mid → Holds call.mid) → Eases of hub c pass h Holds
  no_events pass Says Holds call to =
      let stands : of.Stands hub pass c call.mid = subst (of.Stands hub pass c) (append-nil call.mid) call.stands in
      record {
        after = call.mid;
        stands = stands;
        holds = to call.others call.says;
        eased = eases set (of.callers hub) of.alone Never c h call.mid [] call.others (lawful pass c call.mid stands) tt (λ k undone held. held);
      }

  -- a change was taken
  module _ (a : P) (r : ℕ) (Free : List Event → Type 0) (took : Calls of.Stands of.alone Never c hub a h (event.Took c r ∷ []) Free) where
    abbrev pub taken : List Event
    taken = took.mid ++ event.Took c r ∷ []

    pub took_grows : Grows of.alone Never c h taken (event.Took c r ∷ [])
    took_grows = grows_event of.alone c Never h took.mid (event.Took c r) refl took.others

    -- its work was done
    pub worked : (b q : P) (done : Calls of.Stands of.alone Never c hub b taken (event.Done c r ∷ []) (λ mid. IsUndone (state (of.callers hub) mid) r)) → Asks of hub c q (done.mid ++ event.Done c r ∷ []) → Eases of hub c q h (IsTurn of.alone (of.callers hub) c h (Worked r))
    worked b q done asks =
        let first = grows_then of.alone c Never h taken done.mid (event.Took c r ∷ []) [] took_grows done.others in
        let rest = grows_then of.alone c IsPublication done.mid (done.mid ++ event.Done c r ∷ []) asks.after (event.Done c r ∷ []) (event.Ask c ∷ []) (grows_own of.alone c IsPublication done.mid (event.Done c r) refl) asks.grows in
        let all = grows_then of.alone c IsPublication h done.mid asks.after (event.Took c r ∷ []) (event.Done c r ∷ event.Ask c ∷ []) (grows_may of.alone c IsPublication h done.mid (event.Took c r ∷ []) first) rest in
        let law = lawful q c asks.after asks.stands in
        let is_done = stays_done set (of.callers hub) of.alone IsPublication c (done.mid ++ event.Done c r ∷ []) asks.after (event.Ask c ∷ []) asks.grows law r (done_then (of.callers hub) c done.mid r done.says) in
        record {
          after = asks.after;
          stands = asks.stands;
          holds = record { mid = done.mid; first = first; says = done.says; rest = rest };
          eased = eases set (of.callers hub) of.alone IsPublication c h asks.after (event.Took c r ∷ event.Done c r ∷ event.Ask c ∷ []) all law (tt, (tt, (tt, tt)))
              (λ k undone held. took_done (state (of.callers hub) asks.after) c r k _ is_done undone held);
        }

    -- it was done by then
    module _ (b q : P) (Says : List Event → Type 0) (call : Calls of.Stands of.alone Never c hub b taken [] Says) (asks : Asks of hub c q (call.mid ++ [])) where
      abbrev Passed : Type 0
      Passed = Passes of.alone (of.callers hub) c h (event.Took c r ∷ []) (λ s. IsDone s r) (event.Ask c ∷ []) asks.after

      first_late : Grows of.alone Never c h call.mid (event.Took c r ∷ [])
      first_late = grows_then of.alone c Never h taken call.mid (event.Took c r ∷ []) [] took_grows call.others

      rest_late : Grows of.alone IsPublication c call.mid asks.after (event.Ask c ∷ [])
      rest_late = subst (λ g. Grows of.alone IsPublication c g asks.after (event.Ask c ∷ [])) (append-nil call.mid) asks.grows

      pub late : (Holds : List Event → Type 0) → IsDone (state (of.callers hub) call.mid) r → (Passed → Holds asks.after) → Eases of hub c q h Holds
      late Holds is to =
          let all = grows_then of.alone c IsPublication h call.mid asks.after (event.Took c r ∷ []) (event.Ask c ∷ []) (grows_may of.alone c IsPublication h call.mid (event.Took c r ∷ []) first_late) rest_late in
          let law = lawful q c asks.after asks.stands in
          let is_done = stays_done set (of.callers hub) of.alone IsPublication c call.mid asks.after (event.Ask c ∷ []) rest_late law r is in
          record {
            after = asks.after;
            stands = asks.stands;
            holds = to (record { mid = call.mid; first = first_late; says = is; rest = rest_late });
            eased = eases set (of.callers hub) of.alone IsPublication c h asks.after (event.Took c r ∷ event.Ask c ∷ []) all law (tt, (tt, tt))
                (λ k undone held. took_done (state (of.callers hub) asks.after) c r k _ is_done undone held);
          }

      -- it is not taken by this caller any more
      pub lost : IsAccepted (state (of.callers hub) taken) r → (IsTakenBy (state (of.callers hub) call.mid) r c → ⊥) → IsDone (state (of.callers hub) call.mid) r
      lost there not_taken =
          done_since set (of.callers hub) of.alone Never c r h call.mid first_late (lawful b c call.mid (subst (of.Stands hub b c) (append-nil call.mid) call.stands))
          (accepted_stays (of.callers hub) of.alone Never c taken call.mid call.others r there).0 not_taken

    -- it was given back
    pub given : (b q : P) (back : Calls of.Stands of.alone Never c hub b taken (event.Back c r ∷ []) (λ mid. IsTakenBy (state (of.callers hub) mid) r c)) → Asks of hub c q (back.mid ++ event.Back c r ∷ []) → Eases of hub c q h (IsTurn of.alone (of.callers hub) c h (GaveBack r))
    given b q back asks =
        let first = grows_then of.alone c Never h taken back.mid (event.Took c r ∷ []) [] took_grows back.others in
        let rest = grows_then of.alone c IsPublication back.mid (back.mid ++ event.Back c r ∷ []) asks.after (event.Back c r ∷ []) (event.Ask c ∷ []) (grows_own of.alone c IsPublication back.mid (event.Back c r) refl) asks.grows in
        let all = grows_then of.alone c IsPublication h back.mid asks.after (event.Took c r ∷ []) (event.Back c r ∷ event.Ask c ∷ []) (grows_may of.alone c IsPublication h back.mid (event.Took c r ∷ []) first) rest in
        record {
          after = asks.after;
          stands = asks.stands;
          holds = inl (record { mid = back.mid; first = first; says = back.says; rest = rest });
          eased = eases set (of.callers hub) of.alone IsPublication c h asks.after (event.Took c r ∷ event.Back c r ∷ event.Ask c ∷ []) all (lawful q c asks.after asks.stands) (tt, (tt, (tt, tt)))
              (λ k undone held. took_given (state (of.callers hub) asks.after) c r k _ held);
        }

    -- memory was refused for its work
    pub gave_back : (b q : P) (result : Bool) → IsAccepted (state (of.callers hub) taken) r
        → OnTrue result (Extends of.Stands of.alone Never hub a b (λ d. event.Back d r ∷ []) (λ d mid. IsTakenBy (state (of.callers hub) mid) r d))
        → OnFalse result (Extends of.Stands of.alone Never hub a b (λ d. []) (λ d mid. IsTakenBy (state (of.callers hub) mid) r d → ⊥))
        → ((later : List Event) → of.Stands hub b c later → Asks of hub c q later) → Eases of hub c q h (IsTurn of.alone (of.callers hub) c h (GaveBack r))
    gave_back b q true there back not_taken asks = let call = back c taken took.stands in given b q call (asks (call.mid ++ event.Back c r ∷ []) call.stands)
    gave_back b q false there back not_taken asks =
        let call = not_taken c taken took.stands in
        let then = asks (call.mid ++ []) call.stands in
        late b q _ call then (IsTurn of.alone (of.callers hub) c h (GaveBack r)) (lost b q _ call then there call.says) (λ passed. inr passed)

    -- the job's change is what it was when it was taken
    module _ (there : IsAccepted (state (of.callers hub) took.mid) r) where
      pub taken_accepted : IsAccepted (state (of.callers hub) taken) r
      taken_accepted = (doing.accepted_stays (of.callers hub) took.mid (event.Took c r ∷ []) r there).0

      pub taken_work : {V : Type 0} (IsWork : Lang → List ℕ → V → Type 0) (j : Job) (work : V) → j.change ≡ r → IsJob (state (of.callers hub) took.mid) j → IsWork j.lang (arc_value j.text) work → IsWorkFor IsWork (slot_of (state (of.callers hub) taken) r).change work
      taken_work IsWork j work same job is =
          subst (λ change. IsWorkFor IsWork change work) (sym (doing.accepted_stays (of.callers hub) took.mid (event.Took c r ∷ []) r there).1)
          (job_work IsWork (state (of.callers hub) took.mid) r j work same job is)

  -- the caller asked
  pub asked_only : (q : P) (Says : List Event → Type 0) (ask : Calls of.Stands of.alone Never c hub q h (event.Ask c ∷ []) Says) → Asks of hub c q h
  asked_only q Says ask = record {
    after = ask.mid ++ event.Ask c ∷ [];
    stands = ask.stands;
    grows = grows_may of.alone c IsPublication h (ask.mid ++ event.Ask c ∷ []) (event.Ask c ∷ []) (grows_event of.alone c Never h ask.mid (event.Ask c) refl ask.others);
  }

  -- the caller asked, and then something may have been published
  pub asked_then : (b q : P) (Says Then : List Event → Type 0) (ask : Calls of.Stands of.alone Never c hub b h (event.Ask c ∷ []) Says) → Calls of.Stands of.alone IsPublication c hub q (ask.mid ++ event.Ask c ∷ []) [] Then → Asks of hub c q h
  asked_then b q Says Then ask more = record {
    after = more.mid;
    stands = subst (of.Stands hub q c) (append-nil more.mid) more.stands;
    grows = grows_then of.alone c IsPublication h (ask.mid ++ event.Ask c ∷ []) more.mid (event.Ask c ∷ []) []
        (grows_may of.alone c IsPublication h (ask.mid ++ event.Ask c ∷ []) (event.Ask c ∷ []) (grows_event of.alone c Never h ask.mid (event.Ask c) refl ask.others)) more.others;
  }

-- What a session's answer to a line may not come to.
use Rattle.std.specs.Prelude.{◌≡◌, ℕ, ◌<◌, ◌≤◌, max, false, List, [], ◌∷◌, ◌++◌, length, map, Option, None, Some, Ok}
use Rattle.std.proofs.Common.{arith, ap, refl, sym, ◌∙◌, inl, inr}
use Rattle.std.proofs.Math.Nat.{le-max_left}
use Rattle.cq_definition_cases.proofs.Hubs.{put}
use Rattle.cq_definition_cases.proofs.Steps.{shown_at}
use Rattle.cq_base.specs.declared.change.Change.TheVariants.{Gate}
use Rattle.cq_base.specs.declared.settings.Settings.{Settings}
use Rattle.cq_history.specs.declared.event.Event.{Event}
use Rattle.cq_history.specs.declared.event.Event.TheVariants as event
use Rattle.cq_history.specs.State.{accepted, own, state}
use Rattle.cq_history.proofs.Prefixes.{own-append}
use Rattle.cq_hub.specs.Hubs.{Grows, IsPublication, Never}
use Rattle.cq_reply.specs.declared.reply.Reply.{Reply}
use Rattle.cq_reply.specs.declared.reply.Reply.TheVariants as reply
use Rattle.cq_request.specs.declared.request.Kind.TheVariants as kinds
use Rattle.cq_request.specs.declared.request.Query.{Query}
use Rattle.cq_request.specs.declared.request.Request.TheVariants as request
use Rattle.cq_session.specs.Costs.{shown_in}
use Rattle.cq_talk.specs.Said.{Said, Read}
use Rattle.cq_talk.specs.Talk.{Answers, Asks, IsServed, MayFollow, Talk, floor_of, viewed}

-- ---- the events of caller 0

pub own_grown : (alone : Type 0) (May : Event → Type 0) (h after events : List Event) → Grows alone May 0 h after events → own 0 after ≡ own 0 h ++ events
own_grown alone May h after events grows = ap (own 0) grows.after_is ∙ (own-append 0 h grows.more ∙ ap (λ (es : List Event). own 0 h ++ es) grows.own_is)

own_asked : (alone : Type 0) (h after : List Event) → Asks alone 0 h after → own 0 after ≡ (own 0 h ++ []) ++ event.Ask 0 ∷ []
own_asked alone h after asks = ap (own 0) asks.asks ∙ (own-append 0 asks.mid (event.Ask 0 ∷ []) ∙ ap (λ (es : List Event). es ++ event.Ask 0 ∷ []) (own_grown alone Never h asks.mid [] asks.waits))

module _ (set : Settings) (callers : ℕ) (alone : Type 0) (seen : ℕ) (q : Query) (h after : List Event) where
  -- those of a query, after its earlier ones
  own_served : (view : Option ℕ) (s : IsServed set callers alone 0 seen q h after view)
      → own 0 after ≡ ((((own 0 h ++ []) ++ event.Ask 0 ∷ []) ++ map (λ (r : ℕ). event.Done 0 r) s.finished) ++ viewed 0 view) ++ []
  own_served view s =
      own_grown alone (MayFollow view) s.shut after [] s.sweeps
      ∙ ap (λ (es : List Event). es ++ [])
      (own_grown alone Never s.helped s.shut (viewed 0 view) s.views
      ∙ ap (λ (es : List Event). es ++ viewed 0 view)
      (own_grown alone IsPublication s.asked s.helped (map (λ (r : ℕ). event.Done 0 r) s.finished) s.helps
      ∙ ap (λ (es : List Event). es ++ map (λ (r : ℕ). event.Done 0 r) s.finished) (own_asked alone h s.asked s.asks)))

  module _ (idle : q.finish ≡ false) (first : own 0 h ≡ []) where
    -- how many, if it may not work
    served_count : (view : Option ℕ) → IsServed set callers alone 0 seen q h after view → length (own 0 after) ≡ length (event.Ask 0 ∷ (viewed 0 view ++ []))
    served_count view s =
        ap (λ (es : List Event). length es) (own_served view s)
        ∙ (ap (λ (rs : List ℕ). length (((((own 0 h ++ []) ++ event.Ask 0 ∷ []) ++ map (λ (r : ℕ). event.Done 0 r) rs) ++ viewed 0 view) ++ [])) (s.may_work idle)
        ∙ ap (λ (es : List Event). length (((((es ++ []) ++ event.Ask 0 ∷ []) ++ []) ++ viewed 0 view) ++ [])) first)

    asked_count : Asks alone 0 h after → length (own 0 after) ≡ 1
    asked_count asks = ap (λ (es : List Event). length es) (own_asked alone h after asks) ∙ ap (λ (es : List Event). length ((es ++ []) ++ event.Ask 0 ∷ [])) first

    waited_count : Grows alone Never 0 h after [] → length (own 0 after) ≡ 0
    waited_count grows = ap (λ (es : List Event). length es) (own_grown alone Never h after [] grows) ∙ ap (λ (es : List Event). length (es ++ [])) first

    not_two : (view : Option ℕ) → length (own 0 after) ≡ 2 → IsServed set callers alone 0 seen q h after view → ⊥
    not_two None two s = let one : length (own 0 after) ≡ 1 = served_count None s in omega (arith, two, one)
    not_two (Some v) two s = let three : length (own 0 after) ≡ 3 = served_count (Some v) s in omega (arith, two, three)

    -- so not two of them
    never_two : (r : Reply) → length (own 0 after) ≡ 2 → Answers set callers alone 0 seen h (Read (Ok (request.Query q))) r after → ⊥
    never_two r two (inl (memory, inl waits)) = let none = waited_count waits in omega (arith, two, none)
    never_two r two (inl (memory, inr (inl asks))) = let one = asked_count asks in omega (arith, two, one)
    never_two r two (inl (memory, inr (inr (view, served)))) = not_two view two served
    never_two r two (inr (inl future)) = let one = asked_count future.asks in omega (arith, two, one)
    never_two r two (inr (inr (inl pending))) = let one = asked_count pending.asks in omega (arith, two, one)
    never_two r two (inr (inr (inr shown))) = not_two (Some shown.version) two shown.served

  abbrev number_in : Option ℕ → ℕ
  number_in None = 0
  number_in (Some n) = n

  -- no reply shows a version below what was seen, or what the query asks for
  never_older : (r : Reply) (version : ℕ) → shown_in r ≡ Some version → version < max seen q.at → Answers set callers alone 0 seen h (Read (Ok (request.Query q))) r after → ⊥
  never_older r version shown below (inl (memory, came)) = let none : Some version ≡ None = sym shown ∙ ap shown_in memory in grind (arith, none)
  never_older r version shown below (inr (inl future)) = let none : Some version ≡ None = sym shown ∙ ap shown_in future.reply_is in grind (arith, none)
  never_older r version shown below (inr (inr (inl pending))) = let none : Some version ≡ None = sym shown ∙ ap shown_in pending.reply_is in grind (arith, none)
  never_older r version shown below (inr (inr (inr by))) =
      let same : version ≡ by.version = ap number_in (sym shown ∙ shown_at set (accepted after) by.version q r by.shows) in
      let recent : floor_of seen q (state callers by.served.asks.mid) ≤ by.version = by.served.recent in
      let least : max seen q.at ≤ floor_of seen q (state callers by.served.asks.mid) = le-max_left (max seen q.at) _ in omega (arith, same, recent, least, below)

-- ---- what a query does

-- caller 1 put a text, and its work is not done
abbrev undone : List Event
undone = event.Accept 1 put ∷ []

-- a query for version 1 that may not work
abbrev query : Query
query = record { kind = kinds.Files; project = 0 ∷ []; path = None; min = 2; at = 1; finish = false; scope = None; since = 0 }

module _ (set : Settings) (alone : Type 0) where
  pub a_query_that_may_not_work_does_no_work : (r : Reply) → Answers set 2 alone 0 0 undone (Read (Ok (request.Query query))) r (event.Accept 1 put ∷ event.Ask 0 ∷ event.Done 0 1 ∷ []) → ⊥
  a_query_that_may_not_work_does_no_work r answers = never_two set 2 alone 0 query undone (event.Accept 1 put ∷ event.Ask 0 ∷ event.Done 0 1 ∷ []) refl refl r refl answers

  -- its reply is this
  pub it_names_the_change_that_is_not_done : Answers set 2 alone 0 0 undone (Read (Ok (request.Query query))) (reply.Pending 1) (event.Accept 1 put ∷ event.Ask 0 ∷ [])
  it_names_the_change_that_is_not_done =
      inr (inr (inl (record {
        asks = record { mid = undone; waits = record { more = []; after_is = refl; own_is = refl; alone_is = λ a. tt }; asks = refl };
        within = omega arith;
        no_work = refl;
        undone = omega arith;
        below = omega arith;
        reply_is = refl;
      })))

  pub a_view_is_shut_whatever_the_reply : (r : Reply) → Answers set 1 alone 0 0 [] (Read (Ok (request.Query query))) r (event.Ask 0 ∷ event.Open 0 1 ∷ []) → ⊥
  a_view_is_shut_whatever_the_reply r answers = never_two set 1 alone 0 query [] (event.Ask 0 ∷ event.Open 0 1 ∷ []) refl refl r refl answers

  pub no_answer_is_older_than_the_query_asks_for : (h after : List Event) (r : Reply) → shown_in r ≡ Some 0 → Answers set 1 alone 0 0 h (Read (Ok (request.Query query))) r after → ⊥
  no_answer_is_older_than_the_query_asks_for h after r shown answers = never_older set 1 alone 0 query h after r 0 shown (omega arith) answers

  -- a change was accepted with number 2 before
  pub what_a_reply_named_is_not_forgotten :
      (h after : List Event) (line : Said) (r : Reply) → shown_in r ≡ Some 1
      → Talk set 1 alone 0 0 h (line ∷ Read (Ok (request.Query query)) ∷ []) (reply.Change 2 ∷ r ∷ []) after → ⊥
  what_a_reply_named_is_not_forgotten h after line r shown (mid, first, (last, second, end)) = never_older set 1 alone 2 query mid last r 1 shown (omega arith) second

  -- two gates need no work; version 2 is published while version 1 is open, and room is made before that view is shut
  pub room_is_made_after_a_view_is_shut :
      (h : List Event) (r : Reply) → shown_in r ≡ Some 1
      → Answers set 1 alone 0 0 h (Read (Ok (request.Query query))) r
      (event.Accept 0 (Gate (0 ∷ []) []) ∷ event.Accept 0 (Gate (0 ∷ []) []) ∷ event.Publish 1 ∷ event.Ask 0 ∷ event.Open 0 1 ∷ event.Publish 2 ∷ event.Floor 1 ∷ event.Shut 0 ∷ []) → ⊥
  room_is_made_after_a_view_is_shut h r shown (inl (memory, came)) = let none : Some 1 ≡ None = sym shown ∙ ap shown_in memory in grind (arith, none)
  room_is_made_after_a_view_is_shut h r shown (inr (inl future)) = let none : Some 1 ≡ None = sym shown ∙ ap shown_in future.reply_is in grind (arith, none)
  room_is_made_after_a_view_is_shut h r shown (inr (inr (inl pending))) = let none : Some 1 ≡ None = sym shown ∙ ap shown_in pending.reply_is in grind (arith, none)
  room_is_made_after_a_view_is_shut h r shown (inr (inr (inr by))) = let swept : 1 ≡ 2 = by.swept in omega (arith, swept)

  -- ---- the state

  pub the_state_is_told_of_one_question : (r : Reply) → Answers set 1 alone 0 0 [] (Read (Ok request.State)) r (event.Ask 0 ∷ event.Ask 0 ∷ []) → ⊥
  the_state_is_told_of_one_question r (inl (memory, inl waits)) =
      let none : 2 ≡ 0 = ap (λ (es : List Event). length es) (own_grown alone Never [] (event.Ask 0 ∷ event.Ask 0 ∷ []) [] waits) in omega (arith, none)
  the_state_is_told_of_one_question r (inl (memory, inr asks)) =
      let one : 2 ≡ 1 = ap (λ (es : List Event). length es) (own_asked alone [] (event.Ask 0 ∷ event.Ask 0 ∷ []) asks) in omega (arith, one)
  the_state_is_told_of_one_question r (inr tells) =
      let one : 2 ≡ 1 = ap (λ (es : List Event). length es) (own_asked alone [] (event.Ask 0 ∷ event.Ask 0 ∷ []) tells.asks) in omega (arith, one)

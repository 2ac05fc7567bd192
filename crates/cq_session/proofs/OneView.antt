-- A view that is opened, read and shut.
use Rattle.std.proofs.Common.{◌≡◌, ℕ, Bool, true, false, ◌<◌, ◌≤◌, List, [], ◌∷◌, ◌++◌, length, Some, None, refl, sym, ◌∙◌, subst, arith}
use Rattle.std.specs.Prelude.{IsSome, Result}
use Rattle.cq_base.specs.declared.lang.Lang.{Lang}
use Rattle.cq_base.specs.declared.memory.Memory.{Memory}
use Rattle.cq_base.specs.declared.settings.Settings.{Settings}
use Rattle.cq_answer.specs.Reply.{IsReply}
use Rattle.cq_session.specs.Moves.{Later}
use Rattle.cq_board.specs.declared.listing.View.{View}
use Rattle.cq_history.specs.declared.event.Event.{Event}
use Rattle.cq_history.specs.declared.event.Event.TheVariants.{Open, Shut}
use Rattle.cq_history.specs.State.{state, accepted, view_of}
use Rattle.cq_history.specs.Lawful.{Lawful}
use Rattle.cq_history.proofs.States.{Lawful-prefix}
use Rattle.cq_hub.specs.Hubs.{Calls, Grows, IsFloor, IsPublication, Never}
use Rattle.cq_hub.specs.Answers.{Sweeps}
use Rattle.cq_hub.specs.Views.{IsLatest, IsOpen}
use Rattle.cq_hub.specs.declared.hub.Hub.{Ghosts}
use Rattle.cq_hub.proofs.Following.{latest_opened, shut_then}
use Rattle.cq_hub.proofs.Growing.{grows_none, grows_then, grows_event, grows_may, grows_own, view_grows, rises, no_fewer}
use Rattle.cq_reply.specs.declared.reply.Reply.{Reply}
use Rattle.cq_request.specs.declared.request.Query.{Query}
use Rattle.cq_talk.specs.Steps.{IsClosed, Leads, Views}
use Rattle.cq_talk.specs.Talk.{IsSwept}
use Rattle.cq_talk.proofs.Queries.{views_none}
use Rattle.cq_talk.proofs.Shown.{shown_grows}
use Rattle.cq_talk.proofs.Talking.{published_few}
use Rattle.cq_session.specs.Costs.{Viewing, Counts, counted, Costs}
use Rattle.cq_session.specs.Passes.{HasSwept}
use Rattle.cq_session.specs.Viewing.{ShowsAt, ViewsOrNot}
use Rattle.cq_session.proofs.Spending.{costs_none, costs_later}
use Rattle.cq_talk.proofs.Leading.{stands_mid}

module _ {S W P : Type 0} (of : Ghosts S W P) (hub : S) (IsWork : Lang → List ℕ → W → Type 0)
    (lawful : (pass : P) (c : ℕ) (h : List Event) → of.Stands hub pass c h → Lawful (of.settings hub) (of.callers hub) h) (caller : (pass : P) (c : ℕ) (h : List Event) → of.Stands hub pass c h → c < of.callers hub) (c to : ℕ) (h : List Event) where
  abbrev pub Stands : S → P → ℕ → List Event → Type 0
  Stands = of.Stands

  abbrev pub set : Settings
  set = of.settings hub

  abbrev pub callers : ℕ
  callers = of.callers hub

  abbrev pub alone : Type 0
  alone = of.alone

  -- the publication was given up
  pub not_advanced : (Says : List Event → Type 0) (pass : P) (advanced : Calls Stands alone IsPublication c hub pass h [] Says) → IsClosed callers c h → (q : Query) (reads asked asked_now : ℕ) → asked_now ≡ asked → Leads Stands callers c hub pass (ViewsOrNot set alone c to q (counted reads reads asked asked_now) h)
  not_advanced Says pass advanced closed q reads asked asked_now same = record {
    after = advanced.mid;
    stands = stands_mid Stands alone callers c hub pass IsPublication h Says advanced;
    closed = view_grows callers alone IsPublication c h advanced.mid [] advanced.others tt ∙ closed;
    holds = record { view = None; views = views_none alone c to h advanced.mid advanced.mid advanced.others (grows_none alone c Never advanced.mid); within = tt; costs = costs_none set (accepted advanced.mid) reads asked asked_now same };
  }

  module _ (published : ℕ) (one : P) (advanced : Calls Stands alone IsPublication c hub one h [] (λ mid. (published ≡ (state callers mid).published) × (to ≤ published))) where
    pub still_closed : IsClosed callers c h → IsClosed callers c advanced.mid
    still_closed closed = view_grows callers alone IsPublication c h advanced.mid [] advanced.others tt ∙ closed

    -- no view was opened
    pub not_viewed : (Says : List Event → Type 0) (pass : P) (opened : Calls Stands alone Never c hub pass advanced.mid [] Says) → IsClosed callers c h → (q : Query) (reads asked asked_now : ℕ) → asked_now ≡ asked → Leads Stands callers c hub pass (ViewsOrNot set alone c to q (counted reads reads asked asked_now) h)
    not_viewed Says pass opened closed q reads asked asked_now same = record {
      after = opened.mid;
      stands = stands_mid Stands alone callers c hub pass Never advanced.mid Says opened;
      closed = view_grows callers alone Never c advanced.mid opened.mid [] opened.others tt ∙ still_closed closed;
      holds = record { view = None; views = views_none alone c to h advanced.mid opened.mid advanced.others opened.others; within = tt; costs = costs_none set (accepted opened.mid) reads asked asked_now same };
    }

    module _ (view : View W) (two : P) (opened : Calls Stands alone Never c hub two advanced.mid (Open c view.version ∷ []) (λ mid. IsLatest IsWork (state callers mid) view)) where
      abbrev before : List Event
      before = opened.mid ++ Open c view.version ∷ []

      law_then : Lawful set callers opened.mid
      law_then = Lawful-prefix set callers opened.mid (Open c view.version ∷ []) (lawful two c before opened.stands)

      -- the view is open then
      pub is_open : IsOpen IsWork (state callers (opened.mid ++ Open c view.version ∷ [])) c view
      is_open = latest_opened callers c opened.mid IsWork view (caller two c before opened.stands) opened.says

      module _ (three : P) (moved : Later Stands callers alone IsWork hub view c before three) where
        -- and still is when it is shut
        pub viewing : IsSome (view_of (state callers moved.after) c)
        viewing = subst IsSome (sym moved.opened.version) refl

        module _ (Says : List Event → Type 0) (pass : P) (shut : Calls Stands alone Never c hub pass moved.after (Shut c ∷ []) Says) where
          abbrev later : List Event
          later = shut.mid ++ Shut c ∷ []

          grows_later : Grows alone Never c before later (Shut c ∷ [])
          grows_later = grows_then alone c Never before moved.after later [] (Shut c ∷ []) moved.grows (grows_event alone c Never moved.after shut.mid (Shut c) refl shut.others)

          few_before : view.version ≤ length (accepted before)
          few_before =
              let few = published_few set callers opened.mid law_then in
              let is = opened.says.0 in
              let one = no_fewer callers alone Never c opened.mid before _ (grows_own alone c Never opened.mid (Open c view.version) refl) in
              omega (arith, few, is, one)

          abbrev viewing_of : Query → Bool → List Viewing
          viewing_of q answered = record { query = q; version = view.version; answered = answered } ∷ []

          -- at a later history, at which the floor may have been raised
          module _ (now : List Event) (sweeps : Grows alone IsFloor c later now []) where
            was_viewed : Views alone c to h (Some view.version) now
            was_viewed =
                let up = (rises callers alone Never c advanced.mid opened.mid [] opened.others set law_then).1 in
                let at_least = advanced.says.1 in
                let is = advanced.says.0 in
                let at_open = opened.says.0 in
                record {
                  helped = advanced.mid;
                  helps = advanced.others;
                  shut = later;
                  views = grows_then alone c Never advanced.mid before later (Open c view.version ∷ []) (Shut c ∷ []) (grows_event alone c Never advanced.mid opened.mid (Open c view.version) refl opened.others) grows_later;
                  recent = omega (arith, up, at_least, is, at_open);
                  sweeps = sweeps;
                }

            grows_now : Grows alone IsFloor c before now (Shut c ∷ [])
            grows_now = grows_then alone c IsFloor before later now (Shut c ∷ []) [] (grows_may alone c IsFloor before later _ grows_later) sweeps

            few_now : view.version ≤ length (accepted now)
            few_now = let few = few_before in let more = no_fewer callers alone IsFloor c before now _ grows_now in omega (arith, few, more)

            still_shut : IsClosed callers c now
            still_shut = view_grows callers alone IsFloor c later now [] sweeps tt ∙ shut_then callers c shut.mid

            costs_now : (q : Query) (answered : Bool) (n : Counts) → Costs set (accepted before) (viewing_of q answered) n → Costs set (accepted now) (viewing_of q answered) n
            costs_now q answered n costs = subst (λ g. Costs set (accepted g) (viewing_of q answered) n) (sym grows_now.after_is) (costs_later set before grows_now.more (viewing_of q answered) n (few_before, tt) costs)

          -- the view was read and shut, and the floor was raised after it
          pub was_shown : (four : P) (swept : Calls Stands alone IsFloor c hub four (shut.mid ++ Shut c ∷ []) [] (λ mid. IsSwept (state callers mid))) (q : Query) (r : Reply) (n : Counts) → IsReply set (accepted (opened.mid ++ Open c view.version ∷ [])) view.version q r
              → Costs set (accepted (opened.mid ++ Open c view.version ∷ [])) (record { query = q; version = view.version; answered = true } ∷ []) n → Leads Stands callers c hub four (ShowsAt set callers alone c to q n r h)
          was_shown four swept q r n is costs = record {
            after = swept.mid;
            stands = stands_mid Stands alone callers c hub four IsFloor later _ swept;
            closed = still_shut swept.mid swept.others;
            holds = record {
              version = view.version;
              views = was_viewed swept.mid swept.others;
              within = few_now swept.mid swept.others;
              shows = shown_grows set alone IsFloor c before swept.mid _ view.version q r few_before (grows_now swept.mid swept.others) is;
              swept = swept.says;
              costs = costs_now swept.mid swept.others q true n costs;
            };
          }

          -- the view was shut, and the reply given up
          pub was_given_up : (q : Query) (n : Counts) → Costs set (accepted (opened.mid ++ Open c view.version ∷ [])) (record { query = q; version = view.version; answered = false } ∷ []) n → Leads Stands callers c hub pass (ViewsOrNot set alone c to q n h)
          was_given_up q n costs =
              let none = grows_none alone c IsFloor later in
              record {
                after = later;
                stands = shut.stands;
                closed = shut_then callers c shut.mid;
                holds = record { view = Some view.version; views = was_viewed later none; within = few_now later none; costs = costs_now later none q false n costs };
              }

-- the floor is raised, whatever a sweep answers
pub swept_then : {H W P : Type 0} (of : Ghosts H W P) (hub : H) (old new : P) (result : Result ℕ Memory) → Sweeps of.Stands of.alone of.settings of.callers hub old new result → HasSwept of hub old new
swept_then of hub old new result swept = λ c h stands.
    let call = swept c h stands in
    record { mid = call.mid; others = call.others; says = call.says.0; stands = call.stands }

-- The rows of a query, from its parts.
use Rattle.std.proofs.Common.{◌≡◌, ℕ, ◌≤◌, true, false, cond, List, [], ◌∷◌, ◌++◌, length, map, max, Option, Some, None, refl, sym, ap, ◌∙◌, arith, append-nil}
use Rattle.std.specs.Prelude.{IfSome}
use Rattle.std.specs.List.{AllByRecursion}
use Rattle.std.proofs.Math.Nat.{le-max_left, le-max_right, max-le}
use Rattle.std.proofs.lemmas.List.Sums.{prefix_len-le-length}
use Rattle.cq_base.specs.declared.settings.Settings.{Settings}
use Rattle.cq_board.specs.Answers.{asked_of}
use Rattle.cq_board.specs.declared.answers.Asked.{Asked}
use Rattle.cq_history.specs.declared.event.Event.{Event}
use Rattle.cq_history.specs.declared.event.Event.TheVariants.{Ask, Done}
use Rattle.cq_history.specs.State.{State, state, accepted, ready, is_done, view_of}
use Rattle.cq_history.proofs.States.{state_push}
use Rattle.cq_history.proofs.Doing.{slots_number}
use Rattle.cq_request.specs.declared.request.Query.{Query}
use Rattle.cq_hub.specs.Hubs.{Grows, IsPublication, Never}
use Rattle.cq_hub.proofs.Growing.{grows_none, grows_then, grows_as, grows_may, view_grows, no_fewer}
use Rattle.cq_talk.specs.Talk.{IsServed, floor_of}
use Rattle.cq_talk.specs.Steps.{Helps, Views, IsClosed}

pub ready_few : (s : State) → ready s ≤ length s.slots
ready_few s = prefix_len-le-length is_done s.slots

-- where works may be done, the floor is all changes
pub floor_working : (seen : ℕ) (q : Query) (s : State) → q.finish ≡ true → seen ≤ length s.slots → q.at ≤ length s.slots → floor_of seen q s ≡ length s.slots
floor_working seen q s works named within =
    ap (λ b. max (max seen q.at) (cond b (length s.slots) 0)) works
    ∙ (let low : max seen q.at ≤ length s.slots = max-le named within in
    let top : max (max seen q.at) (length s.slots) ≤ length s.slots = max-le low (omega arith) in
    omega (arith, top, le-max_right (max seen q.at) (length s.slots)))

pub floor_waiting : (seen : ℕ) (q : Query) (s : State) → q.finish ≡ false → floor_of seen q s ≡ max seen q.at
floor_waiting seen q s waits =
    ap (λ b. max (max seen q.at) (cond b (length s.slots) 0)) waits
    ∙ (let top : max (max seen q.at) 0 ≤ max seen q.at = max-le (omega arith) (omega arith) in omega (arith, top, le-max_left (max seen q.at) 0))

some_least : (view : Option ℕ) (m n : ℕ) → m ≤ n → IfSome view (λ v. n ≤ v) → IfSome view (λ v. m ≤ v)
some_least None m n le is = tt
some_least (Some v) m n le is = omega (arith, le, is)

all_least : (m n : ℕ) (rs : List ℕ) → m ≤ n → AllByRecursion (λ (r : ℕ). r ≤ m) rs → AllByRecursion (λ (r : ℕ). r ≤ n) rs
all_least m n [] le all = tt
all_least m n (r ∷ rs) le all = (omega (arith, all.0, le), all_least m n rs le all.1)

-- no view was opened
pub views_none : (alone : Type 0) (c to : ℕ) (h helped later : List Event) → Grows alone IsPublication c h helped [] → Grows alone Never c helped later [] → Views alone c to h None later
views_none alone c to h helped later helps waits = record { helped = helped; helps = helps; shut = later; views = waits; recent = tt; sweeps = grows_none alone c Never later }

module _ (set : Settings) (callers : ℕ) (alone : Type 0) (c seen : ℕ) (q : Query) (h mid : List Event) (waits : Grows alone Never c h mid []) (within : q.at ≤ length (state callers mid).slots) where
  -- works were done, and a version viewed that is not below all changes
  pub worked : q.finish ≡ true → seen ≤ length (state callers mid).slots → (to : ℕ) → to ≡ length (state callers mid).slots → (Holds : List Event → Type 0) (then later : List Event) (view : Option ℕ) →
      Helps alone c to (mid ++ Ask c ∷ []) Holds then → Views alone c to then view later → IsServed set callers alone c seen q h later view
  worked works named to is Holds then later view helps views =
      let floor = floor_working seen q (state callers mid) works named within in
      record {
        asked = mid ++ Ask c ∷ [];
        asks = record { mid = mid; waits = waits; asks = refl };
        goes_on = (within, λ waiting. let bad : true ≡ false = sym works ∙ waiting in absurd (cc));
        finished = helps.finished;
        up_to = all_least to _ helps.finished (omega (arith, floor, is)) helps.up_to;
        may_work = λ waiting. let bad : true ≡ false = sym works ∙ waiting in absurd (cc);
        helped = views.helped;
        helps = grows_as alone c IsPublication (mid ++ Ask c ∷ []) views.helped _ _ (append-nil (map (λ r. Done c r) helps.finished))
            (grows_then alone c IsPublication (mid ++ Ask c ∷ []) then views.helped _ [] (grows_may alone c IsPublication (mid ++ Ask c ∷ []) then _ helps.grows) views.helps);
        shut = views.shut;
        views = views.views;
        recent = some_least view (floor_of seen q (state callers mid)) to (omega (arith, floor, is)) views.recent;
        sweeps = views.sweeps;
      }

  -- its works alone, where memory was refused
  pub worked_alone : q.finish ≡ true → seen ≤ length (state callers mid).slots → (to : ℕ) → to ≡ length (state callers mid).slots → (Holds : List Event → Type 0) (later : List Event) →
      Helps alone c to (mid ++ Ask c ∷ []) Holds later → IsServed set callers alone c seen q h later None
  worked_alone works named to is Holds later helps =
      worked works named to is Holds later later None helps (views_none alone c to later later later (grows_none alone c IsPublication later) (grows_none alone c Never later))

  -- no works were to be done, and a version viewed that is not below the floor
  pub waited : q.finish ≡ false → (to : ℕ) → max seen q.at ≤ to → to ≤ ready (state callers mid) → (later : List Event) (view : Option ℕ) →
      Views alone c to (mid ++ Ask c ∷ []) view later → IsServed set callers alone c seen q h later view
  waited waiting to least done later view views =
      let floor = floor_waiting seen q (state callers mid) waiting in
      record {
        asked = mid ++ Ask c ∷ [];
        asks = record { mid = mid; waits = waits; asks = refl };
        goes_on = (within, λ same. omega (arith, floor, least, done));
        finished = [];
        up_to = tt;
        may_work = λ same. refl;
        helped = views.helped;
        helps = views.helps;
        shut = views.shut;
        views = views.views;
        recent = some_least view (floor_of seen q (state callers mid)) to (omega (arith, floor, least)) views.recent;
        sweeps = views.sweeps;
      }

-- what a question tells
pub record AskFacts (callers c seen : ℕ) (r : Asked) (mid : List Event) : Type 0 where
  pub accepted_is : r.accepted ≡ length (state callers mid).slots
  pub done_is : r.done ≡ ready (state callers mid)
  pub closed : IsClosed callers c (mid ++ Ask c ∷ [])
  pub ready_then : r.done ≤ ready (state callers (mid ++ Ask c ∷ []))
  pub few_then : r.accepted ≤ length (accepted (mid ++ Ask c ∷ []))
  pub named : seen ≤ length (state callers mid).slots
  pub at_most : r.done ≤ r.accepted

pub ask_facts : (alone : Type 0) (callers c seen : ℕ) (r : Asked) (h mid : List Event) → Grows alone Never c h mid [] → r ≡ asked_of (state callers mid) → IsClosed callers c h → seen ≤ length (accepted h) → AskFacts callers c seen r mid
ask_facts alone callers c seen r h mid others says closed named =
    let accepted_is : r.accepted ≡ length (state callers mid).slots = ap (λ (a : Asked). a.accepted) says in
    let done_is : r.done ≡ ready (state callers mid) = ap (λ (a : Asked). a.done) says in
    let asked : state callers (mid ++ Ask c ∷ []) ≡ state callers mid = state_push callers mid (Ask c) in
    let same : ready (state callers (mid ++ Ask c ∷ [])) ≡ ready (state callers mid) = ap ready asked in
    let slots_then : length (state callers (mid ++ Ask c ∷ [])).slots ≡ length (state callers mid).slots = ap (λ (s : State). length s.slots) asked in
    record {
      accepted_is = accepted_is;
      done_is = done_is;
      closed = ap (λ s. view_of s c) asked ∙ (view_grows callers alone Never c h mid [] others tt ∙ closed);
      ready_then = omega (arith, done_is, same);
      few_then = omega (arith, accepted_is, slots_then, slots_number callers (mid ++ Ask c ∷ []));
      named = omega (arith, named, no_fewer callers alone Never c h mid [] others, slots_number callers mid);
      at_most = omega (arith, accepted_is, done_is, ready_few (state callers mid));
    }

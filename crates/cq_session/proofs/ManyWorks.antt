-- One work after another.
use Rattle.std.proofs.Common.{◌≡◌, ℕ, ◌-◌, ◌<◌, ◌≤◌, List, [], ◌∷◌, ◌++◌, length, sym, subst, ⊎_elim, arith}
use Rattle.std.specs.List.{AllByRecursion}
use Rattle.std.proofs.lemmas.Bool.{cases_lt}
use Rattle.std.proofs.lemmas.List.{map-append}
use Rattle.cq_base.specs.declared.settings.Settings.{Settings}
use Rattle.cq_history.specs.declared.event.Event.{Event}
use Rattle.cq_history.specs.declared.event.Event.TheVariants.{Done}
use Rattle.cq_history.specs.State.{state, accepted, ready, IsAccepted, IsDone}
use Rattle.cq_history.specs.Lawful.{Lawful}
use Rattle.cq_hub.specs.Hubs.{Grows, Never}
use Rattle.cq_hub.proofs.Growing.{grows_then, grows_as, rises, no_fewer}
use Rattle.cq_history.proofs.Doing.{slots_number, done_stays, ready_greatest}
use Rattle.cq_talk.specs.Steps.{Helps}

all_up : (a b : ℕ) (rs ss : List ℕ) → b ≤ a → AllByRecursion (λ (r : ℕ). r ≤ a) rs → AllByRecursion (λ (r : ℕ). r ≤ b) ss → AllByRecursion (λ (r : ℕ). r ≤ a) (rs ++ ss)
all_up a b [] [] le one two = tt
all_up a b [] (s ∷ ss) le one two = (let x = two.0 in omega (arith, x, le), all_up a b [] ss le one two.1)
all_up a b (r ∷ rs) ss le one two = (one.0, all_up a b rs ss le one.1 two)

-- so many works are done, and those after another one up to a last one
pub record AreDoneAround (callers done left to : ℕ) (after : List Event) : Type 0 where
  pub front : done ≤ ready (state callers after)
  pub back : (r : ℕ) → left < r → r ≤ to → IsDone (state callers after) r

-- where these meet, all are
pub all_done : (callers done left to : ℕ) (after : List Event) → left ≤ done → AreDoneAround callers done left to after → to ≤ ready (state callers after)
all_done callers done left to after met are =
    let front = are.front in
    (ready_greatest (state callers after)).1 to (λ r some low. ⊎_elim
    (λ (far : done < r). are.back r (omega (arith, met, far)) low)
    (λ (near : r ≤ done). (ready_greatest (state callers after)).0 r some (omega (arith, near, front)))
    (cases_lt done r))

module _ (alone : Type 0) (c to : ℕ) (h : List Event) where
  pub helps_then : (r : ℕ) (Was Then Holds : List Event → Type 0) (mid later : List Event) → Helps alone c to h Was mid → Helps alone c r mid Then later → r ≤ to → Holds later → Helps alone c to h Holds later
  helps_then r Was Then Holds mid later one two le holds = record {
    finished = one.finished ++ two.finished;
    up_to = all_up to r one.finished two.finished le one.up_to two.up_to;
    grows = grows_as alone c Never h later _ _ (sym (map-append (λ (n : ℕ). Done c n) one.finished two.finished)) (grows_then alone c Never h mid later _ _ one.grows two.grows);
    so = holds;
  }

  module _ (set : Settings) (callers done left : ℕ) (mid later : List Event) where
    pub help_more : Lawful set callers later → Helps alone c to h (AreDoneAround callers done left to) mid → Helps alone c left mid (λ m. IsDone (state callers m) left) later → left ≤ to → Helps alone c to h (AreDoneAround callers done (left - 1) to) later
    help_more law one two le =
        let up = rises callers alone Never c mid later _ two.grows set law in
        let was = one.so.front in
        let now = up.0 in
        let is = two.grows.after_is in
        helps_then left _ _ _ mid later one two le (record {
          front = omega (arith, was, now);
          back = λ r behind low. ⊎_elim
              (λ (far : left < r). subst (λ (m : List Event). IsDone (state callers m) r) (sym is) (done_stays set callers mid two.grows.more r (subst (Lawful set callers) is law) (one.so.back r far low)))
              (λ (near : r ≤ left). subst (IsDone (state callers later)) (let e : left ≡ r = omega (arith, near, behind) in e) two.so)
              (cases_lt left r);
        })

  -- each of these changes is accepted
  pub each_accepted : (callers r : ℕ) (Holds : List Event → Type 0) (mid : List Event) → to ≤ length (accepted h) → 0 < r → r ≤ to → Helps alone c to h Holds mid → IsAccepted (state callers mid) r
  each_accepted callers r Holds mid few some le one =
      let more = no_fewer callers alone Never c h mid _ one.grows in
      let number = slots_number callers mid in
      (some, omega (arith, more, number, few, le))

-- the same, of which less is said
pub helps_less : (alone : Type 0) (c to : ℕ) (h : List Event) (Was Holds : List Event → Type 0) (mid : List Event) → Helps alone c to h Was mid → Holds mid → Helps alone c to h Holds mid
helps_less alone c to h Was Holds mid one holds = record { finished = one.finished; up_to = one.up_to; grows = one.grows; so = holds }

pub none_helped : (alone : Type 0) (c to : ℕ) (h : List Event) (Holds : List Event → Type 0) → Grows alone Never c h h [] → Holds h → Helps alone c to h Holds h
none_helped alone c to h Holds same holds = record { finished = []; up_to = tt; grows = same; so = holds }

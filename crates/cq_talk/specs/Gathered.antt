-- What the pass knows into which all others were joined.
use Rattle.std.specs.Prelude.{◌≡◌, ◌⊎◌, ℕ, ◌<◌, ◌≤◌, nat_lt, if◌then◌else◌, List, [], ◌∷◌, ◌++◌, length, slice_index}
use Rattle.std.specs.List.{AllByRecursion}
use mathlib.Core.List.{IsPrefix}
use Rattle.cq_base.specs.declared.settings.Settings.{Settings}
use Rattle.cq_history.specs.declared.event.Event.{Event}
use Rattle.cq_history.specs.declared.event.Event.TheVariants.{Accept, Ask, Took, Back, Done, Publish, Open, Shut, Floor}
use Rattle.cq_history.specs.State.{own}
use Rattle.cq_history.specs.Lawful.{Lawful}
use Rattle.cq_reply.specs.declared.reply.Reply.{Reply}
use Rattle.cq_talk.specs.Said.{Said}
use Rattle.cq_talk.specs.Talk.{Talk}
use Rattle.cq_talk.specs.Beside.{IsBeside, nothing_known}

abbrev pub longer : List Event → List Event → List Event
longer xs ys = if nat_lt (length xs) (length ys) then ys else xs

-- it accepts no change and opens no view
abbrev pub IsQuiet : Event → Type 0
IsQuiet (Accept by change) = ⊥
IsQuiet (Ask by) = Unit {0}
IsQuiet (Took by r) = Unit {0}
IsQuiet (Back by r) = Unit {0}
IsQuiet (Done by r) = Unit {0}
IsQuiet (Publish p) = Unit {0}
IsQuiet (Open by p) = ⊥
IsQuiet (Shut by) = Unit {0}
IsQuiet (Floor f) = Unit {0}

-- so are all of the caller's own events
abbrev pub StaysQuiet : List Event → ℕ → Type 0
StaysQuiet seen w = AllByRecursion IsQuiet (own w seen)

-- The pass that saw `after` in its talk has seen this history by now, and passes of these callers were joined into it, of
-- which none but the talk's caller accepted a change or opened a view.
pub record Gathered (c : ℕ) (after : List Event) (callers : List ℕ) (seen : List Event) : Type 0 where
  pub begins : IsPrefix after seen
  pub others : AllByRecursion (λ (w : ℕ). (w ≡ c) ⊎ StaysQuiet seen w) callers

-- the passes of all callers that were made are joined, and no other caller has an event
pub record AreAllJoined (made : ℕ) (callers : List ℕ) (seen : List Event) : Type 0 where
  pub joined : (w : ℕ) → w < made → (i : ℕ) × (i < length callers) × (slice_index callers i ≡ w)
  pub no_others : (w : ℕ) → made ≤ w → own w seen ≡ []

-- Of each caller, the joined pass has seen the events that it had seen before.
pub record Joins (mine : List ℕ) (seen : List Event) (theirs : List ℕ) (other : List Event) (new : List Event) : Type 0 where
  pub kept : new ≡ longer seen other
  pub one_begins : IsPrefix seen other ⊎ IsPrefix other seen
  pub own_mine : AllByRecursion (λ (w : ℕ). own w new ≡ own w seen) mine
  pub own_theirs : AllByRecursion (λ (w : ℕ). own w new ≡ own w other) theirs

-- a talk's pass, before any other is joined into it
abbrev pub GatheredAlone : Type 0
GatheredAlone = (c : ℕ) (after : List Event) → Gathered c after (c ∷ []) after

-- one pass more, whose callers accept no change and open no view
abbrev pub GatheredMore : Type 0
GatheredMore = (c : ℕ) (after seen other new : List Event) (mine theirs : List ℕ) → Gathered c after mine seen → Joins mine seen theirs other new → AllByRecursion (StaysQuiet other) theirs → Gathered c after (mine ++ theirs) new

-- If all others were joined into the talk's pass, and none accepted a change or opened a view, the talk is one with workers
-- beside it.
abbrev pub TalksBesideWorkers : Type 0
TalksBesideWorkers =
    (set : Settings) (callers c made : ℕ) (after seen : List Event) (joined : List ℕ) (lines : List Said) (replies : List Reply) → Talk set callers ⊥ c 0 [] lines replies after → Lawful set callers seen → Gathered c after joined seen → AreAllJoined made joined seen → IsBeside set nothing_known lines replies

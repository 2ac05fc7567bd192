-- What a talk comes to that begins with the empty history, for its user.
use Rattle.std.specs.Prelude.{◌≡◌, ℕ, List, []}
use Rattle.std.specs.List.{AllByRecursion}
use Rattle.cq_base.specs.declared.settings.Settings.{Settings}
use Rattle.cq_history.specs.declared.event.Event.{Event}
use Rattle.cq_history.specs.declared.event.Event.TheVariants.{Accept, Ask, Took, Back, Done, Publish, Open, Shut, Floor}
use Rattle.cq_history.specs.Lawful.{Lawful}
use Rattle.cq_reply.specs.declared.reply.Reply.{Reply}
use Rattle.cq_reply.specs.declared.reply.Reply.TheVariants as reply
use Rattle.cq_talk.specs.Said.{Said}
use Rattle.cq_talk.specs.Talk.{Talk}
use Rattle.cq_talk.specs.Alone.{Walk, IsAloneUpToMemory, no_walk}
use Rattle.cq_talk.specs.Beside.{Known, IsBeside, nothing_known}
use Rattle.cq_talk.specs.Gives.{AloneGives, BesideGives}

-- it accepts no change and opens no view, unless it is this caller's
abbrev pub ActsBy : ℕ → Event → Type 0
ActsBy c (Accept by change) = by ≡ c
ActsBy c (Ask by) = Unit {0}
ActsBy c (Took by r) = Unit {0}
ActsBy c (Back by r) = Unit {0}
ActsBy c (Done by r) = Unit {0}
ActsBy c (Publish p) = Unit {0}
ActsBy c (Open by p) = by ≡ c
ActsBy c (Shut by) = Unit {0}
ActsBy c (Floor f) = Unit {0}

-- with a hub that nobody else calls, its replies are those of a server without workers
abbrev pub TalksAlone : Type 0
TalksAlone = (set : Settings) (callers c : ℕ) (after : List Event) (lines : List Said) (replies : List Reply) → Talk set callers (Unit {0}) c 0 [] lines replies after → Lawful set callers after → IsAloneUpToMemory set no_walk lines replies

-- if the hub's other callers accept no changes and open no views, they are those of a server with workers beside it
abbrev pub TalksBeside : Type 0
TalksBeside = (set : Settings) (callers c : ℕ) (after : List Event) (lines : List Said) (replies : List Reply) → Talk set callers ⊥ c 0 [] lines replies after → Lawful set callers after → AllByRecursion (ActsBy c) after → IsBeside set nothing_known lines replies

-- and so are those with a hub that nobody else calls
abbrev pub TalksAloneBeside : Type 0
TalksAloneBeside = (set : Settings) (callers c : ℕ) (after : List Event) (lines : List Said) (replies : List Reply) → Talk set callers (Unit {0}) c 0 [] lines replies after → Lawful set callers after → IsBeside set nothing_known lines replies

abbrev pub IsNoMemory : Reply → Type 0
IsNoMemory r = r ≡ reply.Memory → ⊥

-- the replies of a server without workers are among those of one with workers beside it
abbrev pub AloneIsBeside : Type 0
AloneIsBeside = (set : Settings) (lines : List Said) (replies : List Reply) → IsAloneUpToMemory set no_walk lines replies → AllByRecursion IsNoMemory replies → IsBeside set nothing_known lines replies

abbrev pub AllGivenBeside : Type 0
AllGivenBeside = (set : Settings) (k : Known) → BesideGives set k

abbrev pub AllGivenAlone : Type 0
AllGivenAlone = (set : Settings) (k : Walk) → AloneGives set k

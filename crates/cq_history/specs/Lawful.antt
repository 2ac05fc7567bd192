-- Which events a state allows, and which histories are lawful.
use Rattle.std.specs.Prelude.{◌≡◌, ℕ, ◌+◌, ◌<◌, ◌≤◌, ◌^◌, nat_lt, nat_le, Bool, false, not, ◌||◌, List, [], ◌∷◌, length, All, Option, None, IsSome, IfSome}
use Rattle.cq_base.specs.declared.settings.Settings.{Settings}
use Rattle.cq_base.specs.declared.change.Change.{Change}
use Rattle.cq_base.specs.declared.change.Change.TheVariants.{Put, Drop, Gate}
use Rattle.cq_history.specs.declared.event.Event.{Event}
use Rattle.cq_history.specs.declared.event.Event.TheVariants.{Accept, Ask, Took, Back, Done, Publish, Open, Shut, Floor}
use Rattle.cq_history.specs.Files.{files_of, has_file}
use Rattle.cq_history.specs.Gone.{kept_count, kept_bytes}
use Rattle.cq_history.specs.State.{State, maker, start, after, changes_in, IsAccepted, IsUndone, IsTakenBy, ready, first_free, view_of}

-- a drop of a path whose last put or drop is no put
abbrev pub is_absent : State → Change → Bool
is_absent s (Put project path lang text) = false
is_absent s (Drop project path) = not (has_file path (files_of project (changes_in s)))
is_absent s (Gate project conditions) = false

-- how many changes the floor keeps, and how many bytes their texts have
abbrev pub kept_changes : State → ℕ
kept_changes s = kept_count (changes_in s) s.floor

abbrev pub kept_text_bytes : State → ℕ
kept_text_bytes s = kept_bytes (changes_in s) s.floor

-- no further change is accepted: the most that may be kept are kept, or the most that can be numbered were accepted
abbrev pub is_full : Settings → State → Bool
is_full set s = nat_le set.change_limit (kept_changes s) || nat_le (2 ^ 60) (length s.slots)

-- a put whose text and all kept texts have too many bytes
abbrev pub is_long : Settings → State → Change → Bool
is_long set s (Put project path lang text) = nat_lt set.text_limit (kept_text_bytes s + length text)
is_long set s (Drop project path) = false
is_long set s (Gate project conditions) = false

-- the floor is at most what the caller has open
abbrev pub IsBelow : ℕ → Option ℕ → Type 0
IsBelow f view = IfSome view (λ p. f ≤ p)

-- the event is that of a caller that there is, or nobody's
abbrev pub IsByCaller : State → Event → Type 0
IsByCaller s e = IfSome (maker e) (λ by. by < length s.views)

-- what the state lets happen, whoever does it
abbrev pub Permits : Settings → State → Event → Type 0
Permits set s (Accept by change) = (is_absent s change ≡ false) × (is_full set s ≡ false) × (is_long set s change ≡ false)
Permits set s (Ask by) = Unit {0}
Permits set s (Took by r) = (r ≡ first_free s) × IsAccepted s r
Permits set s (Back by r) = IsTakenBy s r by
Permits set s (Done by r) = IsUndone s r
Permits set s (Publish p) = (s.published < p) × (p ≤ ready s)
Permits set s (Open by p) = (p ≡ s.published) × (view_of s by ≡ None)
Permits set s (Shut by) = IsSome (view_of s by)
Permits set s (Floor f) = (s.floor < f) × (f ≤ s.published) × All (IsBelow f) s.views

abbrev pub Allowed : Settings → State → Event → Type 0
Allowed set s e = IsByCaller s e × Permits set s e

-- each event is allowed in the state just before it
abbrev pub LawfulFrom : Settings → State → List Event → Type 0
LawfulFrom set s [] = Unit {0}
LawfulFrom set s (e ∷ es) = Allowed set s e × LawfulFrom set (after s e) es

abbrev pub Lawful : Settings → ℕ → List Event → Type 0
Lawful set callers history = LawfulFrom set (start callers) history

-- What a log holds: the changes that its lines say, each accepted after those before it. A line that is no JSON object was cut
-- off, and says nothing; an empty line after it mends it.
use Rattle.std.specs.Prelude.{ℕ, Bool, true, false, if◌then◌else◌, List, [], ◌∷◌, ◌++◌, length, fold, Option, Some, None, is_none, Ok, Err}
use Rattle.cq_base.specs.declared.change.Change.{Change}
use Rattle.cq_base.specs.declared.settings.Settings.{Settings}
use Rattle.cq_lines.specs.Pieces.{all_lines}
use Rattle.cq_base.specs.declared.refusal.Refusal.{Refusal}
use Rattle.cq_base.specs.declared.refusal.Refusal.TheVariants as refusal
use Rattle.cq_request.specs.declared.request.Request.TheVariants as request
use Rattle.cq_talk.specs.Causes.{cause}
use Rattle.cq_talk.specs.Said.{Said, TooLong, Read, said}

-- what some lines that come first hold: their changes, the line of each, and whether the last of the lines was cut off
pub record Front : Type 0 where
  pub own : List (List ℕ)
  pub changes : List Change
  pub torn : Bool

abbrev pub front_of : List (List ℕ) → List Change → Bool → Front
front_of own changes torn = record { own = own; changes = changes; torn = torn }

-- no lines
abbrev pub no_front : Front
no_front = front_of [] [] false

-- nothing is against the change after these changes, of which only those count that their last version needs
abbrev pub is_accepted : Settings → List Change → Change → Bool
is_accepted set changes change = is_none (cause set changes (length changes) change)

-- one change more, if it is accepted
abbrev pub with_change : Settings → Front → List ℕ → Change → Option Front
with_change set front line change = if is_accepted set front.changes change then Some (front_of (front.own ++ line ∷ []) (front.changes ++ change ∷ []) false) else None

-- only a line that is no JSON object was cut off
abbrev pub is_torn : Refusal → Bool
is_torn refusal.Json = true
is_torn _ = false

-- after a whole line, by what the line says: a change, or nothing since it was cut off; a log has no other lines
abbrev pub after_whole : Settings → Front → List ℕ → Said → Option Front
after_whole set front line TooLong = None
after_whole set front line (Read (Ok (request.Change change))) = with_change set front line change
after_whole set front line (Read (Ok (request.Query query))) = None
after_whole set front line (Read (Ok request.State)) = None
after_whole set front line (Read (Err why)) = if is_torn why then Some (front_of front.own front.changes true) else None

-- after a line that was cut off: only an empty line
abbrev pub after_torn : Front → List ℕ → Option Front
after_torn front [] = Some (front_of front.own front.changes false)
after_torn front (b ∷ line) = None

abbrev pub after_line : Settings → Front → List ℕ → Option Front
after_line set front line = if front.torn then after_torn front line else after_whole set front line (said set.chunk line)

-- none after a line that is refused
abbrev pub onto : Settings → Option Front → List ℕ → Option Front
onto set None line = None
onto set (Some front) line = after_line set front line

-- what lines hold; none if one of them is refused
abbrev pub held_in : Settings → List (List ℕ) → Option Front
held_in set lines = fold (onto set) (Some no_front) lines

-- what the bytes of a log hold
abbrev pub held_by : Settings → List ℕ → Option Front
held_by set bytes = held_in set (all_lines bytes)

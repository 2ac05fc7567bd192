-- What may be relied on of any log.
use Rattle.std.specs.Prelude.{◌≡◌, ℕ, ◌+◌, Bool, true, false, List, [], ◌∷◌, ◌++◌, flat_map, Some, Ok}
use Rattle.cq_base.specs.declared.change.Change.{Change}
use Rattle.cq_base.specs.declared.settings.Settings.{Settings}
use Rattle.cq_lines.specs.Pieces.{HasNoFeed, ended}
use Rattle.cq_log.specs.Logs.{Front, front_of, held_in, held_by, is_accepted}
use Rattle.cq_log.specs.Mending.{is_unclosed, mending}
use Rattle.cq_request.specs.declared.request.Request.TheVariants as request
use Rattle.cq_talk.specs.Said.{Read, said}

-- lines that come first hold the first of the changes
pub record HoldsFirst (set : Settings) (lines : List (List ℕ)) (changes : List Change) : Type 0 where
  pub front : Front
  pub held : held_in set lines ≡ Some front
  pub later : List Change
  pub parts : front.changes ++ later ≡ changes

-- what a log holds never shrinks, and no change gets another number, as the log grows
abbrev pub ALogGrows : Type 0
ALogGrows = (set : Settings) (lines more : List (List ℕ)) (front : Front) → held_in set (lines ++ more) ≡ Some front → HoldsFirst set lines front.changes

-- the bytes hold just these changes by these lines, whether the last line was cut off or not
pub record HoldsJust (set : Settings) (bytes : List ℕ) (own : List (List ℕ)) (changes : List Change) : Type 0 where
  pub torn : Bool
  pub held : held_by set bytes ≡ Some (front_of own changes torn)

-- they do, and after them comes another line
pub record IsMended (set : Settings) (bytes : List ℕ) (own : List (List ℕ)) (changes : List Change) : Type 0 where
  pub held : held_by set bytes ≡ Some (front_of own changes false)
  pub closed : is_unclosed bytes ≡ false

-- with its mending a log holds what it held
abbrev pub MendingMends : Type 0
MendingMends = (set : Settings) (bytes : List ℕ) (front : Front) → held_by set bytes ≡ Some front → IsMended set (bytes ++ mending (is_unclosed bytes) front.torn) front.own front.changes

-- and so it does after each byte of the mending
abbrev pub MendingChangesNothing : Type 0
MendingChangesNothing =
    (set : Settings) (bytes some more : List ℕ) (front : Front) → held_by set bytes ≡ Some front → some ++ more ≡ mending (is_unclosed bytes) front.torn → HoldsJust set (bytes ++ some) front.own front.changes

-- the lines say these changes, and each is accepted after those before
abbrev pub ContinueWith : Settings → List Change → List (List ℕ) → List Change → Type 0
ContinueWith set before [] [] = Unit {0}
ContinueWith set before [] (change ∷ changes) = ⊥
ContinueWith set before (line ∷ lines) [] = ⊥
ContinueWith set before (line ∷ lines) (change ∷ changes) =
    (said set.chunk line ≡ Read (Ok (request.Change change))) × HasNoFeed line × (is_accepted set before change ≡ true) × ContinueWith set (before ++ change ∷ []) lines changes

-- a log, its mending, and the lines of the changes that were accepted after it: together they hold the changes of both
abbrev pub ARestartIsTheSame : Type 0
ARestartIsTheSame =
    (set : Settings) (bytes : List ℕ) (front : Front) (lines : List (List ℕ)) (changes : List Change)
    → held_by set bytes ≡ Some front → ContinueWith set front.changes lines changes
    → IsMended set ((bytes ++ mending (is_unclosed bytes) front.torn) ++ flat_map ended lines) (front.own ++ lines) (front.changes ++ changes)

-- A run of the cutter: the lines that its calls have given, one after the other.
use Rattle.std.specs.Prelude.{◌≡◌, ◌<◌, ◌≤◌, ◌⊎◌, ℕ, ◌+◌, List, [], ◌∷◌, ◌++◌, length, flat_map, true, false, Option, Some, ⊤}
use Rattle.std.specs.Io.KnownBytes.{Consumes, IsAtEnd}
use Rattle.std.specs.List.{AllByRecursion}
use Rattle.cq_lines.specs.Held.{Held}
use Rattle.cq_lines.specs.Pieces.{HasNoFeed, ended, split, closed_lines, all_lines}
use Rattle.cq_lines.specs.Cutting.{Cuts, IsNext, IsSpent, IsSpentFound}
use Rattle.cq_lines.specs.declared.lines.Cut.{Cut}
use Rattle.cq_lines.specs.declared.lines.Cut.TheVariants as cut

-- a cutter that has taken nothing yet, as when it was made or restarted
pub record IsFresh (held : Held) : Type 0 where
  pub pending : held.pending ≡ []
  pub taken : held.taken ≡ 0
  pub over : held.over ≡ false

-- the bytes taken are the lines, each with its line feed, and what is held; or the last line had none, and all is given
abbrev pub CutSoFar : Type 0 → List ℕ → List (List ℕ) → Held → Type 0
CutSoFar at_end got lines held =
    (AllByRecursion HasNoFeed lines × (got ≡ flat_map ended lines ++ held.pending) × (held.over ≡ false)) ⊎ ((all_lines got ≡ lines) × (held.pending ≡ []) × (held.over ≡ true) × at_end × (held.taken < held.limit) × (0 < length (split got).1))

-- these lines were given so far
pub record CutTo (limit : ℕ) (rest rest_now : Option (List ℕ)) (held : Held) (lines : List (List ℕ)) : Type 0 where
  pub got : List ℕ
  pub bytes : Consumes rest rest_now got
  pub taken : held.taken ≡ length got
  pub within : held.taken ≤ held.limit
  pub limited : held.limit ≡ limit
  pub cut : CutSoFar (IsAtEnd rest_now) got lines held

-- the lines are the first of what was taken, each closed by a line feed; or all lines of a source that is at its end
abbrev pub AreWhole : ℕ → Option (List ℕ) → List ℕ → List (List ℕ) → Type 0
AreWhole limit rest got lines = ((others : List (List ℕ)) × (lines ++ others ≡ closed_lines got)) ⊎ (IsAtEnd rest × (length got < limit) × (lines ≡ all_lines got))

-- by what ends a run: at the end these are all lines, and otherwise those that a line feed closes
abbrev pub EndsWith : ℕ → Option (List ℕ) → List ℕ → List (List ℕ) → Cut → Type 0
EndsWith limit after got lines cut.End = IsAtEnd after × (length got < limit) × (all_lines got ≡ lines)
EndsWith limit after got lines cut.Spent = (length got ≡ limit) × (closed_lines got ≡ lines)
EndsWith limit after got lines cut.ReadFault = (length got < limit) × (closed_lines got ≡ lines)
EndsWith limit after got lines (cut.Line line) = ⊤
EndsWith limit after got lines cut.TooLong = ⊤

-- a run that has ended: which bytes it took, and that its lines are theirs
pub record RunEnds (limit : ℕ) (before after : Option (List ℕ)) (lines : List (List ℕ)) (found : Cut) : Type 0 where
  pub got : List ℕ
  pub bytes : Consumes before after got
  pub ends : EndsWith limit after got lines found

-- ---- laws

-- a fresh cutter has given nothing
abbrev pub RunsBegin : Type 0
RunsBegin = (rest : Option (List ℕ)) (held : Held) → IsFresh held → CutTo held.limit rest rest held []

-- a call that gives a line adds it
abbrev pub RunsGoOn : Type 0
RunsGoOn =
    (limit : ℕ) (a b c : Option (List ℕ)) (x y : Held) (lines : List (List ℕ)) (got line : List ℕ) → CutTo limit a b x lines → Consumes b c got → y.taken ≡ x.taken + length got → y.taken ≤ y.limit → y.limit ≡ x.limit
    → (x.over ≡ true → ⊥) → IsNext (IsAtEnd c) (x.pending ++ got) line y → CutTo limit a c y (lines ++ line ∷ [])

-- a call that gives none ends the run
abbrev pub RunsEnd : Type 0
RunsEnd =
    (limit : ℕ) (a b c : Option (List ℕ)) (x y : Held) (lines : List (List ℕ)) (found : Cut) → CutTo limit a b x lines → Cuts b c x found y → RunEnds limit a c lines found

-- once the limit on the bytes is reached, each further call finds that again, and takes none
abbrev pub SpentComesAgain : Type 0
SpentComesAgain = (a b : Option (List ℕ)) (x y : Held) (found : Cut) → IsSpent x → Cuts a b x found y → IsSpentFound found × IsSpent y × (y.taken ≡ x.taken)

-- two runs to the end over the same bytes give the same lines, however their sources cut them
abbrev pub RunsAgree : Type 0
RunsAgree =
    (limit other_limit : ℕ) (bytes left other_left : List ℕ) (lines other_lines : List (List ℕ)) → RunEnds limit (Some bytes) (Some left) lines cut.End → RunEnds other_limit (Some bytes) (Some other_left) other_lines cut.End → lines ≡ other_lines

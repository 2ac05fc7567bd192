-- The tokens on one side of some places, and where they begin to differ.
use Rattle.std.specs.Prelude.{◌≡◌, ℕ, List, Option, slice_index_or}
use Rattle.cq_base.specs.declared.norm.Norm.{Norm}
use Rattle.cq_base.specs.declared.group.Place.{Place}
use Rattle.cq_clones.specs.Groups.{token_before, token_behind}
use Rattle.cq_groups.specs.declared.differing.Difference.{Difference}
use Rattle.cq_groups.specs.declared.spots.Row.{Row}
use Rattle.cq_groups.specs.Sets.{AreOne, IsDifference}

-- the token before the place at a position, if there is one
abbrev pub IsTokenBefore : {T : Type 0} → List (List T) → List Place → ℕ → Option T → Type 0
IsTokenBefore corpus places i token = (p : Place) → token ≡ token_before corpus (slice_index_or places i p)

-- the token `n` after the first spot of the row at a position, if there is one
abbrev pub IsTokenBehind : {T : Type 0} → List (List T) → ℕ → List Row → ℕ → Option T → Type 0
IsTokenBehind corpus n rows i token = (r : Row) → token ≡ token_behind corpus (slice_index_or rows i r).first.place n

-- the first spots of the rows go on by one token, `n` after each
abbrev pub RowsGoOnByOne : {T : Type 0} → List (List T) → ℕ → List Row → Type 0
RowsGoOnByOne corpus n rows = AreOne (λ r. token_behind corpus r.first.place n) rows

-- they go on by different tokens, or one has none
abbrev pub GoOnApart : List (List Norm) → ℕ → List Row → Difference → Type 0
GoOnApart corpus n rows d = IsDifference (λ r. token_behind corpus r.first.place n) rows d

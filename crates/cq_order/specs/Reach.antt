-- Where a number can be among this many whole numbers that rise strictly, of which these are the first and the last.
use Rattle.std.specs.Prelude.{ℕ, ◌+◌, ◌-◌, ◌<◌, ◌≤◌}

-- at this place, from 0: it differs from the first by the places between them or more, and so from the last
abbrev pub CanStandAt : ℕ → ℕ → ℕ → ℕ → ℕ → Type 0
CanStandAt first last len number k = (k < len) × (first + k ≤ number) × (number + (len - 1 - k) ≤ last)

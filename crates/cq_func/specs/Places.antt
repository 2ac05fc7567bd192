-- The first of some places that passes a test.
use Rattle.std.specs.Prelude.{ℕ, zero, suc, ◌+◌, ◌-◌, Bool, if◌then◌else◌}

-- the least of `many` places from `from` on that passes, or the place after them if none does
abbrev pub first_place : (ℕ → Bool) → ℕ → ℕ → ℕ
first_place test from zero = from
first_place test from (suc many) = if test from then from else first_place test (from + 1) many

-- the least of the places below `n` that passes, or `n`
abbrev pub place_below : (ℕ → Bool) → ℕ → ℕ
place_below test n = first_place test 0 n

-- the least place above `at` and below `n` that passes, or `n`
abbrev pub place_above : (ℕ → Bool) → ℕ → ℕ → ℕ
place_above test at n = first_place test (at + 1) (n - (at + 1))

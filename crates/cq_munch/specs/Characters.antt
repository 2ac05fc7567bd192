-- The characters of units, as bytes and as patterns see them.
use Rattle.std.specs.Prelude.{ℕ, Bool, nat_lt, if◌then◌else◌, List, map}
use Rattle.std.specs.Str.{encode_utf8_all}
use Rattle.cq_munch.specs.declared.unit.Unit.{Unit}

abbrev pub characters : List Unit → List ℕ
characters units = map (λ u. u.ch) units

-- A character of ASCII as it is, and past ASCII 128 for each that begins a name, 129 for each other that continues one, and
-- 130 for all others.
abbrev pub seen_as : (ℕ → Bool) → (ℕ → Bool) → ℕ → ℕ
seen_as begins continues c = if nat_lt c 128 then c else (if begins c then 128 else (if continues c then 129 else 130))

-- by what stands for each character
abbrev pub seen_by : (ℕ → ℕ) → List Unit → List ℕ
seen_by stood units = map (λ u. stood u.ch) units

abbrev pub utf8_of : List Unit → List ℕ
utf8_of units = encode_utf8_all (characters units)

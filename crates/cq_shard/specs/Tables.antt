-- Numbers that rise, what is left of them, and a part of them beside them.
use Rattle.std.specs.Prelude.{◌≡◌, ◌⊎◌, ℕ, ◌+◌, ◌-◌, ◌<◌, ◌≤◌, ◌||◌, Bool, nat_eq, nat_le, nat_lt, List, length, slice_index, filter, All, Contains}
use Rattle.std.specs.List.{list_any, AllWithin}
use Rattle.std.specs.List.Sorted.{IsStrictlyIncreasing}

-- whether the number is among these
abbrev pub is_among : List ℕ → ℕ → Bool
is_among numbers n = list_any (nat_eq n) numbers

-- the first are all among the others
abbrev pub AreAmong : List ℕ → List ℕ → Type 0
AreAmong part numbers = (n : ℕ) → Contains part n → Contains numbers n

-- the change is above the floor, or one of those to keep
abbrev pub stays : ℕ → List ℕ → ℕ → Bool
stays floor keep n = nat_lt floor n || is_among keep n

-- the changes that stay
abbrev pub staying : ℕ → List ℕ → List ℕ → List ℕ
staying floor keep numbers = filter (λ n. stays floor keep n) numbers

-- the numbers up to a last one
abbrev pub no_later : ℕ → List ℕ → List ℕ
no_later last numbers = filter (λ n. nat_le n last) numbers

-- the changes rise, and each has a size
pub record ArePuts (changes sizes : List ℕ) : Type 0 where
  pub rising : IsStrictlyIncreasing changes
  pub sized : length changes ≤ length sizes

-- this many of the numbers are at most the floor, and all after them are above it
pub record IsUpTo (numbers : List ℕ) (floor many : ℕ) : Type 0 where
  pub within : many ≤ length numbers
  pub low : AllWithin (λ n. n ≤ floor) numbers 0 many
  pub high : AllWithin (λ n. floor < n) numbers many (length numbers)

-- the last of the numbers
abbrev pub last_in : List ℕ → ℕ
last_in numbers = slice_index numbers (length numbers - 1)

-- each of the first is one of the others, or above all of them
abbrev pub AreAmongOrAbove : List ℕ → List ℕ → Type 0
AreAmongOrAbove part numbers = (n : ℕ) → Contains part n → Contains numbers n ⊎ All (λ m. m < n) numbers

-- Both rise, and the second are some of the first, of which there are this many more.
pub record IsPart (numbers part : List ℕ) (more : ℕ) : Type 0 where
  pub rising : IsStrictlyIncreasing numbers
  pub part_rises : IsStrictlyIncreasing part
  pub among : AreAmong part numbers
  pub number : length numbers ≡ length part + more

-- what is to be kept at this place is this many places further on among the changes
abbrev pub IsAlike : List ℕ → List ℕ → ℕ → ℕ → Type 0
IsAlike changes keep gone i = slice_index changes (i + gone) ≡ slice_index keep i

-- from a place on, if they are alike they are so at each place before
abbrev pub AreAlikeInFront : List ℕ → List ℕ → ℕ → ℕ → Type 0
AreAlikeInFront changes keep gone from = (i j : ℕ) → from ≤ i → i ≤ j → j < length keep → IsAlike changes keep gone j → IsAlike changes keep gone i

-- From one place up to another they are alike, and not there, unless nothing more is to be kept.
pub record AreAlikeUpTo (changes keep : List ℕ) (gone from to : ℕ) : Type 0 where
  pub begins : from ≤ to
  pub within : to ≤ length keep
  pub same : (i : ℕ) → from ≤ i → i < to → IsAlike changes keep gone i
  pub differs : to < length keep → IsAlike changes keep gone to → ⊥

-- A table of one row whose scan need not be begun again: if it finds no end, no spelling begins at a character that it read.
use Rattle.std.specs.Prelude.{◌≡◌, ℕ, suc, ◌-◌, ◌<◌, ◌≤◌, ◌==◌, ◌&&◌, ◌||◌, not, nat_le, Bool, true, None, List, [], ◌∷◌, length, drop, slice_index_or}
use Rattle.std.specs.List.{list_all}
use Rattle.cq_munch.specs.Automata.{Tables, fits}
use Rattle.cq_munch.specs.Behind.{each_below}
use Rattle.cq_munch.specs.Longest.{LongestAt}
use Rattle.cq_munch.specs.Pattern.{Pattern, Spells}

-- no spelling begins at a character from one place up to another
abbrev pub NoneBegins : Pattern → List ℕ → ℕ → ℕ → Type 0
NoneBegins p text from to = (at : ℕ) → from ≤ at → at < to → LongestAt (Spells p) (drop at text) None

-- ---- the test of a table, which computes

-- each entry of a state is also another state's, or leads nowhere
abbrev pub goes_with : List ℕ → List ℕ → Bool
goes_with [] others = true
goes_with (e ∷ entries) [] = nat_le e 48 && goes_with entries []
goes_with (e ∷ entries) (o ∷ others) = (nat_le e 48 || (e == o)) && goes_with entries others

-- what goes on from one state goes on from the other
abbrev pub is_within : Tables → ℕ → ℕ → Bool
is_within t a b =
    (a == b)
    || (goes_with (slice_index_or t.steps a []) (slice_index_or t.steps b []) && ((slice_index_or t.ends a 0 == 0) || (slice_index_or t.ends a 0 == slice_index_or t.ends b 0)))

-- one more than the state that a character leads to at first, and than the one to which it leads a scan that has no end there
abbrev pub goes_on : Tables → ℕ → ℕ → Bool
goes_on t (suc first) (suc next) = not (slice_index_or t.ends next 0 == 0) || is_within t first next
goes_on t _ _ = true

abbrev pub begun_fits : Tables → ℕ → ℕ → Bool
begun_fits t s k = goes_on t (slice_index_or (slice_index_or t.steps 0 []) k 0 - 48) (slice_index_or (slice_index_or t.steps s []) k 0 - 48)

-- nothing goes on from a state where a spelling may end
abbrev pub ends_alone : Tables → ℕ → Bool
ends_alone t s = (slice_index_or t.ends s 0 == 0) || list_all (λ e. nat_le e 48) (slice_index_or t.steps s [])

unfoldable pub scans_once : Tables → Bool
scans_once t = each_below (length t.steps) (λ s. ends_alone t s && each_below (length (slice_index_or t.steps 0 [])) (begun_fits t s))

-- the table finds just the spellings of this pattern, and need not begin again
abbrev pub FitsOnce : Pattern → List (List ℕ) → Tables → Type 0
FitsOnce p texts t = (fits (p ∷ []) texts t ≡ true) × (scans_once t ≡ true)

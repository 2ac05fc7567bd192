-- Names of ASCII, character by character, and when that fits a table.
use Rattle.std.specs.Prelude.{◌≡◌, ℕ, suc, ◌<◌, ◌==◌, ◌&&◌, not, nat_lt, if◌then◌else◌, Bool, List, slice_index_or}
use Rattle.cq_munch.specs.Automata.{Tables, entry_at, or_else}
use Rattle.cq_munch.specs.Behind.{each_below}

-- What a character is to a name: 51, a `3`, begins one, 50 continues one, 48 ends one; at 49, and past ASCII, it is not told.
abbrev pub kind_at : List ℕ → ℕ → ℕ
kind_at kinds c = if nat_lt c 128 then slice_index_or kinds c 49 else 49

abbrev pub begins_at : List ℕ → ℕ → Bool
begins_at kinds c = kind_at kinds c == 51

-- each character that begins or continues a name leads to the state of names, and each that ends one leads nowhere from it
abbrev pub kind_fits : List ℕ → Tables → ℕ → ℕ → Bool
kind_fits kinds t state c =
    or_else (not (kind_at kinds c == 51)) (λ u. entry_at t 0 c == suc state)
    && (or_else (nat_lt (kind_at kinds c) 50) (λ u. entry_at t state c == suc state)
    && or_else (not (kind_at kinds c == 48)) (λ u. entry_at t state c == 0))

-- and a spelling of the row may end in the state
unfoldable pub plain_fits : List ℕ → Tables → ℕ → ℕ → Bool
plain_fits kinds t state row = each_below 128 (kind_fits kinds t state) && (slice_index_or t.ends state 0 == suc row)

-- each of the first characters stands for itself
abbrev pub IsItselfBelow : ℕ → (ℕ → ℕ) → Type 0
IsItselfBelow n stood = (c : ℕ) → c < n → stood c ≡ c

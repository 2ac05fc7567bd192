-- Which keys some entries may have: a bit stands for all keys that share a word and a bit of it.
use Rattle.std.specs.Prelude.{◌≡◌, ℕ, ◌<◌, ◌/◌, ◌%◌, ◌^◌, List, length, All, slice_index_or}
use Rattle.std.specs.Int.{bit_at}
use Rattle.std.specs.Int.Bits.{bit_and}
use Rattle.cq_base.specs.declared.entry.Entry.{Entry}
use Rattle.cq_shard.specs.declared.marks.Marks.{Marks}

-- which word has the key's bit
abbrev pub word_of : Marks → ℕ → ℕ
word_of marks key = bit_and (key / 2 ^ marks.shift) marks.mask

-- which bit of the word it is
abbrev pub bit_of : ℕ → ℕ
bit_of key = key / 2 ^ 8 % 64

-- the key's bit is set
abbrev pub IsMarked : Marks → ℕ → Type 0
IsMarked marks key = bit_at (slice_index_or marks.words.items (word_of marks key) 0) (bit_of key) ≡ 1

-- each key has a word
pub record HasWords (marks : Marks) : Type 0 where
  pub within : marks.mask < length marks.words.items
  pub shift : marks.shift < 64

-- the bit of each entry's key is set
pub record AreMarks (rows : List Entry) (marks : Marks) : Type 0 where
  pub words : HasWords marks
  pub each : All (λ e. IsMarked marks e.key) rows

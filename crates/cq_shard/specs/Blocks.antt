-- The puts that a shard knows, in blocks.
use Rattle.std.specs.Prelude.{◌≡◌, ℕ, ◌<◌, ◌≤◌, ◌++◌, Bool, nat_lt, List, length, take, All, AllPairs}
use Rattle.std.specs.List.{AllWithin, flat_map}
use Rattle.std.specs.List.Sorted.{IsStrictlyIncreasing}
use Rattle.cq_shard.specs.declared.table.Block.{Block}

-- the puts of all blocks, block by block
abbrev pub puts_in : List Block → List ℕ
puts_in blocks = flat_map (λ (b : Block). b.puts) blocks

abbrev pub has_puts : Block → Bool
has_puts b = nat_lt 0 (length b.puts)

-- the block with what a function makes of its puts
abbrev pub with_puts : (List ℕ → List ℕ) → Block → Block
with_puts f b = record { start = b.start; puts = f b.puts }

-- The puts rise. Each block has some, none before its start, and those of all earlier blocks are.
pub record IsTable (blocks : List Block) : Type 0 where
  pub rising : IsStrictlyIncreasing (puts_in blocks)
  pub some : All (λ b. 0 < length b.puts) blocks
  pub inside : All (λ b. All (λ n. b.start ≤ n) b.puts) blocks
  pub follow : AllPairs (λ a b. All (λ n. n < b.start) a.puts) blocks

-- blocks that have these puts
pub record IsTableOf (puts : List ℕ) (blocks : List Block) : Type 0 where
  pub table : IsTable blocks
  pub are : puts_in blocks ≡ puts

-- this many of the puts, and at least one, come after those of the old blocks
pub record Fills (many : ℕ) (puts : List ℕ) (old new : List Block) : Type 0 where
  pub some : 0 < many
  pub within : many ≤ length puts
  pub table : IsTable new
  pub are : puts_in new ≡ puts_in old ++ take many puts

-- the first block that starts after a change
pub record IsFirstAfter (blocks : List Block) (change place : ℕ) : Type 0 where
  pub within : place ≤ length blocks
  pub before : AllWithin (λ b. b.start ≤ change) blocks 0 place
  pub after : AllWithin (λ b. change < b.start) blocks place (length blocks)

-- the first of the numbers, so many, come after the old ones
pub record GrowsBy (numbers old new : List ℕ) : Type 0 where
  pub many : ℕ
  pub is : new ≡ old ++ take many numbers

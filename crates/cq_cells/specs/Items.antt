-- What lies in the cells: the board in cell 0, and the shard s in cell s + 1.
use Rattle.std.proofs.Common.{◌≡◌, ◌≢◌, ℕ, zero, suc, ◌≤◌, ◌%◌, ◌^◌, List, [], ◌∷◌, ◌++◌, length, refl}
use Rattle.cq_cells.specs.declared.item.Item.{Item}
use Rattle.cq_cells.specs.declared.item.Item.TheVariants as item

module _ {B S E : Type 0} (board : List E → B → Type 0) (shard : List E → ℕ → ℕ → S → Type 0) where
  -- the half of the board's word is the number of events, modulo 2^63, and a shard's the number of changes that it has applied
  abbrev pub Fits : List E → ℕ → ℕ → Item B S → Type 0
  Fits log zero c (item.Board b) = (c ≡ length log % 2 ^ 63) × board log b
  Fits log zero c (item.Shard x) = ⊥
  Fits log (suc s) c (item.Board b) = ⊥
  Fits log (suc s) c (item.Shard x) = shard log s c x

module _ {B S E : Type 0} (lawful : List E → Type 0) (board : List E → B → Type 0) (shard : List E → ℕ → ℕ → S → Type 0) (asks : E → ℕ) where
  -- what is in a shard's cell stays right if each shard does
  pub fits_last : ((log : List E) (e : E) (s a : ℕ) (x : S) → lawful (log ++ e ∷ []) → asks e ≤ a → shard log s a x → shard (log ++ e ∷ []) s a x)
      → (log : List E) (e : E) (k c : ℕ) (x : Item B S) → k ≢ 0 → lawful (log ++ e ∷ []) → asks e ≤ c → Fits board shard log k c x → Fits board shard (log ++ e ∷ []) k c x
  fits_last lasts log e zero c x other law ask h = absurd (other refl)
  fits_last lasts log e (suc s) c (item.Board b) other law ask h = h
  fits_last lasts log e (suc s) c (item.Shard x) other law ask h = lasts log e s c x law ask h

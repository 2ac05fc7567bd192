-- The ranges of the settings.
use Rattle.std.specs.Prelude.{◌&&◌, ℕ, ◌^◌, ◌≤◌, Bool, nat_le, if◌then◌else◌, Option, Some, None}
use Rattle.cq_base.specs.declared.settings.Settings.{Settings}
use Rattle.cq_base.specs.declared.settings.Field.{Field}
use Rattle.cq_base.specs.declared.settings.Field.TheVariants.{Chunk, Shards, KeyBits, ChangeLimit, TextLimit, ByteLimit}

-- from `low` to `high`, both included
abbrev pub is_within : ℕ → ℕ → ℕ → Bool
is_within low high n = nat_le low n && nat_le n high

-- this field if it is out of its range, else the first of the later ones
abbrev pub unless_within : Bool → Field → Option Field → Option Field
unless_within ok field later = if ok then later else Some field

-- the first field out of its range, in the order of the struct
abbrev pub first_out_of_range : Settings → Option Field
first_out_of_range s =
    unless_within (is_within 1 1000 s.chunk) Chunk
    (unless_within (is_within 1 64 s.shards) Shards
    (unless_within (is_within 0 64 s.key_bits) KeyBits
    (unless_within (is_within 1 262144 s.change_limit) ChangeLimit
    (unless_within (is_within 1 67108864 s.text_limit) TextLimit
    (unless_within (is_within 1 (2 ^ 60) s.byte_limit) ByteLimit None)))))

-- all fields are in their ranges
pub record IsInRange (s : Settings) : Type 0 where
  pub chunk : 1 ≤ s.chunk
  pub chunk_most : s.chunk ≤ 1000
  pub shards : 1 ≤ s.shards
  pub shards_most : s.shards ≤ 64
  pub key_bits : s.key_bits ≤ 64
  pub change_limit : 1 ≤ s.change_limit
  pub change_limit_most : s.change_limit ≤ 262144
  pub text_limit : 1 ≤ s.text_limit
  pub text_limit_most : s.text_limit ≤ 67108864
  pub byte_limit : 1 ≤ s.byte_limit
  pub byte_limit_most : s.byte_limit ≤ 2 ^ 60

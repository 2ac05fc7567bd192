-- The windows of a corpus by their keys: the tuples of an index over chunks of tokens (Hummel et al., ICSM 2010).
use Rattle.std.specs.Prelude.{◌≡◌, ◌⊎◌, ℕ, ◌+◌, ◌-◌, ◌<◌, ◌≤◌, List, length, slice_get, Option, Some}
use Rattle.cq_base.specs.declared.entry.Entry.{Entry}
use Rattle.cq_base.specs.declared.group.Place.{Place}
use Rattle.cq_clones.specs.Lists.{AreAllInOrder}
use Rattle.cq_clones.specs.Groups.{file_at, word_at}

-- the key of the window at a place, if there is one
abbrev pub key_at : List (List ℕ) → Place → Option ℕ
key_at keys p = slice_get (file_at keys p.file) p.at

abbrev pub HasKey : List (List ℕ) → ℕ → Place → Type 0
HasKey keys key p = key_at keys p ≡ Some key

-- the keys are those of all windows of `chunk` tokens, and equal windows have equal keys
pub record AreKeyed {T : Type 0} (chunk : ℕ) (corpus : List (List T)) (keys : List (List ℕ)) : Type 0 where
  pub windows : (file : ℕ) → length (file_at keys file) ≡ length (file_at corpus file) + 1 - chunk
  pub equal : (p q : Place) → p.at + chunk ≤ length (file_at corpus p.file) → q.at + chunk ≤ length (file_at corpus q.file) → word_at corpus p chunk ≡ word_at corpus q chunk → key_at keys p ≡ key_at keys q

-- an entry of one of the files
pub record IsEntryOf (changes : List ℕ) (keys : List (List ℕ)) (e : Entry) : Type 0 where
  pub file : ℕ
  pub put : slice_get changes file ≡ Some e.change
  pub window : HasKey keys e.key (record { file = file; at = e.at })

-- by change and then place
abbrev pub EntryBefore : Entry → Entry → Type 0
EntryBefore a b = (a.change < b.change) ⊎ ((a.change ≡ b.change) × (a.at < b.at))

-- all entries of the files with the key, in order
abbrev pub IsBucket : List ℕ → List (List ℕ) → ℕ → List Entry → Type 0
IsBucket changes keys key bucket = AreAllInOrder EntryBefore (λ e. (e.key ≡ key) × IsEntryOf changes keys e) bucket

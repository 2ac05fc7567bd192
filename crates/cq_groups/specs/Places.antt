-- The places of the entries with one key.
use Rattle.std.specs.Prelude.{◌≡◌, ℕ, List, length, slice_get, Some}
use Rattle.cq_base.specs.declared.entry.Entry.{Entry}
use Rattle.cq_base.specs.declared.group.Place.{Place}
use Rattle.cq_base.specs.declared.group.Group.{Group}
use Rattle.std.specs.declared.sync.ledger.Ledger as ledger
use Rattle.cq_clones.specs.Lists.{AreAllInOrder}
use Rattle.cq_clones.specs.Groups.{IsGroup, IsBefore}
use Rattle.cq_base.specs.Places.{first_place}
use Rattle.cq_clones.specs.Windows.{HasKey, IsBucket}
use Rattle.cq_tokens.specs.declared.files.Files as files
use Rattle.cq_tokens.specs.declared.corpus.Corpus.{Corpus}
use Rattle.cq_tokens.specs.Parts.{tokens_in, changes_in, keys_in}
use Rattle.cq_groups.specs.Sets.{AreAllOnce, ReadsAtMost}

-- the place of an entry
pub record IsPlaceOf (changes : List ℕ) (e : Entry) (p : Place) : Type 0 where
  pub file : slice_get changes p.file ≡ Some e.change
  pub at : p.at ≡ e.at

-- a group whose word begins with a window of the key
abbrev pub IsGroupOfKey : {T : Type 0} → List (List T) → List (List ℕ) → ℕ → ℕ → Group → Type 0
IsGroupOfKey corpus keys least key group = IsGroup corpus least group × HasKey keys key (first_place group)

module _ {F R : Type 0} {f : files.Ghosts F R} {g : ledger.Ghosts R} where
  -- all entries of a corpus with the key, in order
  abbrev pub IsBucketIn : Corpus F R f g → ℕ → List Entry → Type 0
  IsBucketIn corpus key bucket = IsBucket (changes_in corpus) (keys_in corpus) key bucket

  -- all places of a corpus at which a window of the key begins, in order
  abbrev pub ArePlacesWith : Corpus F R f g → ℕ → List Place → Type 0
  ArePlacesWith corpus key places = AreAllInOrder IsBefore (HasKey (keys_in corpus) key) places

  -- exactly the groups of a corpus whose word begins with a window of the key, each once
  abbrev pub AreGroupsOfKey : Corpus F R f g → ℕ → ℕ → List Group → Type 0
  AreGroupsOfKey corpus least key groups = AreAllOnce (IsGroupOfKey (tokens_in corpus.files) (keys_in corpus) least key) groups

  -- the same of the bucket's own key
  abbrev pub ArePlacesOfBucket : Corpus F R f g → List Entry → List Place → Type 0
  ArePlacesOfBucket corpus bucket places = (key : ℕ) → IsBucketIn corpus key bucket → ArePlacesWith corpus key places

  abbrev pub AreGroupsOfBucket : Corpus F R f g → ℕ → List Entry → List Group → Type 0
  AreGroupsOfBucket corpus least bucket groups = (key : ℕ) → IsBucketIn corpus key bucket → AreGroupsOfKey corpus least key groups

  -- from one count of steps to another, tokens were read of no more places than have the bucket's key
  abbrev pub ReadsAtMostOfBucket : Corpus F R f g → List Entry → ℕ → ℕ → Type 0
  ReadsAtMostOfBucket corpus bucket old new = (key : ℕ) (places : List Place) → IsBucketIn corpus key bucket → ArePlacesWith corpus key places → ReadsAtMost (tokens_in corpus.files) (length places) old new

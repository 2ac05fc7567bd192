-- Groups and windows by their keys, and how many questions to an index were counted.
use Rattle.std.specs.Prelude.{◌≡◌, ℕ, ◌+◌, ◌-◌, ◌^◌, ◌<◌, ◌≤◌, min, Bool, false, ◌||◌, ◌==◌, List, [], ◌∷◌, length, slice_index, Any, Contains, count_by}
use Rattle.std.specs.declared.sync.ledger.Ledger as ledger
use Rattle.cq_base.specs.declared.group.Place.{Place}
use Rattle.cq_base.specs.declared.group.Group.{Group}
use Rattle.cq_clones.specs.Lists.{AreAllInOrder}
use Rattle.cq_clones.specs.Groups.{file_at, IsGroup, IsBefore}
use Rattle.cq_base.specs.Places.{first_place}
use Rattle.cq_clones.specs.Windows.{HasKey}
use Rattle.cq_tokens.specs.declared.files.Files as files
use Rattle.cq_tokens.specs.declared.corpus.Corpus.{Corpus}
use Rattle.cq_tokens.specs.Parts.{tokens_in, keys_in}
use Rattle.cq_groups.specs.Sets.{AreAllOnce, ReadsAtMost}

-- the place's window has one of the keys
abbrev pub HasOneOf : List (List ℕ) → List ℕ → Place → Type 0
HasOneOf keys ks p = Any (λ k. HasKey keys k p) ks

-- a group whose word begins with a window of one of the keys
abbrev pub IsGroupOfKeys : {T : Type 0} → List (List T) → List (List ℕ) → ℕ → List ℕ → Group → Type 0
IsGroupOfKeys corpus keys least ks group = IsGroup corpus least group × HasOneOf keys ks (first_place group)

-- a window has the key
abbrev pub IsKey : List (List ℕ) → ℕ → Type 0
IsKey keys k = (p : Place) × HasKey keys k p

-- a window of the file has the key
abbrev pub IsKeyIn : List (List ℕ) → ℕ → ℕ → Type 0
IsKeyIn keys file k = Contains (file_at keys file) k

-- windows at two places have the key
abbrev pub IsRepeatedKey : List (List ℕ) → ℕ → Type 0
IsRepeatedKey keys k = (p q : Place) × IsBefore p q × HasKey keys k p × HasKey keys k q

-- how many times a number is in a list
abbrev pub times_in : List ℕ → ℕ → ℕ
times_in xs k = count_by (λ x. x == k) xs

-- there is a number at a place of the list, and the one before it is equal
abbrev pub GoesOn : List ℕ → ℕ → Type 0
GoesOn xs n = (0 < n) × (n < length xs) × (slice_index xs (n - 1) ≡ slice_index xs n)

-- exactly the numbers with a property, each once
abbrev pub AreAllRising : (ℕ → Type 0) → List ℕ → Type 0
AreAllRising Is ks = AreAllInOrder (λ a b. a < b) Is ks

-- so many numbers have a property
abbrev pub AreSoMany : (ℕ → Type 0) → ℕ → Type 0
AreSoMany Is n = (ks : List ℕ) → AreAllRising Is ks → length ks ≡ n

-- all windows, and those whose key is one of a file's
abbrev pub AreWindows : List (List ℕ) → List Place → Type 0
AreWindows keys windows = AreAllInOrder IsBefore (λ p. (k : ℕ) × HasKey keys k p) windows

abbrev pub AreReached : List (List ℕ) → ℕ → List Place → Type 0
AreReached keys file windows = AreAllInOrder IsBefore (λ p. (k : ℕ) × IsKeyIn keys file k × HasKey keys k p) windows

-- a count of questions rose by `n`, up to its last value
abbrev pub Rises : ℕ → ℕ → ℕ → Type 0
Rises old new n = min new (2 ^ 64 - 1) ≡ min (old + n) (2 ^ 64 - 1)

-- it didn't fall, and rose by `n` at most
abbrev pub RisesAtMost : ℕ → ℕ → ℕ → Type 0
RisesAtMost old new n = (min old (2 ^ 64 - 1) ≤ min new (2 ^ 64 - 1)) × (min new (2 ^ 64 - 1) ≤ min (old + n) (2 ^ 64 - 1))

-- whether one of the places is in the file
abbrev pub has_file : ℕ → List Place → Bool
has_file file [] = false
has_file file (p ∷ ps) = p.file == file || has_file file ps

module _ {F R : Type 0} {f : files.Ghosts F R} {g : ledger.Ghosts R} where
  -- exactly the groups of a corpus whose word begins with a window of one of the keys, each once
  abbrev pub AreGroupsOfKeys : Corpus F R f g → ℕ → List ℕ → List Group → Type 0
  AreGroupsOfKeys corpus least ks groups = AreAllOnce (IsGroupOfKeys (tokens_in corpus.files) (keys_in corpus) least ks) groups

  -- from one count of questions to another, one was counted for each key of a window
  abbrev pub AsksEachKey : Corpus F R f g → ℕ → ℕ → Type 0
  AsksEachKey corpus old new = (ks : List ℕ) → AreAllRising (IsKey (keys_in corpus)) ks → Rises old new (length ks)

  -- and no more than so
  abbrev pub AsksKeysAtMost : Corpus F R f g → ℕ → ℕ → Type 0
  AsksKeysAtMost corpus old new = (ks : List ℕ) → AreAllRising (IsKey (keys_in corpus)) ks → RisesAtMost old new (length ks)

  -- once for each key of one file's windows
  abbrev pub AsksEachKeyIn : Corpus F R f g → ℕ → ℕ → ℕ → Type 0
  AsksEachKeyIn corpus file old new = (ks : List ℕ) → AreAllRising (IsKeyIn (keys_in corpus) file) ks → Rises old new (length ks)

  -- and no more than so
  abbrev pub AsksKeysAtMostIn : Corpus F R f g → ℕ → ℕ → ℕ → Type 0
  AsksKeysAtMostIn corpus file old new = (ks : List ℕ) → AreAllRising (IsKeyIn (keys_in corpus) file) ks → RisesAtMost old new (length ks)

  -- from one count of steps to another, tokens were read of no more places than a corpus has windows
  abbrev pub ReadsWindows : Corpus F R f g → ℕ → ℕ → Type 0
  ReadsWindows corpus old new = (windows : List Place) → AreWindows (keys_in corpus) windows → ReadsAtMost (tokens_in corpus.files) (length windows) old new

  -- than it has windows with a key of one file's
  abbrev pub ReadsReached : Corpus F R f g → ℕ → ℕ → ℕ → Type 0
  ReadsReached corpus file old new = (windows : List Place) → AreReached (keys_in corpus) file windows → ReadsAtMost (tokens_in corpus.files) (length windows) old new

  -- than it has windows with one of these keys
  abbrev pub ReadsWindowsOf : Corpus F R f g → List ℕ → ℕ → ℕ → Type 0
  ReadsWindowsOf corpus ks old new = (windows : List Place) → AreAllInOrder IsBefore (HasOneOf (keys_in corpus) ks) windows → ReadsAtMost (tokens_in corpus.files) (length windows) old new

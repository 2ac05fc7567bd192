-- The groups of repeated words of a corpus. A corpus is a list of files, and a file is a list of tokens. Tokens are
-- equal if they are the same value.
use Rattle.std.specs.Prelude.{◌≡◌, ◌≢◌, ◌⊎◌, ℕ, zero, suc, ◌+◌, ◌<◌, ◌≤◌, ◌==◌, nat_le, ◌||◌, not, Bool, true, if◌then◌else◌, List, [], ◌∷◌, ◌++◌, length, take, drop, slice_get, slice_index_or, Option, Some, None, IsSome, Any}
use Rattle.cq_base.specs.declared.group.Place.{Place}
use Rattle.cq_base.specs.declared.group.Group.{Group}
use Rattle.cq_base.specs.Places.{first_place}
use Rattle.cq_clones.specs.Lists.{AreAllInOrder}

-- the tokens of a file; none if there is no such file
abbrev pub file_at : {T : Type 0} → List (List T) → ℕ → List T
file_at corpus file = slice_index_or corpus file []

-- there is a token of the corpus at the place
abbrev pub IsPlace : {T : Type 0} → List (List T) → Place → Type 0
IsPlace corpus p = p.at < length (file_at corpus p.file)

-- an earlier file, or the same file and an earlier token
abbrev pub IsBefore : Place → Place → Type 0
IsBefore p q = (p.file < q.file) ⊎ ((p.file ≡ q.file) × (p.at < q.at))

-- the `n` tokens from a place on, or those that the file has there if they are fewer
abbrev pub word_at : {T : Type 0} → List (List T) → Place → ℕ → List T
word_at corpus p n = take n (drop p.at (file_at corpus p.file))

-- the word is at the place: its tokens are those from there on
abbrev pub StandsAt : {T : Type 0} → List (List T) → List T → Place → Type 0
StandsAt corpus word p = word_at corpus p (length word) ≡ word

-- the token `n` after a place, if there is one
abbrev pub token_behind : {T : Type 0} → List (List T) → Place → ℕ → Option T
token_behind corpus p n = slice_get (file_at corpus p.file) (p.at + n)

-- the token before a place, if there is one
abbrev pub token_ahead : {T : Type 0} → List T → ℕ → Option T
token_ahead file zero = None
token_ahead file (suc at) = slice_get file at

abbrev pub token_before : {T : Type 0} → List (List T) → Place → Option T
token_before corpus p = token_ahead (file_at corpus p.file) p.at

-- both tokens are there, and they are equal
abbrev pub AreSame : {T : Type 0} → Option T → Option T → Type 0
AreSame a b = IsSome a × (a ≡ b)

-- The word occurs at two different places and can be extended from them neither to the left nor to the right: the
-- tokens before differ or one is missing, and so do the tokens after the word.
pub record IsMaximalAt {T : Type 0} (corpus : List (List T)) (word : List T) (p q : Place) : Type 0 where
  pub different : p ≢ q
  pub first : StandsAt corpus word p
  pub second : StandsAt corpus word q
  pub left : ¬ AreSame (token_before corpus p) (token_before corpus q)
  pub right : ¬ AreSame (token_behind corpus p (length word)) (token_behind corpus q (length word))

-- Of places in order, those that are kept of a word of `n` tokens: each that begins at or after the end
-- of the last kept one in the same file.
abbrev pub is_free : ℕ → Option Place → Place → Bool
is_free n None p = true
is_free n (Some last) p = not (last.file == p.file) || nat_le (last.at + n) p.at

abbrev pub kept_after : ℕ → Option Place → List Place → List Place
kept_after n last [] = []
kept_after n last (p ∷ rest) = (if is_free n last p then p ∷ [] else []) ++ kept_after n (if is_free n last p then Some p else last) rest

abbrev pub kept_of : ℕ → List Place → List Place
kept_of n places = kept_after n None places

-- A group is a word of at least `least` tokens that is maximal at two places, with its kept occurrences,
-- of which there are at least two.
pub record IsGroup {T : Type 0} (corpus : List (List T)) (least : ℕ) (group : Group) : Type 0 where
  pub word : List T
  pub all : List Place
  pub tokens : length word ≡ group.tokens
  pub long : least ≤ group.tokens
  pub repeated : (p q : Place) × IsMaximalAt corpus word p q
  pub occurrences : AreAllInOrder IsBefore (StandsAt corpus word) all
  pub places : group.places ≡ kept_of group.tokens all
  pub several : 2 ≤ length group.places

-- the order of groups: by the first place, and longer first
abbrev pub ComesBefore : Group → Group → Type 0
ComesBefore g h = IsBefore (first_place g) (first_place h) ⊎ ((first_place g ≡ first_place h) × (h.tokens < g.tokens))

-- all groups of the corpus, in order
abbrev pub AreGroups : {T : Type 0} → List (List T) → ℕ → List Group → Type 0
AreGroups corpus least groups = AreAllInOrder ComesBefore (IsGroup corpus least) groups

-- those of them with a place in the file
abbrev pub AreGroupsIn : {T : Type 0} → List (List T) → ℕ → ℕ → List Group → Type 0
AreGroupsIn corpus least file groups =
    AreAllInOrder ComesBefore (λ g. IsGroup corpus least g × Any (λ p. p.file ≡ file) g.places) groups

-- those of them whose word begins with this one
abbrev pub AreGroupsFrom : {T : Type 0} → List (List T) → ℕ → (List T → Type 0) → ℕ → List Group → Type 0
AreGroupsFrom corpus least Begins chunk groups =
    AreAllInOrder ComesBefore (λ g. IsGroup corpus least g × Begins (word_at corpus (first_place g) chunk)) groups

-- What the definition of groups means for a reader of a listing.
use Rattle.std.specs.Prelude.{◌≡◌, ◌⊎◌, ℕ, ◌+◌, ◌<◌, ◌≤◌, List, length, Contains}
use Rattle.cq_base.specs.declared.norm.Norm.{Norm}
use Rattle.cq_base.specs.declared.group.Place.{Place}
use Rattle.cq_base.specs.declared.group.Group.{Group}
use Rattle.cq_clones.specs.Groups.{file_at, word_at, IsMaximalAt, AreGroups}
use Rattle.cq_base.specs.Places.{first_place}

-- two lists of groups of one corpus are the same list
abbrev pub HasOneList : Type 0
HasOneList = (corpus : List (List Norm)) (least : ℕ) (xs ys : List Group) → AreGroups corpus least xs → AreGroups corpus least ys → xs ≡ ys

-- the `n` tokens from `k` on reach over the place
abbrev pub Covers : ℕ → Place → Place → Type 0
Covers n k p = (k.file ≡ p.file) × (k.at ≤ p.at) × (p.at < k.at + n)

-- the place lies in one of the group's
abbrev pub LiesIn : Group → Place → Type 0
LiesIn g p = (k : Place) × Contains g.places k × Covers g.tokens k p

-- words of `n` tokens at the two places have no token in common
abbrev pub AreApart : ℕ → Place → Place → Type 0
AreApart n p q = (p.file ≡ q.file) → (p.at + n ≤ q.at) ⊎ (q.at + n ≤ p.at)

-- Every match is listed: if a word of at least the least length is maximal at two places that do not overlap, some
-- group of that word has both places in it.
abbrev pub ListsEveryMatch : Type 0
ListsEveryMatch = (corpus : List (List Norm)) (least : ℕ) (groups : List Group) → 1 ≤ least → AreGroups corpus least groups → (word : List Norm) (p q : Place) → IsMaximalAt corpus word p q → least ≤ length word → AreApart (length word) p q →
    (g : Group) × Contains groups g × (word_at corpus (first_place g) g.tokens ≡ word) × LiesIn g p × LiesIn g q

-- Nothing else is listed: at each listed place the file has the number of tokens that the group says, and they are
-- the group's.
abbrev pub ShowsItsTokens : Type 0
ShowsItsTokens = (corpus : List (List Norm)) (least : ℕ) (groups : List Group) → 1 ≤ least → AreGroups corpus least groups → (g : Group) (p : Place) → Contains groups g → Contains g.places p →
    (p.at + g.tokens ≤ length (file_at corpus p.file)) × (word_at corpus p g.tokens ≡ word_at corpus (first_place g) g.tokens)

-- Sets of places that share their first tokens.
use Rattle.std.specs.Prelude.{◌≡◌, Bool, ◌≢◌, ◌⊎◌, ◌↔◌, ℕ, ◌+◌, ◌*◌, ◌-◌, ◌^◌, ◌<◌, ◌≤◌, List, slice_get, slice_index_or, Some, IsSome, ◌∷◌, [], ◌++◌, length, Option, option_map, All, AllPairs, Contains, Any, sum_by, map, filter, ◌==◌, nat_le}
use Rattle.std.specs.BTreeMap.{BTreeMap, get, btree_map_len}
use Rattle.cq_base.specs.declared.norm.Norm.{Norm}
use Rattle.cq_tokens.specs.declared.seen.Seen.{Seen}
use Rattle.cq_tokens.specs.Packed.{norm_in, seen_cmp}
use Rattle.cq_base.specs.declared.group.Place.{Place}
use Rattle.cq_base.specs.declared.group.Group.{Group}
use Rattle.cq_clones.specs.Lists.{AreAllInOrder}
use Rattle.cq_clones.specs.Groups.{IsPlace, IsBefore, StandsAt, word_at, token_ahead, token_before, token_behind, file_at, AreSame, IsGroup, is_free, kept_after, kept_of}
use Rattle.cq_base.specs.Places.{first_place}
use Rattle.cq_groups.specs.declared.differing.Difference.{Difference}
use Rattle.cq_groups.specs.declared.spots.Spot.{Spot}
use Rattle.cq_groups.specs.declared.spots.Row.{Row}
use Rattle.cq_groups.specs.declared.spots.MarkedRow.{MarkedRow}
use Rattle.cq_groups.specs.declared.spots.Set.{Set}
use Rattle.cq_groups.specs.Rows.{further, row_spots, all_of, IsRow, AreRows}

-- the spots of a set, in order
abbrev pub set_spots : Set → List Spot
set_spots s = all_of s.rows.items

-- a row of these spots, within a word of `depth` tokens
pub record IsRowOf (depth : ℕ) (spots : List Spot) (r : Row) : Type 0 where
  pub spots_are : row_spots r ≡ spots
  pub row : IsRow depth r

-- the spots of the row are added in rows of which each goes on by one token of a word
abbrev pub AddsRow : Row → List Row → List Row → Type 0
AddsRow r old new = (all_of new ≡ all_of old ++ row_spots r) × ((depth : ℕ) → IsRow depth r → AreRows depth old → AreRows depth new)

-- a spot with the mark of the token after its word
pub record Marked : Type 0 where
  pub spot : Spot
  pub mark : ℕ

-- spots with one mark
abbrev pub all_marked : ℕ → List Spot → List Marked
all_marked m spots = map (λ (s : Spot). let x : Marked = record { spot = s; mark = m } in x) spots

-- the spots of rows, each with the mark of its row
abbrev pub spread : List MarkedRow → List Marked
spread [] = []
spread (x ∷ xs) = all_marked x.mark (row_spots x.row) ++ spread xs

-- the mark of a token among different ones: its position there from 1 on, and 0 for no token
pub record IsMark {T : Type 0} (seen : List T) (token : Option T) (mark : ℕ) : Type 0 where
  pub within : mark ≤ length seen
  pub names : token_ahead seen mark ≡ token

abbrev pub AreMarksOf : {T Q : Type 0} → (Q → T) → (Q → Option ℕ) → List T → Type 0
AreMarksOf token marks seen = (q : _) (mark : ℕ) → (marks q ≡ Some mark) ↔ ((0 < mark) × (slice_get seen (mark - 1) ≡ Some (token q)))

-- each token of the list has its position there, from 1 on, as its mark, and no other token has a mark
pub record AreMarks (marks : BTreeMap Seen ℕ) (seen : List Norm) : Type 0 where
  pub size : btree_map_len marks ≡ length seen
  pub apart : AllPairs (λ a b. a ≢ b) seen
  pub each : AreMarksOf norm_in (get seen_cmp marks) seen

-- the new list is the old one with more elements after it
pub record Grows {T : Type 0} (old new : List T) : Type 0 where
  pub more : List T
  pub is : new ≡ old ++ more

-- the mark is that of the token, which is among those seen before or is after them now
pub record IsMarked (seen : List Norm) (marks : BTreeMap Seen ℕ) (token : Option Norm) (mark : ℕ) : Type 0 where
  pub tokens : List Norm
  pub grows : Grows seen tokens
  pub are : AreMarks marks tokens
  pub is : IsMark tokens token mark

abbrev pub IsSpotBefore : Spot → Spot → Type 0
IsSpotBefore s t = IsBefore s.place t.place

-- the marks of the spots are those of the tokens before them
pub record AreSpots {T : Type 0} (corpus : List (List T)) (spots : List Spot) : Type 0 where
  pub seen : List T
  pub apart : AllPairs (λ a b. a ≢ b) seen
  pub marks : (s : Spot) → Contains spots s → IsMark seen (token_before corpus s.place) s.left
  pub places : (s : Spot) → Contains spots s → IsPlace corpus s.place

-- the set has exactly the spots at which one word stands
pub record IsWordSet {T : Type 0} (corpus : List (List T)) (all : List Spot) (depth : ℕ) (spots : List Spot) : Type 0 where
  pub word : List T
  pub long : length word ≡ depth
  pub several : 2 ≤ length spots
  pub exact : AreAllInOrder IsSpotBefore (λ s. Contains all s × StandsAt corpus word s.place) spots

-- no word of more than `longest` tokens stands at two different places
abbrev pub IsLongest : {T : Type 0} → List (List T) → ℕ → Type 0
IsLongest {T} corpus longest = (p q : Place) (n : ℕ) → p ≢ q → p.at + n ≤ length (file_at corpus p.file) → q.at + n ≤ length (file_at corpus q.file) → word_at corpus p n ≡ word_at corpus q n → n ≤ longest

-- from one count of steps to another, a token was read at most as often as so many places have tokens of a repeated word,
-- and twice more each
abbrev pub ReadsAtMost : {T : Type 0} → List (List T) → ℕ → ℕ → ℕ → Type 0
ReadsAtMost corpus places old new = (longest : ℕ) → IsLongest corpus longest → new ≤ old + places * (longest + 2)

-- the marks are those of the tokens `n` after the spots
pub record AreMarked {T : Type 0} (corpus : List (List T)) (n : ℕ) (marked : List Marked) : Type 0 where
  pub seen : List T
  pub apart : AllPairs (λ a b. a ≢ b) seen
  pub marks : (x : Marked) → Contains marked x → IsMark seen (token_behind corpus x.spot.place n) x.mark

-- the marks are those of the tokens `n` after the first spots of the rows
pub record AreRowsMarked {T : Type 0} (corpus : List (List T)) (n : ℕ) (marked : List MarkedRow) : Type 0 where
  pub seen : List T
  pub apart : AllPairs (λ a b. a ≢ b) seen
  pub marks : (x : MarkedRow) → Contains marked x → IsMark seen (token_behind corpus x.row.first.place n) x.mark

-- all have one token
abbrev pub AreOne : {X T : Type 0} → (X → Option T) → List X → Type 0
AreOne {X} {T} token xs = (t : T) × All (λ x. token x ≡ Some t) xs

-- the first ones were read, up to one that hasn't the token of the first, or where that has none
pub record IsDifference {X : Type 0} (token : X → Option Norm) (xs : List X) (d : Difference) : Type 0 where
  pub several : 2 ≤ d.read
  pub within : d.read ≤ length xs
  pub same : (k : ℕ) (x : X) → k + 1 < d.read → token (slice_index_or xs k x) ≡ option_map norm_in d.first
  pub end : (x : X) → token (slice_index_or xs (d.read - 1) x) ≡ option_map norm_in d.last
  pub differ : ¬ AreSame (option_map norm_in d.first) (option_map norm_in d.last)

-- the tokens that were read `n` after places are no further from their file's first than a number of 32 bits says
abbrev pub IsInNumbers : ℕ → Difference → Type 0
IsInNumbers n d = (IsSome (option_map norm_in d.first) → n + 1 < 2 ^ 32) × (IsSome (option_map norm_in d.last) → n + 1 < 2 ^ 32)

-- whether a spot of the row, so many after its first one, is free of a word at the last kept place
abbrev pub IsFreeAt : ℕ → Option Place → Row → ℕ → Bool → Type 0
IsFreeAt tokens last r k free = is_free tokens last (further r.first.place (k * r.gap)) ≡ free

-- the kept places of the row come after those before it, whatever places follow
abbrev pub KeepsRow : ℕ → Row → Option Place → Option Place → List Place → List Place → Type 0
KeepsRow tokens r last latest old new = (rest : List Place) → new ++ kept_after tokens latest rest ≡ old ++ kept_after tokens last (map (λ s. s.place) (row_spots r) ++ rest)

-- the spots have the same first tokens, `n` of them
abbrev pub AreAlike : {T : Type 0} → List (List T) → ℕ → List Spot → Type 0
AreAlike corpus n spots = (s t : Spot) (k : ℕ) → Contains spots s → Contains spots t → k < n → token_behind corpus s.place k ≡ token_behind corpus t.place k

-- the marks of two tokens, of which one isn't there, or which differ
pub record AreTwoMarks {T : Type 0} (a b : Option T) (m n : ℕ) : Type 0 where
  pub seen : List T
  pub apart : AllPairs (λ x y. x ≢ y) seen
  pub first : IsMark seen a m
  pub second : IsMark seen b n

-- each spot of the row has this mark
abbrev pub HasLeft : ℕ → Row → Type 0
HasLeft left r = (r.first.left ≡ left) × (0 < r.others → r.left ≡ left)

-- the tokens before the spots are there and equal: no group has two of them that show it maximal
abbrev pub HaveOneLeft : List Spot → Type 0
HaveOneLeft spots = (n : ℕ) × (0 < n) × All (λ s. s.left ≡ n) spots

-- the spots, two or more, may give groups
abbrev pub MayGive : List Spot → Type 0
MayGive spots = (2 ≤ length spots) × (HaveOneLeft spots → ⊥)

-- places of a corpus in order, with each place at which the first `least` tokens of one of them stand
pub record AreEntries {T : Type 0} (corpus : List (List T)) (least : ℕ) (places : List Place) : Type 0 where
  pub ordered : AllPairs IsBefore places
  pub inside : All (IsPlace corpus) places
  pub closed : (p q : Place) → Contains places p → p.at + least ≤ length (file_at corpus p.file) → StandsAt corpus (word_at corpus p least) q → Contains places q

-- the groups of the corpus whose word stands at one of the places
abbrev pub IsGroupFrom : {T : Type 0} → List (List T) → ℕ → List Place → Group → Type 0
IsGroupFrom corpus least places group = IsGroup corpus least group × Contains places (first_place group)

-- the spots with one mark
abbrev pub part_of : ℕ → List Marked → List Spot
part_of mark marked = map (λ x. x.spot) (filter (λ x. x.mark == mark) marked)

-- the rows with one mark
abbrev pub rows_of : ℕ → List MarkedRow → List Row
rows_of mark marked = map (λ x. x.row) (filter (λ x. x.mark == mark) marked)

-- the rows of each mark from 1 to the highest
pub record AreByMark (highest : ℕ) (marked : List MarkedRow) (parts : List (List Row)) : Type 0 where
  pub number : length parts ≡ highest
  pub each : (m : ℕ) (d : List Row) → m < highest → slice_index_or parts m d ≡ rows_of (m + 1) marked

-- the spots of one mark, which may give groups
pub record IsPart (depth : ℕ) (marked : List Marked) (highest : ℕ) (s : Set) : Type 0 where
  pub mark : ℕ
  pub some : 0 < mark
  pub low : mark ≤ highest
  pub deeper : s.depth ≡ depth
  pub gives : MayGive (set_spots s)
  pub is : set_spots s ≡ part_of mark marked

-- the spots of two different marks
pub record ArePartsOf (marked : List Marked) (s t : Set) : Type 0 where
  pub mark : ℕ
  pub other : ℕ
  pub some : 0 < mark
  pub differ : mark < other
  pub is : set_spots s ≡ part_of mark marked
  pub other_is : set_spots t ≡ part_of other marked

-- the parts that may give groups
pub record AreParts (depth : ℕ) (marked : List Marked) (highest : ℕ) (parts : List Set) : Type 0 where
  pub each : (s : Set) → Contains parts s → IsPart depth marked highest s
  pub apart : AllPairs (ArePartsOf marked) parts
  pub all : (x : Marked) → Contains marked x → 0 < x.mark → x.mark ≤ highest → MayGive (part_of x.mark marked) → Any (λ s. (s.depth ≡ depth) × (set_spots s ≡ part_of x.mark marked)) parts

pub record AddsParts (depth : ℕ) (marked : List Marked) (highest : ℕ) (old new : List Set) : Type 0 where
  pub parts : List Set
  pub is : new ≡ old ++ parts
  pub are : AreParts depth marked highest parts
  pub size : sum_by (λ s. length (set_spots s)) parts ≤ length (filter (λ x. nat_le x.mark highest) marked)

-- the parts of a set, of which those that may give groups come after other sets
pub record IsParted {T : Type 0} (corpus : List (List T)) (set : Set) (rest sets : List Set) : Type 0 where
  pub marked : List Marked
  pub spots : map (λ x. x.spot) marked ≡ set_spots set
  pub marks : AreMarked corpus set.depth marked
  pub highest : ℕ
  pub all : All (λ x. x.mark ≤ highest) marked
  pub parts : AddsParts (set.depth + 1) marked highest rest sets

-- the group of a set's places
abbrev pub group_of : ℕ → List Spot → Group
group_of depth spots = record { tokens = depth; places = kept_of depth (map (λ s. s.place) spots) }

-- the tokens after the spots are there and equal
abbrev pub HaveOneMark : List Marked → Type 0
HaveOneMark marked = (n : ℕ) × (0 < n) × All (λ x. x.mark ≡ n) marked

-- the set's word is long enough, and two of its places are kept
abbrev pub IsLong : ℕ → ℕ → List Spot → Type 0
IsLong least depth spots = (least ≤ depth) × (2 ≤ length (group_of depth spots).places)

-- the set gives a group
pub record IsChosen (least depth : ℕ) (spots : List Spot) (marked : List Marked) : Type 0 where
  pub long : least ≤ depth
  pub left : ¬ HaveOneLeft spots
  pub right : ¬ HaveOneMark marked
  pub several : 2 ≤ length (group_of depth spots).places

-- the group is added, if the set gives one
abbrev pub AddsGroup : (Chosen : Type 0) → Group → List Group → List Group → Type 0
AddsGroup Chosen group old new = (Chosen × (new ≡ old ++ group ∷ [])) ⊎ ((Chosen → ⊥) × (new ≡ old))

-- a set gave its group and its parts
pub record IsSplit {T : Type 0} (corpus : List (List T)) (least : ℕ) (set : Set) (rest sets : List Set) (old new : List Group) : Type 0 where
  pub marked : List Marked
  pub spots : map (λ x. x.spot) marked ≡ set_spots set
  pub marks : AreMarked corpus set.depth marked
  pub highest : ℕ
  pub all : All (λ x. x.mark ≤ highest) marked
  pub parts : AddsParts (set.depth + 1) marked highest rest sets
  pub group : AddsGroup (IsChosen least set.depth (set_spots set) marked) (group_of set.depth (set_spots set)) old new

-- the one set of all spots, if they may give groups
abbrev pub AreFirst : List Spot → List Set → Type 0
AreFirst spots sets = (MayGive spots × ((s : Set) × (s.depth ≡ 0) × (set_spots s ≡ spots) × (sets ≡ s ∷ []))) ⊎ ((MayGive spots → ⊥) × (sets ≡ []))

-- exactly the groups with a property, each once
abbrev pub AreAllOnce : (Group → Type 0) → List Group → Type 0
AreAllOnce Is groups = AreAllInOrder (λ g h. g ≢ h) Is groups

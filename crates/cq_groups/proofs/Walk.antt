-- The walk over sets of places: what holds between its steps, and that a step keeps it.
use Rattle.std.proofs.Common.{◌≡◌, ◌≢◌, ◌⊎◌, ℕ, zero, suc, ◌+◌, ◌<◌, ◌≤◌, List, [], ◌∷◌, ◌++◌, length, get_or, take, map, Some, IsSome, refl, sym, ap, ap₂, ◌∙◌, subst, inl, inr, ⊎_elim, arith, eqb, eq-eqb, eqb-true}
use Rattle.std.specs.Prelude.{All, AllPairs, Contains, Any, filter}
use Rattle.std.proofs.lemmas.Bool.{cases_lt}
use Rattle.std.proofs.lemmas.List.{length-map, take_more, length-take-le}
use Rattle.std.proofs.lemmas.List.Elements.{All-map, All-contains, Contains-get_or, Contains-append_left, Contains-append_right, Contains-append_cases, Contains-push, Contains-push_cases}
use Rattle.std.proofs.lemmas.List.Quantifiers.{all_pairs_push}
use Rattle.std.proofs.lemmas.Option.{slice_get_cases}
use Rattle.cq_base.specs.declared.group.Place.{Place}
use Rattle.cq_base.specs.declared.group.Group.{Group}
use Rattle.cq_clones.specs.Groups.{IsBefore, word_at, StandsAt, token_behind, token_ahead, token_before, AreSame, kept_of, IsGroup}
use Rattle.cq_base.specs.Places.{first_place}
use Rattle.cq_base.proofs.Lists.{Contains-here, Contains-cases, Contains-nil, Contains-map, Contains-from_map, Contains-filter, Contains-from_filter, AllPairs-head, AllPairs-tail, AllPairs-append, AllPairs-from_map, AllPairs-front}
use Rattle.cq_clones.proofs.GroupLaws.{within_from_standing, word_of_group}
use Rattle.cq_groups.specs.declared.spots.Spot.{Spot}
use Rattle.cq_groups.specs.declared.spots.Set.{Set}
use Rattle.cq_groups.specs.Sets.{set_spots, Marked, IsMark, AreOne, AreSpots, AreMarked, IsWordSet, AreEntries, IsGroupFrom, part_of, IsPart, ArePartsOf, AreParts, group_of, MayGive, IsChosen, IsSplit, AreFirst, AreAllOnce}
use Rattle.cq_groups.proofs.Marking.{marks_of_token}
use Rattle.cq_groups.proofs.SetGroups.{set_occurrences, set_is_maximal, IsGroupAt, places_of_set, differ_before, none_by_left, none_by_mark}
use Rattle.cq_groups.proofs.WordSets.{part_is_word_set}
use Rattle.cq_groups.proofs.Words.{stands_less, stands_front}

-- lists in pairs

pub AllPairs-last : {X : Type 0} (R : X → X → Type 0) (xs : List X) (y x : X) → AllPairs R (xs ++ y ∷ []) → Contains xs x → R x y
AllPairs-last R [] y x a c = absurd (Contains-nil x c)
AllPairs-last {X} R (z ∷ xs) y x a c =
    ⊎_elim
    (λ e. subst (λ (w : X). R w y) e (AllPairs-head R z y (xs ++ y ∷ []) a (Contains-append_right xs (y ∷ []) y (Contains-here y []))))
    (λ h. AllPairs-last R xs y x (AllPairs-tail R z (xs ++ y ∷ []) a) h)
    (Contains-cases z x xs c)

-- two different elements
pub two_in : {X : Type 0} (xs : List X) (x y : X) → Contains xs x → Contains xs y → x ≢ y → 2 ≤ length xs
two_in [] x y c e differ = absurd (Contains-nil x c)
two_in (z ∷ []) x y c e differ =
    ⊎_elim
    (λ a. ⊎_elim (λ b. absurd (differ (sym a ∙ b))) (λ n. absurd (Contains-nil y n)) (Contains-cases z y [] e))
    (λ n. absurd (Contains-nil x n))
    (Contains-cases z x [] c)
two_in (z ∷ w ∷ rest) x y c e differ = omega arith

pub any_of : {X : Type 0} (P : X → Type 0) (xs : List X) (x : X) → Contains xs x → P x → Any P xs
any_of P xs x (k, within, at) h = (k, x, within, at, h)

-- the state of the walk

abbrev pub places_of : Set → List Place
places_of s = map (λ s. s.place) (set_spots s)

abbrev pub AreApart : Set → Set → Type 0
AreApart s t = (p : Place) → Contains (places_of s) p → Contains (places_of t) p → ⊥

-- the set can still give the group: it is a group of its places, and no shorter
pub record Covers (s : Set) (g : Group) : Type 0 where
  pub long : s.depth ≤ g.tokens
  pub here : Contains (places_of s) (first_place g)

-- The sets are those of different words, apart. Each group was found or can still be given by a set,
-- and none of the found ones can.
pub record Walk {T : Type 0} (corpus : List (List T)) (least : ℕ) (places : List Place) (all : List Spot) (sets : List Set) (groups : List Group) : Type 0 where
  pub words : (s : Set) → Contains sets s → IsWordSet corpus all s.depth (set_spots s)
  pub gives : (s : Set) → Contains sets s → MayGive (set_spots s)
  pub apart : AllPairs AreApart sets
  pub sound : (g : Group) → Contains groups g → IsGroupFrom corpus least places g
  pub complete : (g : Group) → IsGroupFrom corpus least places g → Contains groups g ⊎ Any (λ s. Covers s g) sets
  pub fresh : (g : Group) (s : Set) → Contains groups g → Contains sets s → Contains (places_of s) (first_place g) → g.tokens < s.depth
  pub different : AllPairs (λ g h. g ≢ h) groups

-- parts

-- the token of a mark of some spots
pub token_of_part : {T : Type 0} (corpus : List (List T)) (d m : ℕ) (marked : List Marked) (are : AreMarked corpus d marked) → 0 < m → 2 ≤ length (part_of m marked) → (t : T) × IsMark are.seen (Some t) m
token_of_part {T} corpus d m marked are some several =
    let origin : Spot = record { place = record { file = 0; at = 0 }; left = 0 } in
    let c : Contains (part_of m marked) (get_or (part_of m marked) 0 origin) = Contains-get_or (part_of m marked) 0 origin (omega (arith, several)) in
    let r = Contains-from_map (λ (x : Marked). x.spot) (filter (λ x. eqb x.mark m) marked) _ c in
    let f = Contains-from_filter (λ (x : Marked). eqb x.mark m) marked r.0 r.1 in
    let mark_is : r.0.mark ≡ m = eqb-true r.0.mark m f.1 in
    let is = are.marks r.0 f.0 in
    named are.seen m some (omega (arith, is.within, mark_is))
  where
    named : {T : Type 0} (seen : List T) (m : ℕ) → 0 < m → m ≤ length seen → (t : T) × IsMark seen (Some t) m
    named seen zero some within = absurd (omega arith)
    named seen (suc i) some within =
        ⊎_elim
        (λ (x, lt, here, read). (x, record { within = within; names = here }))
        (λ (past, none). absurd (omega (arith, past, within)))
        (slice_get_cases seen i).1

-- its places are places of the set
pub part_within : (m : ℕ) (marked : List Marked) (spots : List Spot) (p : Place) → map (λ x. x.spot) marked ≡ spots → Contains (map (λ s. s.place) (part_of m marked)) p → (x : Marked) × Contains marked x × (x.mark ≡ m) × (x.spot.place ≡ p) × Contains (map (λ s. s.place) spots) p
part_within m marked spots p are c =
    let r = Contains-from_map (λ (s : Spot). s.place) (part_of m marked) p c in
    let t = Contains-from_map (λ (x : Marked). x.spot) (filter (λ x. eqb x.mark m) marked) r.0 r.1 in
    let f = Contains-from_filter (λ (x : Marked). eqb x.mark m) marked t.0 t.1 in
    let place : t.0.spot.place ≡ p = ap (λ (s : Spot). s.place) t.2 ∙ r.2 in
    let in_spots : Contains spots t.0.spot = subst (λ (ss : List Spot). Contains ss t.0.spot) are (Contains-map (λ (x : Marked). x.spot) marked t.0 f.0) in
    (t.0, f.0, eqb-true t.0.mark m f.1, place, subst (Contains (map (λ (s : Spot). s.place) spots)) place (Contains-map (λ (s : Spot). s.place) spots t.0.spot in_spots))

-- parts of different marks are apart
pub parts_apart : {T : Type 0} (corpus : List (List T)) (d : ℕ) (marked : List Marked) (spots : List Spot) (s t : Set) → map (λ x. x.spot) marked ≡ spots → AreMarked corpus d marked → 2 ≤ length (set_spots s) → ArePartsOf marked s t → AreApart s t
parts_apart {T} corpus d marked spots s t spots_are are several parts p c e =
    let a = part_within parts.mark marked spots p spots_are (subst (λ (ss : List Spot). Contains (map (λ s. s.place) ss) p) parts.is c) in
    let b = part_within parts.other marked spots p spots_are (subst (λ (ss : List Spot). Contains (map (λ s. s.place) ss) p) parts.other_is e) in
    let (t, is) = token_of_part corpus d parts.mark marked are parts.some (omega (arith, several, ap length parts.is)) in
    let a_mark = are.marks a.0 a.1 in
    let b_mark = are.marks b.0 b.1 in
    let a_token : token_behind corpus a.0.spot.place d ≡ Some t = sym a_mark.names ∙ ap (token_ahead are.seen) a.2 ∙ is.names in
    let b_token : token_behind corpus b.0.spot.place d ≡ Some t = ap (λ q. token_behind corpus q d) (b.3 ∙ sym a.3) ∙ a_token in
    let same = marks_of_token are.seen t a.0.mark b.0.mark are.apart
    (subst (λ o. IsMark are.seen o a.0.mark) a_token a_mark) (subst (λ o. IsMark are.seen o b.0.mark) b_token b_mark) in
    omega (arith, same.0, a.2, b.2, parts.differ)

-- a spot of the set at which the longer word stands is in the part
pub in_part : {T : Type 0} (corpus : List (List T)) (all spots : List Spot) (d m : ℕ) (marked : List Marked) (t : T) (s : Spot) → (set : IsWordSet corpus all d spots) → map (λ x. x.spot) marked ≡ spots → (are : AreMarked corpus d marked) → IsMark are.seen (Some t) m → Contains all s → StandsAt corpus (set.word ++ t ∷ []) s.place → Contains (part_of m marked) s
in_part {T} corpus all spots d m marked t s set spots_are are is_mark c stands =
    let less = stands_less corpus set.word t s.place stands in
    let in_spots : Contains spots s = (set.exact.each s).1 (c, less.0) in
    let r = Contains-from_map (λ (x : Marked). x.spot) marked s (subst (λ (ss : List Spot). Contains ss s) (sym spots_are) in_spots) in
    let token : token_behind corpus r.0.spot.place d ≡ Some t =
    ap (λ (z : Spot). token_behind corpus z.place d) r.2 ∙ ap (token_behind corpus s.place) (sym set.long) ∙ less.1 in
    let mark : r.0.mark ≡ m = (marks_of_token are.seen t r.0.mark m are.apart (subst (λ o. IsMark are.seen o r.0.mark) token (are.marks r.0 r.1)) is_mark).0 in
    subst (Contains (part_of m marked)) r.2
    (Contains-map (λ (x : Marked). x.spot) (filter (λ x. eqb x.mark m) marked) r.0 (Contains-filter (λ (x : Marked). eqb x.mark m) marked r.0 r.1 (eq-eqb r.0.mark m mark)))

-- the group of a set

pub made_group : {T : Type 0} (corpus : List (List T)) (least : ℕ) (places : List Place) (all : List Spot) (d : ℕ) (spots : List Spot) (ms : List Marked) → AreEntries corpus least places → map (λ s. s.place) all ≡ places → AreSpots corpus all → 1 ≤ least → (set : IsWordSet corpus all d spots) → map (λ x. x.spot) ms ≡ spots → AreMarked corpus d ms → IsChosen least d spots ms → IsGroup corpus least (group_of d spots)
made_group corpus least places all d spots [] entries are all_are some set spots_are marked chosen = absurd (omega (arith, ap length spots_are, set.several))
made_group {T} corpus least places all d spots (o ∷ rest) entries are all_are some set spots_are marked chosen = record {
  word = set.word;
  all = map (λ s. s.place) spots;
  tokens = set.long;
  long = chosen.long;
  repeated = set_is_maximal corpus all spots d (o ∷ rest) o rest all_are set spots_are marked refl
      (λ h. chosen.left (o.spot.left, h.0, subst (All (λ (s : Spot). s.left ≡ o.spot.left)) spots_are (All-map (λ (s : Spot). s.left ≡ o.spot.left) (λ (x : Marked). x.spot) (o ∷ rest) h.1)))
      (λ h. chosen.right (o.mark, h.0, h.1));
  occurrences = set_occurrences corpus least places all spots d entries are set some chosen.long;
  places = refl;
  several = chosen.several;
}

first_kept : (n : ℕ) (ps : List Place) (origin : Place) → 0 < length (kept_of n ps) → Contains ps (get_or (kept_of n ps) 0 origin)
first_kept n [] origin some = absurd (omega arith)
first_kept n (p ∷ rest) origin some = Contains-here p rest

-- its first place is in the set
pub made_first : (d : ℕ) (spots : List Spot) → 2 ≤ length (group_of d spots).places → Contains (map (λ s. s.place) spots) (first_place (group_of d spots))
made_first d spots several = first_kept d (map (λ (s : Spot). s.place) spots) (record { file = 0; at = 0 }) (omega (arith, several))

-- a step

-- what a step of the walk is given
pub record Given {T : Type 0} (corpus : List (List T)) (least : ℕ) (places : List Place) (all : List Spot) : Type 0 where
  pub entries : AreEntries corpus least places
  pub are : map (λ s. s.place) all ≡ places
  pub spots : AreSpots corpus all
  pub some : 1 ≤ least

-- the spot of a place of the list
spot_of : (places : List Place) (all : List Spot) (p : Place) → map (λ s. s.place) all ≡ places → Contains places p → (s : Spot) × Contains all s × (s.place ≡ p)
spot_of places all p are c = Contains-from_map (λ (s : Spot). s.place) all p (subst (λ (ps : List Place). Contains ps p) (sym are) c)

-- each place at which a group's word stands is in the list, where one is
place_of_group : {T : Type 0} (corpus : List (List T)) (least : ℕ) (places : List Place) (g : Group) (p : Place) → AreEntries corpus least places → 1 ≤ least → (is : IsGroup corpus least g) → Contains places (first_place g) → StandsAt corpus is.word p → Contains places p
place_of_group corpus least places g p entries some is first stands =
    let f = first_place g in
    let f_stands : StandsAt corpus is.word f = ap (word_at corpus f) is.tokens ∙ word_of_group corpus least g is in
    let f_within = within_from_standing corpus is.word f f_stands (omega (arith, is.tokens, is.long)) in
    let f_front : word_at corpus f least ≡ take least is.word = stands_front corpus is.word least f (omega (arith, is.tokens, is.long)) f_stands in
    let p_front : word_at corpus p least ≡ take least is.word = stands_front corpus is.word least p (omega (arith, is.tokens, is.long)) stands in
    let size : length (word_at corpus f least) ≡ least = ap length f_front ∙ length-take-le least is.word (omega (arith, is.tokens, is.long)) in
    entries.closed f p first (omega (arith, f_within, is.tokens, is.long)) (ap (word_at corpus p) size ∙ p_front ∙ sym f_front)

-- the set's first place, of a group that it covers, has its word
front_of_group : {T : Type 0} (corpus : List (List T)) (least d : ℕ) (all spots : List Spot) (g : Group) → (set : IsWordSet corpus all d spots) → (is : IsGroup corpus least g) → d ≤ g.tokens → Contains (map (λ s. s.place) spots) (first_place g) → set.word ≡ take d is.word
front_of_group {T} corpus least d all spots g set is long here =
    let f = first_place g in
    let r = Contains-from_map (λ (s : Spot). s.place) spots f here in
    let set_stands : StandsAt corpus set.word f = subst (StandsAt corpus set.word) r.2 ((set.exact.each r.0).0 r.1).1 in
    let f_stands : StandsAt corpus is.word f = ap (word_at corpus f) is.tokens ∙ word_of_group corpus least g is in
    sym set_stands ∙ ap (word_at corpus f) set.long ∙ stands_front corpus is.word d f (omega (arith, is.tokens, long)) f_stands

-- a longer group of the set is one of a part
deeper : {T : Type 0} (corpus : List (List T)) (least : ℕ) (places : List Place) (all : List Spot) (set : Set) (marked : List Marked) (highest : ℕ) (parts : List Set) (g : Group) → Given corpus least places all → (words : IsWordSet corpus all set.depth (set_spots set)) → map (λ x. x.spot) marked ≡ (set_spots set) → AreMarked corpus set.depth marked → All (λ x. x.mark ≤ highest) marked → AreParts (set.depth + 1) marked highest parts → IsGroupFrom corpus least places g → set.depth < g.tokens → Contains (places_of set) (first_place g) → Any (λ s. Covers s g) parts
deeper {T} corpus least places all set marked highest parts g given words spots_are marks low are (is, first) lt here =
    let d = set.depth in
    let w = is.word in
    let front : words.word ≡ take d w = front_of_group corpus least d all (set_spots set) g words is (omega (arith, lt)) here in
    ⊎_elim
    (λ (t, inside, _, read).
    let e : take (d + 1) w ≡ words.word ++ t ∷ [] = take_more w d t inside ∙ ap₂ (λ u v. u ++ v ∷ []) (sym front) read in
    found t e inside)
    (λ (past, none). absurd (omega (arith, is.tokens, past, lt)))
    (slice_get_cases w d).1
  where
    found : (t : T) → take (set.depth + 1) is.word ≡ words.word ++ t ∷ [] → set.depth < length is.word → Any (λ s. Covers s g) parts
    found t e inside =
        let d = set.depth in
        let longer : (p : Place) → StandsAt corpus is.word p → StandsAt corpus (words.word ++ t ∷ []) p =
        λ p stands.
        let size : length (take (d + 1) is.word) ≡ d + 1 = length-take-le (d + 1) is.word (omega (arith, inside)) in
        subst (λ v. StandsAt corpus v p) e (ap (word_at corpus p) size ∙ stands_front corpus is.word (d + 1) p (omega (arith, inside)) stands) in
        let f = first_place g in
        let f_stands : StandsAt corpus is.word f = ap (word_at corpus f) is.tokens ∙ word_of_group corpus least g is in
        let s = spot_of places all f given.are first in
        let s_longer : StandsAt corpus (words.word ++ t ∷ []) s.0.place = subst (StandsAt corpus (words.word ++ t ∷ [])) (sym s.2) (longer f f_stands) in
        let less = stands_less corpus words.word t s.0.place s_longer in
        let s_in : Contains (set_spots set) s.0 = (words.exact.each s.0).1 (s.1, less.0) in
        let x = Contains-from_map (λ (z : Marked). z.spot) marked s.0 (subst (λ (ss : List Spot). Contains ss s.0) (sym spots_are) s_in) in
        let token : token_behind corpus x.0.spot.place d ≡ Some t =
        ap (λ (z : Spot). token_behind corpus z.place d) x.2 ∙ ap (token_behind corpus s.0.place) (sym words.long) ∙ less.1 in
        let mark : IsMark marks.seen (Some t) x.0.mark = subst (λ o. IsMark marks.seen o x.0.mark) token (marks.marks x.0 x.1) in
        let part : (p : Place) → StandsAt corpus is.word p → (z : Spot) × Contains (part_of x.0.mark marked) z × (z.place ≡ p) × Contains all z =
        λ p stands.
        let z = spot_of places all p given.are (place_of_group corpus least places g p given.entries given.some is first stands) in
        (z.0, in_part corpus all (set_spots set) d x.0.mark marked t z.0 words spots_are marks mark z.1 (subst (StandsAt corpus (words.word ++ t ∷ [])) (sym z.2) (longer p stands)), z.2, z.1) in
        let (p, q, pair) = is.repeated in
        let a = part p pair.first in
        let b = part q pair.second in
        let differ : a.0 ≢ b.0 = λ same. pair.different (sym a.2 ∙ ap (λ (z : Spot). z.place) same ∙ b.2) in
        let apart : AreSame (token_before corpus a.0.place) (token_before corpus b.0.place) → ⊥ = λ same. pair.left (subst (λ w. AreSame (token_before corpus w) (token_before corpus q)) a.2 (subst (λ w. AreSame (token_before corpus a.0.place) (token_before corpus w)) b.2 same)) in
        let several : 2 ≤ length (part_of x.0.mark marked) = two_in (part_of x.0.mark marked) a.0 b.0 a.1 b.1 differ in
        let some : 0 < x.0.mark = (marks_of_token marks.seen t x.0.mark x.0.mark marks.apart mark mark).1 in
        let (k, s', within, at, h) = are.all x.0 x.1 some (All-contains (λ (z : Marked). z.mark ≤ highest) marked x.0 low x.1) (several, differ_before corpus all (part_of x.0.mark marked) a.0 b.0 given.spots a.3 b.3 a.1 b.1 apart) in
        let here' = part f f_stands in (
          k,
          s',
          within,
          at,
          record {
            long = omega (arith, h.0, inside, is.tokens);
            here = subst (λ (ss : List Spot). Contains (map (λ z. z.place) ss) f) (sym h.1)
                (subst (Contains (map (λ (z : Spot). z.place) (part_of x.0.mark marked))) here'.2 (Contains-map (λ (z : Spot). z.place) (part_of x.0.mark marked) here'.0 here'.1));
          },
        )

-- a group of the set's own length is the set's
own_group : {T : Type 0} (corpus : List (List T)) (least : ℕ) (places : List Place) (all : List Spot) (set : Set) (marked : List Marked) (g : Group) → Given corpus least places all → (words : IsWordSet corpus all set.depth (set_spots set)) → map (λ x. x.spot) marked ≡ (set_spots set) → AreMarked corpus set.depth marked → IsGroup corpus least g → g.tokens ≡ set.depth → Contains (places_of set) (first_place g) → IsChosen least set.depth (set_spots set) marked × (group_of set.depth (set_spots set) ≡ g)
own_group {T} corpus least places all set marked g given words spots_are marks is tokens here =
    let d = set.depth in
    let at : IsGroupAt corpus least d (set_spots set) g = record { is = is; tokens = tokens; first = here } in
    let long : least ≤ d = omega (arith, is.long, tokens) in
    let places_are = places_of_set corpus least d places all (set_spots set) g given.entries given.are words given.some long at in (
      record {
        long = long;
        left = λ (n, positive, one). none_by_left corpus least d n places all (set_spots set) g given.entries given.are given.spots words given.some long positive one at;
        right = λ (n, positive, one). none_by_mark corpus least d n places all (set_spots set) marked g given.entries given.are words spots_are marks given.some long positive one at;
        several = omega (arith, ap length places_are, is.several);
      },
      ap₂ (λ (n : ℕ) (ps : List Place). let made : Group = record { tokens = n; places = ps } in made) (sym tokens) (sym places_are),
    )

-- a place of the made group
made_from : {T : Type 0} (corpus : List (List T)) (least : ℕ) (places : List Place) (all : List Spot) (set : Set) (marked : List Marked) → Given corpus least places all → IsWordSet corpus all set.depth (set_spots set) → map (λ x. x.spot) marked ≡ (set_spots set) → AreMarked corpus set.depth marked → IsChosen least set.depth (set_spots set) marked → IsGroupFrom corpus least places (group_of set.depth (set_spots set))
made_from corpus least places all set marked given words spots_are marks chosen =
    let d = set.depth in
    let spots = (set_spots set) in
    let c = made_first d spots chosen.several in
    let r = Contains-from_map (λ (s : Spot). s.place) spots (first_place (group_of d spots)) c in (
      made_group corpus least places all d spots marked given.entries given.are given.spots given.some words spots_are marks chosen,
      subst (λ (ps : List Place). Contains ps (first_place (group_of d spots))) given.are
          (subst (Contains (map (λ (s : Spot). s.place) all)) r.2 (Contains-map (λ (s : Spot). s.place) all r.0 ((words.exact.each r.0).0 r.1).0)),
    )

-- a step keeps the walk
pub walk_step : {T : Type 0} (corpus : List (List T)) (least : ℕ) (places : List Place) (all : List Spot) (sets rest more : List Set) (set : Set) (old new : List Group) → Given corpus least places all → sets ≡ rest ++ set ∷ [] → IsSplit corpus least set rest more old new → Walk corpus least places all sets old → Walk corpus least places all more new
walk_step {T} corpus least places all sets rest more set old new given popped split walk = record {
  words = λ s c. ⊎_elim
      (λ h. walk.words s (in_rest s h))
      (λ h. part_words s (split.parts.are.each s h))
      (in_more s c);
  gives = λ s c. ⊎_elim (λ h. walk.gives s (in_rest s h)) (λ h. (split.parts.are.each s h).gives) (in_more s c);
  apart = subst (AllPairs AreApart) (sym split.parts.is)
      (AllPairs-append AreApart rest split.parts.parts
      (AllPairs-front AreApart rest (set ∷ []) popped_apart)
      (λ i j d lt within.
      let ij = split.parts.are.apart i j d lt within in
      parts_apart corpus set.depth split.marked (set_spots set) _ _ split.spots split.marks (split.parts.are.each _ (Contains-get_or split.parts.parts i d (omega (arith, lt, within)))).gives.0 ij)
      (λ s t c e p in_s in_t. AllPairs-last AreApart rest set s popped_apart c p in_s (part_in t (split.parts.are.each t e) p in_t)));
  sound = λ g c. ⊎_elim
      (λ h. walk.sound g h)
      (λ (chosen, e). subst (IsGroupFrom corpus least places) e (made_from corpus least places all set split.marked given set_words split.spots split.marks chosen))
      (in_new g c);
  complete = λ g is. ⊎_elim
      (λ h. inl (kept g h))
      (λ (k, s, within, at, covers). ⊎_elim
      (λ h. inr (any_of (λ z. Covers z g) more s (rest_more s h) covers))
      (λ e. of_set g is (subst (λ (z : Set). Covers z g) (sym e) covers))
      (Contains-push_cases rest set s (subst (λ ss. Contains ss s) popped (k, within, at))))
      (walk.complete g is);
  fresh = λ g s c e first. ⊎_elim
      (λ g_old. ⊎_elim
      (λ s_rest. walk.fresh g s g_old (in_rest s s_rest) first)
      (λ s_part. let p = split.parts.are.each s s_part in
      let lt = walk.fresh g set g_old set_in (part_in s p (first_place g) first) in omega (arith, lt, p.deeper))
      (in_more s e))
      (λ (chosen, g_is).
      let here = made_first set.depth (set_spots set) chosen.several in
      let tokens : set.depth ≡ g.tokens = ap (λ z. z.tokens) g_is in
      ⊎_elim
      (λ s_rest. absurd (AllPairs-last AreApart rest set s popped_apart s_rest (first_place g) first (subst (λ z. Contains (places_of set) (first_place z)) g_is here)))
      (λ s_part. let p = split.parts.are.each s s_part in omega (arith, p.deeper, tokens))
      (in_more s e))
      (in_new g c);
  different = ⊎_elim
      (λ (chosen, e). subst (AllPairs (λ (g h : Group). g ≢ h)) (sym e)
      (all_pairs_push (λ (g h : Group). g ≢ h) old (group_of set.depth (set_spots set)) walk.different
      (λ k d lt same.
      let here = made_first set.depth (set_spots set) chosen.several in
      let less = walk.fresh (get_or old k d) set (Contains-get_or old k d lt) set_in (subst (λ z. Contains (places_of set) (first_place z)) (sym same) here) in
      let tokens : (get_or old k d).tokens ≡ set.depth = ap (λ z. z.tokens) same in
      omega (arith, less, tokens))))
      (λ (not_chosen, e). subst (AllPairs (λ (g h : Group). g ≢ h)) (sym e) walk.different)
      split.group;
}
  where
    set_in : Contains sets set
    set_in = subst (λ ss. Contains ss set) (sym popped) (Contains-push rest set)

    set_words : IsWordSet corpus all set.depth (set_spots set)
    set_words = walk.words set set_in

    in_rest : (s : Set) → Contains rest s → Contains sets s
    in_rest s h = subst (λ ss. Contains ss s) (sym popped) (Contains-append_left rest (set ∷ []) s h)

    popped_apart : AllPairs AreApart (rest ++ set ∷ [])
    popped_apart = subst (AllPairs AreApart) popped walk.apart

    in_more : (s : Set) → Contains more s → Contains rest s ⊎ Contains split.parts.parts s
    in_more s c = Contains-append_cases rest split.parts.parts s (subst (λ ss. Contains ss s) split.parts.is c)

    rest_more : (s : Set) → Contains rest s → Contains more s
    rest_more s c = subst (λ ss. Contains ss s) (sym split.parts.is) (Contains-append_left rest split.parts.parts s c)

    part_in : (s : Set) → IsPart (set.depth + 1) split.marked split.highest s → (p : Place) → Contains (places_of s) p → Contains (places_of set) p
    part_in s part p c =
        let h = part_within part.mark split.marked (set_spots set) p split.spots (subst (λ (ss : List Spot). Contains (map (λ z. z.place) ss) p) part.is c) in h.4

    part_words : (s : Set) → IsPart (set.depth + 1) split.marked split.highest s → IsWordSet corpus all s.depth (set_spots s)
    part_words s part =
        let several : 2 ≤ length (part_of part.mark split.marked) = omega (arith, part.gives.0, ap length part.is) in
        let (t, is) = token_of_part corpus set.depth part.mark split.marked split.marks part.some several in
        subst (λ n. IsWordSet corpus all n (set_spots s)) (sym part.deeper)
        (subst (IsWordSet corpus all (set.depth + 1)) (sym part.is)
        (part_is_word_set corpus all (set_spots set) set.depth part.mark split.marked t set_words split.spots split.marks is several))

    in_new : (g : Group) → Contains new g → Contains old g ⊎ (IsChosen least set.depth (set_spots set) split.marked × (group_of set.depth (set_spots set) ≡ g))
    in_new g c =
        ⊎_elim
        (λ (chosen, e). ⊎_elim (λ h. inl h) (λ same. inr (chosen, same)) (Contains-push_cases old (group_of set.depth (set_spots set)) g (subst (λ gs. Contains gs g) e c)))
        (λ (not_chosen, e). inl (subst (λ gs. Contains gs g) e c))
        split.group

    kept : (g : Group) → Contains old g → Contains new g
    kept g c =
        ⊎_elim
        (λ (chosen, e). subst (λ gs. Contains gs g) (sym e) (Contains-append_left old (group_of set.depth (set_spots set) ∷ []) g c))
        (λ (not_chosen, e). subst (λ gs. Contains gs g) (sym e) c)
        split.group

    of_set : (g : Group) → IsGroupFrom corpus least places g → Covers set g → Contains new g ⊎ Any (λ s. Covers s g) more
    of_set g is covers =
        ⊎_elim
        (λ lt.
        let (k, s, within, at, h) = deeper corpus least places all set split.marked split.highest split.parts.parts g given set_words split.spots split.marks split.all split.parts.are is lt covers.here in
        inr (any_of (λ z. Covers z g) more s (subst (λ ss. Contains ss s) (sym split.parts.is) (Contains-append_right rest split.parts.parts s (k, within, at))) h))
        (λ ge.
        let own = own_group corpus least places all set split.marked g given set_words split.spots split.marks is.0 (omega (arith, ge, covers.long)) covers.here in
        inl (⊎_elim
        (λ (chosen, e). subst (λ gs. Contains gs g) (sym e) (subst (Contains (old ++ group_of set.depth (set_spots set) ∷ [])) own.1 (Contains-push old (group_of set.depth (set_spots set)))))
        (λ (not_chosen, e). absurd (not_chosen own.0))
        split.group))
        (cases_lt set.depth g.tokens)

-- the beginning

-- a set that is pushed where none was
pub first_alone : (s : Set) (spots : List Spot) (old new : List Set) → new ≡ old ++ s ∷ [] → old ≡ [] → s.depth ≡ 0 → set_spots s ≡ spots → (z : Set) × (z.depth ≡ 0) × (set_spots z ≡ spots) × (new ≡ z ∷ [])
first_alone s spots old new is none depth spots_are = (s, depth, spots_are, is ∙ ap (λ (ss : List Set). ss ++ s ∷ []) none)

pub walk_begins : {T : Type 0} (corpus : List (List T)) (least : ℕ) (places : List Place) (all : List Spot) (sets : List Set) (groups : List Group) → Given corpus least places all → AreFirst all sets → groups ≡ [] → Walk corpus least places all sets groups
walk_begins {T} corpus least places all sets groups given first none = record {
  words = λ s c. ⊎_elim
      (λ (gives, (f, depth, spots, is)). subst (λ (z : Set). IsWordSet corpus all z.depth (set_spots z)) (only f s (subst (λ ss. Contains ss s) is c))
      (subst (λ n. IsWordSet corpus all n (set_spots f)) (sym depth) (subst (IsWordSet corpus all 0) (sym spots) (all_words gives.0))))
      (λ (few, is). absurd (Contains-nil s (subst (λ ss. Contains ss s) is c)))
      first;
  gives = λ s c. ⊎_elim
      (λ (gives, (f, depth, spots, is)). subst (λ (z : Set). MayGive (set_spots z)) (only f s (subst (λ ss. Contains ss s) is c)) (subst MayGive (sym spots) gives))
      (λ (few, is). absurd (Contains-nil s (subst (λ ss. Contains ss s) is c)))
      first;
  apart = λ i j d lt within. ⊎_elim
      (λ (several, (f, depth, spots, is)). absurd (omega (arith, lt, within, ap length is)))
      (λ (few, is). absurd (omega (arith, within, ap length is)))
      first;
  sound = λ g c. absurd (nothing g c);
  complete = λ g (is, here). ⊎_elim
      (λ (several, (f, depth, spots, sets_are)).
      inr (any_of (λ s. Covers s g) sets f (subst (λ ss. Contains ss f) (sym sets_are) (Contains-here f [])) (record {
        long = omega (arith, depth);
        here = subst (λ (ss : List Spot). Contains (map (λ s. s.place) ss) (first_place g)) (sym spots) (subst (λ (ps : List Place). Contains ps (first_place g)) (sym given.are) here);
      })))
      (λ (few, sets_are). absurd (few (two g is here)))
      first;
  fresh = λ g s c e h. absurd (nothing g c);
  different = λ i j d lt within. absurd (omega (arith, within, ap length none));
}
  where
    nothing : (g : Group) → Contains groups g → ⊥
    nothing g c = Contains-nil g (subst (λ gs. Contains gs g) none c)

    only : (f s : Set) → Contains (f ∷ []) s → f ≡ s
    only f s c = ⊎_elim (λ e. e) (λ h. absurd (Contains-nil s h)) (Contains-cases f s [] c)

    all_words : 2 ≤ length all → IsWordSet corpus all 0 all
    all_words several = record {
      word = [];
      long = refl;
      several = several;
      exact = record {
        ordered = AllPairs-from_map IsBefore (λ (s : Spot). s.place) all (subst (AllPairs IsBefore) (sym given.are) given.entries.ordered);
        each = λ s. (λ c. (c, refl), λ h. h.0);
      };
    }

    two : (g : Group) → IsGroup corpus least g → Contains places (first_place g) → MayGive all
    two g is here =
        let (p, q, pair) = is.repeated in
        let p_in = place_of_group corpus least places g p given.entries given.some is here pair.first in
        let q_in = place_of_group corpus least places g q given.entries given.some is here pair.second in
        let a = spot_of places all p given.are p_in in
        let b = spot_of places all q given.are q_in in
        let several = two_in places p q p_in q_in pair.different in
        let apart : AreSame (token_before corpus a.0.place) (token_before corpus b.0.place) → ⊥ =
        λ same. pair.left (subst (λ w. AreSame (token_before corpus w) (token_before corpus q)) a.2 (subst (λ w. AreSame (token_before corpus a.0.place) (token_before corpus w)) b.2 same)) in (
          omega (arith, several, ap length given.are, length-map all (λ (s : Spot). s.place)),
          differ_before corpus all all a.0 b.0 given.spots a.1 b.1 a.1 b.1 apart,
        )

-- two places of a group, with tokens before them that are not both there and the same
pair_of_group : {T : Type 0} (corpus : List (List T)) (least : ℕ) (places : List Place) (g : Group) → AreEntries corpus least places → 1 ≤ least → IsGroupFrom corpus least places g → (p : Place) × (q : Place) × Contains places p × Contains places q × (p ≢ q) × (AreSame (token_before corpus p) (token_before corpus q) → ⊥)
pair_of_group corpus least places g entries some (is, here) =
    let (p, q, pair) = is.repeated in
    (p, q, place_of_group corpus least places g p entries some is here pair.first, place_of_group corpus least places g q entries some is here pair.second, pair.different, pair.left)

no_groups : {T : Type 0} (corpus : List (List T)) (least : ℕ) (places : List Place) (groups : List Group) → ((g : Group) → IsGroupFrom corpus least places g → ⊥) → groups ≡ [] → AreAllOnce (IsGroupFrom corpus least places) groups
no_groups corpus least places groups none is = record {
  ordered = λ i j d lt within. absurd (omega (arith, within, ap length is));
  each = λ g. (λ c. absurd (Contains-nil g (subst (λ (gs : List Group). Contains gs g) is c)), λ h. absurd (none g h));
}

-- fewer than two places give no group
pub none_of_few : {T : Type 0} (corpus : List (List T)) (least : ℕ) (places : List Place) (groups : List Group) → AreEntries corpus least places → 1 ≤ least → length places < 2 → groups ≡ [] → AreAllOnce (IsGroupFrom corpus least places) groups
none_of_few corpus least places groups entries some few is =
    no_groups corpus least places groups
    (λ g h. let (p, q, p_in, q_in, different, left) = pair_of_group corpus least places g entries some h in let several = two_in places p q p_in q_in different in omega (arith, few, several))
    is

-- nor do places with one token before them all
pub none_of_one : {T : Type 0} (corpus : List (List T)) (least : ℕ) (places : List Place) (groups : List Group) → AreEntries corpus least places → 1 ≤ least → AreOne (token_before corpus) places → groups ≡ [] → AreAllOnce (IsGroupFrom corpus least places) groups
none_of_one corpus least places groups entries some (t, one) is =
    no_groups corpus least places groups
    (λ g h. let (p, q, p_in, q_in, different, left) = pair_of_group corpus least places g entries some h in
    let a = All-contains (λ w. token_before corpus w ≡ Some t) places p one p_in in
    let b = All-contains (λ w. token_before corpus w ≡ Some t) places q one q_in in
    left (subst IsSome (sym a) refl, a ∙ sym b))
    is

-- the end
pub walk_ends : {T : Type 0} (corpus : List (List T)) (least : ℕ) (places : List Place) (all : List Spot) (sets : List Set) (groups : List Group) → length sets ≡ 0 → Walk corpus least places all sets groups → AreAllOnce (IsGroupFrom corpus least places) groups
walk_ends corpus least places all sets groups none walk = record {
  ordered = walk.different;
  each = λ g. (λ c. walk.sound g c, λ is. ⊎_elim (λ h. h) (λ (k, s, within, at, covers). absurd (omega (arith, within, none))) (walk.complete g is));
}

-- the set that is taken
pub popped_words : {T : Type 0} (corpus : List (List T)) (least : ℕ) (places : List Place) (all : List Spot) (sets rest : List Set) (set : Set) (groups : List Group) → sets ≡ rest ++ set ∷ [] → Walk corpus least places all sets groups → IsWordSet corpus all set.depth (set_spots set)
popped_words corpus least places all sets rest set groups popped walk = walk.words set (subst (λ ss. Contains ss set) (sym popped) (Contains-push rest set))

pub popped_gives : {T : Type 0} (corpus : List (List T)) (least : ℕ) (places : List Place) (all : List Spot) (sets rest : List Set) (set : Set) (groups : List Group) → sets ≡ rest ++ set ∷ [] → Walk corpus least places all sets groups → MayGive (set_spots set)
popped_gives corpus least places all sets rest set groups popped walk = walk.gives set (subst (λ ss. Contains ss set) (sym popped) (Contains-push rest set))

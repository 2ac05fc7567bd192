-- The group of a set of the places of one word.
use Rattle.std.proofs.Common.{◌≡◌, ◌≢◌, ℕ, ◌<◌, ◌≤◌, List, [], ◌∷◌, length, get_or, take, map, sym, ap, ap₂, ◌∙◌, subst, arith}
use Rattle.std.specs.Prelude.{All, AllPairs, Contains}
use Rattle.std.proofs.lemmas.List.{length-map, length-take-le}
use Rattle.std.proofs.lemmas.List.Elements.{All-contains, Contains-get_or}
use Rattle.cq_base.specs.declared.group.Place.{Place}
use Rattle.cq_base.specs.declared.group.Group.{Group}
use Rattle.cq_clones.specs.Lists.{AreAllInOrder}
use Rattle.cq_clones.specs.Groups.{IsBefore, word_at, StandsAt, token_behind, token_before, AreSame, IsMaximalAt, kept_of, IsGroup}
use Rattle.cq_base.specs.Places.{first_place}
use Rattle.cq_clones.proofs.InOrder.{AreAllInOrder-same}
use Rattle.cq_base.proofs.Lists.{Contains-here, Contains-there, Contains-map, Contains-from_map, AllPairs-map}
use Rattle.cq_clones.proofs.Order.{IsBefore-apart}
use Rattle.cq_clones.proofs.GroupLaws.{within_from_standing, word_of_group}
use Rattle.cq_groups.specs.declared.spots.Spot.{Spot}
use Rattle.cq_groups.specs.Sets.{Marked, IsSpotBefore, AreSpots, AreMarked, IsWordSet, AreEntries, HaveOneLeft}
use Rattle.cq_groups.proofs.Marking.{same_from_marks}
use Rattle.cq_groups.proofs.SetLaws.{two_places}
use Rattle.cq_groups.proofs.Words.{stands_front}

-- a word of at least `least` tokens stands at the places of its set and nowhere else
pub set_occurrences : {T : Type 0} (corpus : List (List T)) (least : ℕ) (places : List Place) (all spots : List Spot) (d : ℕ) → AreEntries corpus least places → map (λ s. s.place) all ≡ places → (set : IsWordSet corpus all d spots) → 1 ≤ least → least ≤ d → AreAllInOrder IsBefore (StandsAt corpus set.word) (map (λ s. s.place) spots)
set_occurrences {T} corpus least places all spots d entries are set some long = record {
  ordered = AllPairs-map IsBefore (λ (s : Spot). s.place) spots set.exact.ordered;
  each = λ p. (there p, back p);
}
  where
    w : List T
    w = set.word

    there : (p : Place) → Contains (map (λ (s : Spot). s.place) spots) p → StandsAt corpus set.word p
    there p c = let r = Contains-from_map (λ (s : Spot). s.place) spots p c in subst (StandsAt corpus set.word) r.2 ((set.exact.each r.0).0 r.1).1

    back : (p : Place) → StandsAt corpus set.word p → Contains (map (λ (s : Spot). s.place) spots) p
    back p stands =
        let origin : Spot = record { place = record { file = 0; at = 0 }; left = 0 } in
        let s : Spot = get_or spots 0 origin in
        let s_in : Contains spots s = Contains-get_or spots 0 origin (omega (arith, set.several)) in
        let s_is = (set.exact.each s).0 s_in in
        let len : length set.word ≡ d = set.long in
        let s_within = within_from_standing corpus set.word s.place s_is.1 (omega (arith, len)) in
        let s_front : word_at corpus s.place least ≡ take least set.word = stands_front corpus set.word least s.place (omega (arith, len)) s_is.1 in
        let p_front : word_at corpus p least ≡ take least set.word = stands_front corpus set.word least p (omega (arith, len)) stands in
        let size : length (word_at corpus s.place least) ≡ least = ap length s_front ∙ length-take-le least set.word (omega (arith, len)) in
        let s_place : Contains places s.place = subst (λ (ps : List Place). Contains ps s.place) are (Contains-map (λ (z : Spot). z.place) all s s_is.0) in
        let p_place : Contains places p = entries.closed s.place p s_place (omega (arith, len, s_within)) (ap (word_at corpus p) size ∙ p_front ∙ sym s_front) in
        let r = Contains-from_map (λ (z : Spot). z.place) all p (subst (λ (ps : List Place). Contains ps p) (sym are) p_place) in
        subst (Contains (map (λ (z : Spot). z.place) spots)) r.2
        (Contains-map (λ (z : Spot). z.place) spots r.0 ((set.exact.each r.0).1 (r.1, subst (StandsAt corpus set.word) (sym r.2) stands)))

-- the set's word is maximal at some two places, where the tokens on neither side are all there and equal
pub set_is_maximal : {T : Type 0} (corpus : List (List T)) (all spots : List Spot) (d : ℕ) (ms : List Marked) (o : Marked) (rest : List Marked) → AreSpots corpus all → (set : IsWordSet corpus all d spots) → map (λ x. x.spot) ms ≡ spots → AreMarked corpus d ms → ms ≡ o ∷ rest
    → ((0 < o.spot.left) × All (λ z. z.spot.left ≡ o.spot.left) ms → ⊥)
    → ((0 < o.mark) × All (λ z. z.mark ≡ o.mark) ms → ⊥)
    → (p : Place) × (q : Place) × IsMaximalAt corpus set.word p q
set_is_maximal {T} corpus all spots d ms o [] spots_are set are marked split no_left no_mark =
    absurd (omega (arith, ap length split, ap length are, length-map ms (λ (x : Marked). x.spot), set.several))
set_is_maximal {T} corpus all spots d ms o (x ∷ rest) spots_are set are marked split no_left no_mark =
    let f = two_places corpus d ms o x spots_are.seen spots_are.apart
    (λ z c. spots_are.marks z.spot ((set.exact.each z.spot).0 (spot_in z c)).0)
    marked
    (subst (λ (zs : List Marked). Contains zs o) (sym split) (Contains-here o (x ∷ rest)))
    (subst (λ (zs : List Marked). Contains zs x) (sym split) (Contains-there o x (x ∷ rest) (Contains-here x rest)))
    differ no_left no_mark in (
      f.p,
      f.q,
      record {
        different = f.different;
        first = stands f.p f.p_in;
        second = stands f.q f.q_in;
        left = f.left;
        right = subst (λ n. AreSame (token_behind corpus f.p n) (token_behind corpus f.q n) → ⊥) (sym set.long) f.right;
      },
    )
  where
    spot_in : (z : Marked) → Contains ms z → Contains spots z.spot
    spot_in z c = subst (λ (ss : List Spot). Contains ss z.spot) are (Contains-map (λ (y : Marked). y.spot) ms z c)

    stands : (p : Place) → (z : Marked) × Contains ms z × (z.spot.place ≡ p) → StandsAt corpus set.word p
    stands p (z, c, is) = subst (StandsAt corpus set.word) is ((set.exact.each z.spot).0 (spot_in z c)).1

    differ : o.spot.place ≢ x.spot.place
    differ e =
        let firsts : spots ≡ o.spot ∷ x.spot ∷ map (λ (y : Marked). y.spot) rest = sym are ∙ ap (map (λ (y : Marked). y.spot)) split in
        let before : IsBefore o.spot.place x.spot.place = (subst (AllPairs IsSpotBefore) firsts set.exact.ordered) 0 1 o.spot (omega arith) (omega arith) in
        let back : IsBefore x.spot.place o.spot.place = subst (λ w. IsBefore w o.spot.place) e (subst (IsBefore o.spot.place) (sym e) before) in
        IsBefore-apart o.spot.place x.spot.place before back

-- a group of the set: of its length, and with a first place in it
pub record IsGroupAt {T : Type 0} (corpus : List (List T)) (least d : ℕ) (spots : List Spot) (g : Group) : Type 0 where
  pub is : IsGroup corpus least g
  pub tokens : g.tokens ≡ d
  pub first : Contains (map (λ s. s.place) spots) (first_place g)

stands_in_set : {T : Type 0} (corpus : List (List T)) (all spots : List Spot) (d : ℕ) (p : Place) → (set : IsWordSet corpus all d spots) → Contains (map (λ s. s.place) spots) p → StandsAt corpus set.word p
stands_in_set corpus all spots d p set c =
    let r = Contains-from_map (λ (s : Spot). s.place) spots p c in subst (StandsAt corpus set.word) r.2 ((set.exact.each r.0).0 r.1).1

-- its word is the set's
pub word_of_set : {T : Type 0} (corpus : List (List T)) (least d : ℕ) (all spots : List Spot) (g : Group) → (set : IsWordSet corpus all d spots) → (at : IsGroupAt corpus least d spots g) → at.is.word ≡ set.word
word_of_set corpus least d all spots g set at =
    sym (word_of_group corpus least g at.is)
    ∙ ap (word_at corpus (first_place g)) (at.tokens ∙ sym set.long)
    ∙ stands_in_set corpus all spots d (first_place g) set at.first

-- its places are the kept ones of the set
pub places_of_set : {T : Type 0} (corpus : List (List T)) (least d : ℕ) (places : List Place) (all spots : List Spot) (g : Group) → AreEntries corpus least places → map (λ s. s.place) all ≡ places → (set : IsWordSet corpus all d spots) → 1 ≤ least → least ≤ d → IsGroupAt corpus least d spots g → g.places ≡ kept_of d (map (λ s. s.place) spots)
places_of_set corpus least d places all spots g entries are set some long at =
    let e = word_of_set corpus least d all spots g set at in
    let same : at.is.all ≡ map (λ (s : Spot). s.place) spots =
    AreAllInOrder-same IsBefore IsBefore-apart (StandsAt corpus set.word) at.is.all (map (λ (s : Spot). s.place) spots)
    (subst (λ w. AreAllInOrder IsBefore (StandsAt corpus w) at.is.all) e at.is.occurrences)
    (set_occurrences corpus least places all spots d entries are set some long) in
    at.is.places ∙ ap₂ kept_of at.tokens same

-- spots with different tokens before them don't have one
pub differ_before : {T : Type 0} (corpus : List (List T)) (all spots : List Spot) (s t : Spot) → AreSpots corpus all → Contains all s → Contains all t → Contains spots s → Contains spots t → (AreSame (token_before corpus s.place) (token_before corpus t.place) → ⊥) → HaveOneLeft spots → ⊥
differ_before corpus all spots s t are s_all t_all s_in t_in differ (n, positive, one) =
    let u = All-contains (λ (z : Spot). z.left ≡ n) spots s one s_in in
    let v = All-contains (λ (z : Spot). z.left ≡ n) spots t one t_in in
    differ (same_from_marks are.seen _ _ s.left t.left (are.marks s s_all) (are.marks t t_all) (u ∙ sym v) (omega (arith, u, positive)))

-- it has none, where the tokens before its places are all there and equal, or those after
pub none_by_left : {T : Type 0} (corpus : List (List T)) (least d n : ℕ) (places : List Place) (all spots : List Spot) (g : Group) → AreEntries corpus least places → map (λ s. s.place) all ≡ places → AreSpots corpus all → (set : IsWordSet corpus all d spots) → 1 ≤ least → least ≤ d → 0 < n → All (λ s. s.left ≡ n) spots → IsGroupAt corpus least d spots g → ⊥
none_by_left corpus least d n places all spots g entries are spots_are set some long positive one at =
    let e = word_of_set corpus least d all spots g set at in
    let (p, q, pair) = at.is.repeated in
    let occurs = set_occurrences corpus least places all spots d entries are set some long in
    let r = Contains-from_map (λ (s : Spot). s.place) spots p ((occurs.each p).1 (subst (λ w. StandsAt corpus w p) e pair.first)) in
    let t = Contains-from_map (λ (s : Spot). s.place) spots q ((occurs.each q).1 (subst (λ w. StandsAt corpus w q) e pair.second)) in
    let u = All-contains (λ (s : Spot). s.left ≡ n) spots r.0 one r.1 in
    let v = All-contains (λ (s : Spot). s.left ≡ n) spots t.0 one t.1 in
    pair.left (subst (λ a. AreSame a (token_before corpus q)) (ap (token_before corpus) r.2) (subst (AreSame (token_before corpus r.0.place)) (ap (token_before corpus) t.2)
    (same_from_marks spots_are.seen _ _ r.0.left t.0.left
    (spots_are.marks r.0 ((set.exact.each r.0).0 r.1).0) (spots_are.marks t.0 ((set.exact.each t.0).0 t.1).0) (u ∙ sym v) (omega (arith, u)))))

pub none_by_mark : {T : Type 0} (corpus : List (List T)) (least d n : ℕ) (places : List Place) (all spots : List Spot) (ms : List Marked) (g : Group) → AreEntries corpus least places → map (λ s. s.place) all ≡ places → (set : IsWordSet corpus all d spots) → map (λ x. x.spot) ms ≡ spots → (marked : AreMarked corpus d ms) → 1 ≤ least → least ≤ d → 0 < n → All (λ x. x.mark ≡ n) ms → IsGroupAt corpus least d spots g → ⊥
none_by_mark {T} corpus least d n places all spots ms g entries are set spots_are marked some long positive one at =
    let (p, q, pair) = at.is.repeated in
    let x = marked_at p pair.first in
    let y = marked_at q pair.second in
    let u = All-contains (λ (z : Marked). z.mark ≡ n) ms x.0 one x.1 in
    let v = All-contains (λ (z : Marked). z.mark ≡ n) ms y.0 one y.1 in
    let same : AreSame (token_behind corpus x.0.spot.place d) (token_behind corpus y.0.spot.place d) =
    same_from_marks marked.seen _ _ x.0.mark y.0.mark (marked.marks x.0 x.1) (marked.marks y.0 y.1) (u ∙ sym v) (omega (arith, u)) in
    let size : d ≡ length at.is.word = sym set.long ∙ ap length (sym (word_of_set corpus least d all spots g set at)) in
    pair.right (subst (λ k. AreSame (token_behind corpus p k) (token_behind corpus q k)) size
    (subst (λ w. AreSame (token_behind corpus w d) (token_behind corpus q d)) x.2
    (subst (λ w. AreSame (token_behind corpus x.0.spot.place d) (token_behind corpus w d)) y.2 same)))
  where
    marked_at : (w : Place) → StandsAt corpus at.is.word w → (z : Marked) × Contains ms z × (z.spot.place ≡ w)
    marked_at w stands =
        let e = word_of_set corpus least d all spots g set at in
        let occurs = set_occurrences corpus least places all spots d entries are set some long in
        let r = Contains-from_map (λ (s : Spot). s.place) spots w ((occurs.each w).1 (subst (λ v. StandsAt corpus v w) e stands)) in
        let t = Contains-from_map (λ (z : Marked). z.spot) ms r.0 (subst (λ (ss : List Spot). Contains ss r.0) (sym spots_are) r.1) in
        (t.0, t.1, ap (λ (s : Spot). s.place) t.2 ∙ r.2)

-- A set that is taken one token further: all of it, or its parts.
use Rattle.std.proofs.Common.{◌≡◌, ◌≢◌, ℕ, zero, suc, ◌+◌, ◌-◌, ◌<◌, ◌≤◌, List, [], ◌∷◌, ◌++◌, length, map, get_or, Option, Some, None, IsSome, refl, sym, ap, ◌∙◌, subst, inl, inr, ⊎_elim, arith, append-nil, true≢false}
use Rattle.std.specs.Prelude.{All, Contains, filter, nat_le, option_map}
use Rattle.std.proofs.lemmas.Bool.{cases_eq, le-leb, eq-eqb, ne_eqb}
use Rattle.std.proofs.lemmas.List.Elements.{All-cons, All-nil, All-contains, Contains-get_or}
use Rattle.std.proofs.lemmas.List.Kept.{AllPairs-cons}
use Rattle.std.proofs.lemmas.List.Sums.{sum_by-cons}
use Rattle.cq_base.specs.declared.group.Group.{Group}
use Rattle.cq_base.specs.declared.norm.Norm.{Norm}
use Rattle.cq_base.proofs.Lists.{Contains-here, Contains-there, Contains-cases, Contains-nil, Contains-from_map}
use Rattle.cq_base.specs.declared.group.Place.{Place}
use Rattle.cq_clones.specs.Groups.{IsPlace, token_before, token_behind, token_ahead, AreSame}
use Rattle.cq_tokens.specs.Packed.{norm_in}
use Rattle.cq_groups.specs.declared.differing.Difference.{Difference}
use Rattle.cq_groups.specs.declared.spots.Spot.{Spot}
use Rattle.cq_groups.specs.declared.spots.Row.{Row}
use Rattle.cq_groups.specs.declared.spots.Set.{Set}
use Rattle.cq_groups.specs.Rows.{all_of}
use Rattle.cq_groups.specs.Sets.{set_spots, Marked, all_marked, IsMark, AreOne, IsDifference, AreTwoMarks, AreSpots, AreMarked, HaveOneLeft, HaveOneMark, MayGive, part_of, IsPart, AddsParts, IsParted, group_of, IsLong, IsChosen, AddsGroup, IsSplit}
use Rattle.cq_groups.proofs.Marking.{same_from_marks, no_mark}
use Rattle.cq_groups.proofs.RowLaws.{first_in, pair_spots_of}
use Rattle.cq_groups.proofs.Spread.{all_spots, all_part, all_mark}

-- ---- all of it

all_low : (m : ℕ) (spots : List Spot) → length spots ≤ length (filter (λ x. nat_le x.mark m) (all_marked m spots))
all_low m [] = omega arith
all_low m (s ∷ ss) = let r = all_low m ss in rw (le-leb m m (omega arith)) (omega (arith, r))

pub all_go_on : {T : Type 0} (corpus : List (List T)) (least : ℕ) (set s : Set) (rest more : List Set) (groups : List Group) → AreOne (λ z. token_behind corpus z.place set.depth) (set_spots set) → MayGive (set_spots set) → s.depth ≡ set.depth + 1 → (set_spots s) ≡ (set_spots set) → more ≡ rest ++ s ∷ [] → IsSplit corpus least set rest more groups groups
all_go_on {T} corpus least set s rest more groups (t, tokens) gives deeper same more_is = record {
  marked = marked;
  spots = all_spots 1 spots;
  marks = record {
    seen = t ∷ [];
    apart = λ i j d lt within. absurd (omega (arith, lt, within));
    marks = λ x c. let h = all_mark 1 spots x c in record {
      within = omega (arith, h.0);
      names = ap (token_ahead (t ∷ [])) h.0 ∙ sym (All-contains (λ (z : Spot). token_behind corpus z.place set.depth ≡ Some t) spots x.spot tokens h.1);
    };
  };
  highest = 1;
  all = ones_low;
  parts = record {
    parts = s ∷ [];
    is = more_is;
    are = record {
      each = λ z c. subst (IsPart (set.depth + 1) marked 1) (only z c) part;
      apart = λ i j d lt within. absurd (omega (arith, lt, within));
      all = λ x c some low enough.
          let e : 1 ≡ x.mark = sym (all_mark 1 spots x c).0 in
          (0, s, omega arith, refl, (deeper, part.is ∙ ap (λ k. part_of k marked) e));
    };
    size = let e = sum_by-cons (λ (z : Set). length (set_spots z)) s [] in let low = all_low 1 spots in omega (arith, e, ap length same, low);
  };
  group = inr (λ chosen. chosen.right (1, omega arith, ones), refl);
}
  where
    spots : List Spot
    spots = (set_spots set)

    marked : List Marked
    marked = all_marked 1 (set_spots set)

    ones : All (λ x. x.mark ≡ 1) (all_marked 1 (set_spots set))
    ones k d within = (all_mark 1 (set_spots set) _ (Contains-get_or (all_marked 1 (set_spots set)) k d within)).0

    ones_low : All (λ x. x.mark ≤ 1) (all_marked 1 (set_spots set))
    ones_low k d within = let e = ones k d within in omega (arith, e)

    part : IsPart (set.depth + 1) (all_marked 1 (set_spots set)) 1 s
    part = record { mark = 1; some = omega arith; low = omega arith; deeper = deeper; gives = subst MayGive (sym same) gives; is = same ∙ sym (all_part 1 (set_spots set)) }

    only : (z : Set) → Contains (s ∷ []) z → s ≡ z
    only z c = ⊎_elim (λ e. e) (λ h. absurd (Contains-nil z h)) (Contains-cases s z [] c)

-- ---- its parts

-- a token that is there
pub there : {T : Type 0} (o : Option T) → IsSome o → (t : T) × (o ≡ Some t)
there None some = absurd (true≢false (sym some))
there (Some t) some = (t, refl)

-- two places whose tokens are not both there and the same have no one mark
pub no_one_mark : {T : Type 0} (corpus : List (List T)) (d : ℕ) (marked : List Marked) (x y : Marked) → AreMarked corpus d marked → Contains marked x → Contains marked y → (AreSame (token_behind corpus x.spot.place d) (token_behind corpus y.spot.place d) → ⊥) → HaveOneMark marked → ⊥
no_one_mark corpus d marked x y are x_in y_in differ (n, positive, one) =
    let u = All-contains (λ (z : Marked). z.mark ≡ n) marked x one x_in in
    let v = All-contains (λ (z : Marked). z.mark ≡ n) marked y one y_in in
    differ (same_from_marks are.seen _ _ x.mark y.mark (are.marks x x_in) (are.marks y y_in) (u ∙ sym v) (omega (arith, u, positive)))

-- the tokens of the first and of the last that was read
first_and_last : {X : Type 0} (token : X → Option Norm) (xs : List X) (d : Difference) (x : X) → IsDifference token xs d → AreSame (token (get_or xs 0 x)) (token (get_or xs (d.read - 1) x)) → ⊥
first_and_last token xs d x is (there, same) =
    let a = is.same 0 x (omega (arith, is.several)) in
    let b = is.end x in
    is.differ (subst IsSome a there, sym a ∙ same ∙ b)

pub no_one_mark_of : (corpus : List (List Norm)) (n : ℕ) (rows : List Row) (marked : List Marked) (d : Difference) → IsDifference (λ r. token_behind corpus r.first.place n) rows d → map (λ x. x.spot) marked ≡ all_of rows → AreMarked corpus n marked → HaveOneMark marked → ⊥
no_one_mark_of corpus n rows marked d is spots_are are =
    let origin : Row = record { first = record { place = record { file = 0; at = 0 }; left = 0 }; others = 0; gap = 0; left = 0 } in
    let (x, x_in, x_is) = found (get_or rows 0 origin) (Contains-get_or rows 0 origin (omega (arith, is.several, is.within))) in
    let (y, y_in, y_is) = found (get_or rows (d.read - 1) origin) (Contains-get_or rows (d.read - 1) origin (omega (arith, is.several, is.within))) in
    let a = ap (λ (s : Spot). token_behind corpus s.place n) x_is in
    let b = ap (λ (s : Spot). token_behind corpus s.place n) y_is in
    no_one_mark corpus n marked x y are x_in y_in
    (λ (there, same). first_and_last (λ (r : Row). token_behind corpus r.first.place n) rows d origin is (subst IsSome a there, sym a ∙ same ∙ b))
  where
    found : (r : Row) → Contains rows r → (x : Marked) × Contains marked x × (x.spot ≡ r.first)
    found r c = Contains-from_map (λ (x : Marked). x.spot) marked r.first (subst (λ (ss : List Spot). Contains ss r.first) (sym spots_are) (first_in rows r c))

-- the group of a set that stops here
pub chosen_group : (least depth : ℕ) (spots : List Spot) (marked : List Marked) (group : Group) (old new : List Group) → (HaveOneLeft spots → ⊥) → (HaveOneMark marked → ⊥) → AddsGroup (IsLong least depth spots) group old new → AddsGroup (IsChosen least depth spots marked) group old new
chosen_group least depth spots marked group old new left right adds =
    ⊎_elim
    (λ (long, e). inl (record { long = long.0; left = left; right = right; several = long.1 }, e))
    (λ (other, e). inr (λ chosen. other (chosen.long, chosen.several), e))
    adds

-- no part has two places
few_parts : (depth highest : ℕ) (marked : List Marked) (old : List Set) → ((k : ℕ) → 0 < k → 2 ≤ length (part_of k marked) → ⊥) → AddsParts depth marked highest old old
few_parts depth highest marked old few = record {
  parts = [];
  is = sym (append-nil old);
  are = record {
    each = λ s c. absurd (Contains-nil s c);
    apart = λ i j d lt within. absurd (omega arith);
    all = λ x c some low enough. absurd (few x.mark some enough.0);
  };
  size = omega arith;
}

-- ---- two places

in_pair : {X : Type 0} (P : X → Type 0) (x y z : X) → P x → P y → Contains (x ∷ y ∷ []) z → P z
in_pair P x y z p q c =
    ⊎_elim (λ e. subst P e p) (λ r. ⊎_elim (λ e. subst P e q) (λ none. absurd (Contains-nil z none)) (Contains-cases y z [] r)) (Contains-cases x z (y ∷ []) c)

pub marks_neither : {T : Type 0} → AreTwoMarks {T = T} None None 0 0
marks_neither = record { seen = []; apart = λ i j d lt within. absurd (omega (arith, within)); first = no_mark [] None refl; second = no_mark [] None refl }

pub marks_second : {T : Type 0} (t : T) → AreTwoMarks None (Some t) 0 1
marks_second t = record { seen = t ∷ []; apart = λ i j d lt within. absurd (omega (arith, lt, within)); first = no_mark (t ∷ []) None refl; second = record { within = omega arith; names = refl } }

pub marks_first : {T : Type 0} (s : T) → AreTwoMarks (Some s) None 1 0
marks_first s = record { seen = s ∷ []; apart = λ i j d lt within. absurd (omega (arith, lt, within)); first = record { within = omega arith; names = refl }; second = no_mark (s ∷ []) None refl }

pub marks_both : {T : Type 0} (s t : T) → (AreSame (Some s) (Some t) → ⊥) → AreTwoMarks (Some s) (Some t) 1 2
marks_both {T} s t differ = record {
  seen = s ∷ t ∷ [];
  apart = AllPairs-cons (λ (x y : T). x ≢ y) s (t ∷ []) other (λ i j d lt within. absurd (omega (arith, lt, within)));
  first = record { within = omega arith; names = refl };
  second = record { within = omega arith; names = refl };
}
  where
    other : (k : ℕ) (d : T) → k < length (t ∷ []) → s ≢ get_or (t ∷ []) k d
    other zero d lt e = differ (refl, ap Some e)
    other (suc k) d lt e = omega (arith, lt)

two_exist : {T : Type 0} (a b : Option T) → (AreSame a b → ⊥) → (m : ℕ) × (n : ℕ) × AreTwoMarks a b m n
two_exist None None differ = (0, 0, marks_neither)
two_exist None (Some t) differ = (0, 1, marks_second t)
two_exist (Some s) None differ = (1, 0, marks_first s)
two_exist (Some s) (Some t) differ = (1, 2, marks_both s t differ)

-- the tokens of two places, all of which were read
two_differ : {X : Type 0} (token : X → Option Norm) (x y : X) (d : Difference) → IsDifference token (x ∷ y ∷ []) d → AreSame (token x) (token y) → ⊥
two_differ {X} token x y d is same =
    let e : d.read - 1 ≡ 1 = omega (arith, is.several, is.within) in
    first_and_last token (x ∷ y ∷ []) d x is (subst (λ k. AreSame (token x) (token (get_or (x ∷ y ∷ []) k x))) (sym e) same)

-- two places with the marks of the tokens before them
pub pair_spots : (corpus : List (List Norm)) (places : List Place) (origin : Place) (m n : ℕ) (spots : List Spot) (d : Difference) → spots ≡ record { place = get_or places 0 origin; left = m } ∷ record { place = get_or places 1 origin; left = n } ∷ [] → length places ≡ 2 → All (IsPlace corpus) places → IsDifference (token_before corpus) places d → AreTwoMarks (option_map norm_in d.first) (option_map norm_in d.last) m n → AreSpots corpus spots
pair_spots corpus places origin m n spots d spots_are two inside is marks =
    let x : Spot = record { place = get_or places 0 origin; left = m } in
    let y : Spot = record { place = get_or places 1 origin; left = n } in
    let last : d.read - 1 ≡ 1 = omega (arith, is.several, is.within, two) in
    let x_is : IsMark marks.seen (token_before corpus x.place) m = subst (λ o. IsMark marks.seen o m) (sym (is.same 0 origin (omega (arith, is.several)))) marks.first in
    let y_is : IsMark marks.seen (token_before corpus y.place) n = subst (λ o. IsMark marks.seen o n) (sym (ap (λ k. token_before corpus (get_or places k origin)) (sym last) ∙ is.end origin)) marks.second in
    subst (AreSpots corpus) (sym spots_are) (record {
      seen = marks.seen;
      apart = marks.apart;
      marks = λ s c. in_pair (λ (z : Spot). IsMark marks.seen (token_before corpus z.place) z.left) x y s x_is y_is c;
      places = λ s c. in_pair (λ (z : Spot). IsPlace corpus z.place) x y s (inside 0 origin (omega (arith, two))) (inside 1 origin (omega (arith, two))) c;
    })

-- one place of each
apart_parts : {T : Type 0} (a b : Option T) (s t : Spot) (m n k : ℕ) → (AreSame a b → ⊥) → AreTwoMarks a b m n → 0 < k → 2 ≤ length (part_of k (record { spot = s; mark = m } ∷ record { spot = t; mark = n } ∷ [])) → ⊥
apart_parts a b s t m n k differ marks some several =
    let pair : List Marked = record { spot = s; mark = m } ∷ record { spot = t; mark = n } ∷ [] in
    let one : length (part_of k pair) ≤ 1 =
    ⊎_elim
    (λ m_is. ⊎_elim
    (λ n_is. absurd (differ (same_from_marks marks.seen a b m n marks.first marks.second (m_is ∙ sym n_is) (omega (arith, m_is, some)))))
    (λ n_not. rw (eq-eqb m k m_is, ne_eqb n k n_not) (omega arith))
    (cases_eq n k))
    (λ m_not. ⊎_elim
    (λ n_is. rw (ne_eqb m k m_not, eq-eqb n k n_is) (omega arith))
    (λ n_not. rw (ne_eqb m k m_not, ne_eqb n k n_not) (omega arith))
    (cases_eq n k))
    (cases_eq m k) in
    omega (arith, several, one)

pub split_two : (corpus : List (List Norm)) (least : ℕ) (set : Set) (rest : List Set) (d : Difference) (old new : List Group) → IsDifference (λ r. token_behind corpus r.first.place set.depth) set.rows.items d → length set.rows.items ≡ 2 → All (λ r. r.others ≡ 0) set.rows.items → MayGive (set_spots set) → AddsGroup (IsLong least set.depth (set_spots set)) (group_of set.depth (set_spots set)) old new → IsSplit corpus least set rest rest old new
split_two corpus least set rest d old new is two single gives adds = by set.rows.items refl two
  where
    of_pair : (s t : Spot) → set_spots set ≡ s ∷ t ∷ [] → (AreSame (token_behind corpus s.place set.depth) (token_behind corpus t.place set.depth) → ⊥) → IsSplit corpus least set rest rest old new
    of_pair s t e differ =
        let n = set.depth in
        let (a, b, marks) = two_exist (token_behind corpus s.place n) (token_behind corpus t.place n) differ in
        let x : Marked = record { spot = s; mark = a } in
        let y : Marked = record { spot = t; mark = b } in
        let are : AreMarked corpus n (x ∷ y ∷ []) = record {
          seen = marks.seen;
          apart = marks.apart;
          marks = λ z c. in_pair (λ (w : Marked). IsMark marks.seen (token_behind corpus w.spot.place n) w.mark) x y z marks.first marks.second c;
        } in
        record {
          marked = x ∷ y ∷ [];
          spots = sym e;
          marks = are;
          highest = a + b;
          all = All-cons (λ (z : Marked). z.mark ≤ a + b) x (y ∷ []) (omega arith) (All-cons (λ (z : Marked). z.mark ≤ a + b) y [] (omega arith) (All-nil (λ (z : Marked). z.mark ≤ a + b)));
          parts = few_parts (n + 1) (a + b) (x ∷ y ∷ []) rest (λ k some several. apart_parts (token_behind corpus s.place n) (token_behind corpus t.place n) s t a b k differ marks some several);
          group = chosen_group least n (set_spots set) (x ∷ y ∷ []) (group_of n (set_spots set)) old new gives.1
              (no_one_mark corpus n (x ∷ y ∷ []) x y are (Contains-here x (y ∷ [])) (Contains-there x y (y ∷ []) (Contains-here y [])) differ) adds;
        }

    of_rows : (a b : Row) → set.rows.items ≡ a ∷ b ∷ [] → IsSplit corpus least set rest rest old new
    of_rows a b e =
        let one = subst (All (λ (r : Row). r.others ≡ 0)) e single in
        let rows_is = subst (λ (rs : List Row). IsDifference (λ r. token_behind corpus r.first.place set.depth) rs d) e is in
        of_pair a.first b.first (ap all_of e ∙ pair_spots_of a b (one 0 a (omega arith)) (one 1 a (omega arith)))
        (two_differ (λ (r : Row). token_behind corpus r.first.place set.depth) a b d rows_is)

    by : (rows : List Row) → set.rows.items ≡ rows → length rows ≡ 2 → IsSplit corpus least set rest rest old new
    by [] e size = absurd (omega (arith, size))
    by (a ∷ []) e size = absurd (omega (arith, size))
    by (a ∷ b ∷ []) e size = of_rows a b e
    by (a ∷ b ∷ c ∷ rs) e size = absurd (omega (arith, size))

-- a set of more places
pub split_parts : (corpus : List (List Norm)) (least : ℕ) (set : Set) (rest more : List Set) (d : Difference) (old new : List Group) → IsDifference (λ r. token_behind corpus r.first.place set.depth) set.rows.items d → MayGive (set_spots set) → IsParted corpus set rest more → AddsGroup (IsLong least set.depth (set_spots set)) (group_of set.depth (set_spots set)) old new → IsSplit corpus least set rest more old new
split_parts corpus least set rest more d old new is gives parted adds = record {
  marked = parted.marked;
  spots = parted.spots;
  marks = parted.marks;
  highest = parted.highest;
  all = parted.all;
  parts = parted.parts;
  group = chosen_group least set.depth (set_spots set) parted.marked (group_of set.depth (set_spots set)) old new gives.1 (no_one_mark_of corpus set.depth set.rows.items parted.marked d is parted.spots parted.marks) adds;
}

-- How many reads the sets can still take.
use Rattle.std.proofs.Common.{◌≡◌, ◌≢◌, ℕ, zero, suc, ◌+◌, ◌*◌, ◌-◌, ◌≤◌, List, [], ◌∷◌, ◌++◌, length, map, sym, ap, ap₂, ◌∙◌, subst, ⊎_elim, arith}
use Rattle.std.specs.Prelude.{Contains, sum_by, filter, Bool, nat_le}
use Rattle.std.proofs.Math.Nat.{add-mul, mul-add, mul-one, zero-mul, mul-le-mul_right}
use Rattle.std.proofs.lemmas.Bool.{cases_lt, cases_Bool}
use Rattle.std.proofs.lemmas.List.{length-map}
use Rattle.std.proofs.lemmas.List.Sums.{sum_by-cons, sum_by-append, sum_by_push}
use Rattle.cq_base.specs.declared.group.Group.{Group}
use Rattle.cq_clones.specs.Groups.{file_at, IsBefore, word_at}
use Rattle.cq_base.proofs.Lists.{Contains-here, Contains-there}
use Rattle.cq_clones.proofs.Order.{IsBefore-apart}
use Rattle.cq_clones.proofs.GroupLaws.{within_from_standing}
use Rattle.cq_groups.specs.declared.spots.Spot.{Spot}
use Rattle.cq_groups.specs.declared.spots.Set.{Set}
use Rattle.cq_groups.specs.Sets.{set_spots, Marked, AreSpots, IsWordSet, IsLongest, IsSplit, AreFirst}

-- the spots of a set, once for each length that its words can still get
abbrev pub weight : ℕ → Set → ℕ
weight longest s = length (set_spots s) * (longest + 1 - s.depth)

abbrev pub size_of : Set → ℕ
size_of s = length (set_spots s)

-- all tokens of the corpus
abbrev pub size_of_files : {T : Type 0} → List (List T) → ℕ
size_of_files corpus = sum_by (λ file. length file) corpus

file_within : {T : Type 0} (corpus : List (List T)) (i : ℕ) → length (file_at corpus i) ≤ size_of_files corpus
file_within [] i = omega arith
file_within {T} (f ∷ fs) zero = let e = sum_by-cons (λ (file : List T). length file) f fs in omega (arith, e)
file_within {T} (f ∷ fs) (suc i) = let e = sum_by-cons (λ (file : List T). length file) f fs in let r = file_within fs i in omega (arith, e, r)

-- no word is longer than that
pub files_are_longest : {T : Type 0} (corpus : List (List T)) → IsLongest corpus (size_of_files corpus)
files_are_longest corpus = λ p q n differ p_in q_in same. let h = file_within corpus p.file in omega (arith, p_in, h)

-- two spots of one word: it isn't longer than the longest
pub depth_within : {T : Type 0} (corpus : List (List T)) (all spots : List Spot) (d longest : ℕ) → AreSpots corpus all → IsWordSet corpus all d spots → IsLongest corpus longest → d ≤ longest
depth_within corpus all [] d longest are set is = absurd (omega (arith, set.several))
depth_within corpus all (s ∷ []) d longest are set is = absurd (omega (arith, set.several))
depth_within {T} corpus all (s ∷ t ∷ rest) d longest are set is =
    let s_is = (set.exact.each s).0 (Contains-here s (t ∷ rest)) in
    let t_is = (set.exact.each t).0 (Contains-there s t (t ∷ rest) (Contains-here t rest)) in
    let before : IsBefore s.place t.place = set.exact.ordered 0 1 s (omega arith) (omega arith) in
    let differ : s.place ≢ t.place = λ e. IsBefore-apart s.place t.place before (subst (λ w. IsBefore w s.place) e (subst (IsBefore s.place) (sym e) before)) in
    ⊎_elim
    (λ none. omega (arith, none))
    (λ some. is s.place t.place d differ
    (let h = within_from_standing corpus set.word s.place s_is.1 (omega (arith, some, set.long)) in omega (arith, h, set.long))
    (let h = within_from_standing corpus set.word t.place t_is.1 (omega (arith, some, set.long)) in omega (arith, h, set.long))
    (ap (word_at corpus s.place) (sym set.long) ∙ s_is.1 ∙ sym t_is.1 ∙ ap (word_at corpus t.place) set.long))
    (cases_lt d 1)

sum_weights : (longest d : ℕ) (parts : List Set) → ((s : Set) → Contains parts s → s.depth ≡ d) → sum_by (weight longest) parts ≡ sum_by size_of parts * (longest + 1 - d)
sum_weights longest d [] same = sym (zero-mul (longest + 1 - d))
sum_weights longest d (s ∷ rest) same =
    let e = same s (Contains-here s rest) in
    let r = sum_weights longest d rest (λ t c. same t (Contains-there s t rest c)) in
    let w : weight longest s ≡ length (set_spots s) * (longest + 1 - d) = ap (λ k. length (set_spots s) * (longest + 1 - k)) e in
    sum_by-cons (weight longest) s rest ∙ ap₂ (λ a b. a + b) w r ∙ sym (add-mul (length (set_spots s)) (sum_by size_of rest) (longest + 1 - d))
    ∙ ap (λ k. k * (longest + 1 - d)) (sym (sum_by-cons size_of s rest))

filter_within : (p : Marked → Bool) (xs : List Marked) → length (filter p xs) ≤ length xs
filter_within p [] = omega arith
filter_within p (x ∷ xs) =
    let r = filter_within p xs in
    ⊎_elim (λ yes. rw yes (omega (arith, r))) (λ nay. rw nay (omega (arith, r))) (cases_Bool (p x))

-- a set weighs more than its parts, by its spots
pub split_weighs : {T : Type 0} (corpus : List (List T)) (least longest : ℕ) (set : Set) (sets rest more : List Set) (old new : List Group) → set.depth ≤ longest → sets ≡ rest ++ set ∷ [] → IsSplit corpus least set rest more old new → sum_by (weight longest) more + length (set_spots set) ≤ sum_by (weight longest) sets
split_weighs corpus least longest set sets rest more old new low popped split =
    let n = length (set_spots set) in
    let d = set.depth in
    let parts = split.parts.parts in
    let a : sum_by (weight longest) more ≡ sum_by (weight longest) rest + sum_by (weight longest) parts = ap (sum_by (weight longest)) split.parts.is ∙ sum_by-append (weight longest) rest parts in
    let b : sum_by (weight longest) parts ≡ sum_by size_of parts * (longest + 1 - (d + 1)) = sum_weights longest (d + 1) parts (λ s c. (split.parts.are.each s c).deeper) in
    let c : sum_by size_of parts ≤ n = omega (arith, split.parts.size, filter_within (λ x. nat_le x.mark split.highest) split.marked, ap length split.spots, length-map split.marked (λ (x : Marked). x.spot)) in
    let e : sum_by size_of parts * (longest - d) ≤ n * (longest - d) = mul-le-mul_right (longest - d) c in
    let f : sum_by (weight longest) sets ≡ sum_by (weight longest) rest + weight longest set = ap (sum_by (weight longest)) popped ∙ sum_by_push (weight longest) rest set in
    let less : longest + 1 - (d + 1) ≡ longest - d = omega (arith, low) in
    let more_is : longest + 1 - d ≡ (longest - d) + 1 = omega (arith, low) in
    let h : weight longest set ≡ n * (longest - d) + n = ap (λ k. n * k) more_is ∙ mul-add n (longest - d) 1 ∙ ap (λ k. n * (longest - d) + k) (mul-one n) in
    let b' : sum_by (weight longest) parts ≡ sum_by size_of parts * (longest - d) = b ∙ ap (λ k. sum_by size_of parts * k) less in
    omega (arith, a, b', e, f, h)

-- what the set weighs, it can be read once
pub set_weighs : (longest : ℕ) (set : Set) (sets rest : List Set) → set.depth ≤ longest → sets ≡ rest ++ set ∷ [] → length (set_spots set) ≤ sum_by (weight longest) sets
set_weighs longest set sets rest low popped =
    let n = length (set_spots set) in
    let f : sum_by (weight longest) sets ≡ sum_by (weight longest) rest + weight longest set = ap (sum_by (weight longest)) popped ∙ sum_by_push (weight longest) rest set in
    let more_is : longest + 1 - set.depth ≡ (longest - set.depth) + 1 = omega (arith, low) in
    let h : weight longest set ≡ n * (longest - set.depth) + n = ap (λ k. n * k) more_is ∙ mul-add n (longest - set.depth) 1 ∙ ap (λ k. n * (longest - set.depth) + k) (mul-one n) in
    omega (arith, f, h)

-- at the beginning
pub first_weighs : (longest n : ℕ) (spots : List Spot) (sets : List Set) → length spots ≡ n → AreFirst spots sets → n + sum_by (weight longest) sets ≤ n * (longest + 2)
first_weighs longest n spots sets size first =
    let e : n * (longest + 2) ≡ n * (longest + 1) + n = ap (λ k. n * k) (two longest) ∙ mul-add n (longest + 1) 1 ∙ ap (λ k. n * (longest + 1) + k) (mul-one n) in
    ⊎_elim
    (λ (several, (s, depth, is, sets_are)).
    let w : sum_by (weight longest) sets ≡ weight longest s = ap (sum_by (weight longest)) sets_are ∙ sum_by-cons (weight longest) s [] ∙ zero_right (weight longest s) in
    let v : weight longest s ≡ n * (longest + 1) = ap₂ (λ a b. a * b) (ap length is ∙ size) (ap (λ k. longest + 1 - k) depth ∙ less_none (longest + 1)) in
    omega (arith, e, w, v))
    (λ (few, sets_are). let w : sum_by (weight longest) sets ≡ 0 = ap (sum_by (weight longest)) sets_are in omega (arith, e, w))
    first
  where
    two : (k : ℕ) → k + 2 ≡ k + 1 + 1
    two k = omega arith

    less_none : (k : ℕ) → k - 0 ≡ k
    less_none k = omega arith

    zero_right : (k : ℕ) → k + 0 ≡ k
    zero_right k = omega arith

pub places_size : {A B : Type 0} (f : A → B) (xs : List A) (ys : List B) → map f xs ≡ ys → length xs ≡ length ys
places_size f xs ys e = sym (length-map xs f) ∙ ap length e

-- Files that are chosen of a project: their counts, and the extents in them.
use Rattle.std.proofs.Common.{◌≡◌, ℕ, zero, suc, ◌+◌, ◌<◌, ◌≤◌, Bool, true, false, ◌||◌, cond, ⊎_elim, List, [], ◌∷◌, ◌++◌, length, get_or, take, map, filter, Result, Ok, Err, refl, sym, ap, ◌∙◌, subst, nat_cmp, append_assoc, append-nil, arith}
use Rattle.std.specs.Prelude.{All, nat_eq, slice_index_or}
use Rattle.std.specs.Result.{is_ok}
use Rattle.std.specs.List.{flat_map, list_any, range_with_len, sum_by}
use Rattle.std.specs.List.Sorted.{IsStrictlyIncreasing, IsBinarySearchResult}
use Rattle.std.proofs.lemmas.Bool.{cases_lt, eq-eqb, ne_eqb}
use Rattle.std.proofs.lemmas.List.{length-map, map-append, take_more}
use Rattle.std.proofs.lemmas.List.Concat.{flat_map-append}
use Rattle.std.proofs.lemmas.List.Elements.{All-get_or, All-head, All-map, All-tail, All-weaker, filter-append, filter_agree}
use Rattle.std.proofs.lemmas.List.Folds.{list_any_at, list_any_none}
use Rattle.std.proofs.lemmas.List.FromFn.{fill_by_all, get_or-range_with_len, length-range_with_len}
use Rattle.std.proofs.lemmas.List.Kept.{AllPairs-from_increasing}
use Rattle.std.proofs.lemmas.List.Sorted.{searched}
use Rattle.std.proofs.lemmas.List.Sums.{sum_by-cons}
use Rattle.std.proofs.lemmas.Map.Keys.{sorted_from_strictly_increasing}
use Rattle.std.proofs.lemmas.Map.Views.{length-le_from_below}
use Rattle.cq_base.specs.declared.group.Place.{Place}
use Rattle.cq_base.specs.declared.group.Group.{Group}
use Rattle.cq_base.specs.declared.measures.FileCounts.{FileCounts}
use Rattle.cq_measures.specs.declared.extent.Extent.{Extent}
use Rattle.cq_measures.specs.declared.extent.FileLines.{FileLines}
use Rattle.cq_measures.specs.Measures.{counts_of, counts_at, no_counts, extents_of, is_in_chosen, measures_of, total, AreSmall, AllChosenAreTheProject, OneChosenIsTheFile}
use Rattle.cq_measures.specs.Sorted.{AreBelow}
use Rattle.cq_measures.proofs.Placed.{extents_below}

-- ---- ascending numbers

rises : (xs : List ℕ) → IsStrictlyIncreasing xs → (i j : ℕ) → i ≤ j → j < length xs → get_or xs i 0 ≤ get_or xs j 0
rises xs rising i j le lt =
    ⊎_elim
    (λ (less : i < j). let h = AllPairs-from_increasing xs rising i j 0 less lt in omega (arith, h))
    (λ (ge : j ≤ i). let same : i ≡ j = omega (arith, le, ge) in subst (λ k. get_or xs k 0 ≤ get_or xs j 0) (sym same) (omega arith))
    (cases_lt i j)

any_default : (xs : List ℕ) (i d e : ℕ) → i < length xs → get_or xs i d ≡ get_or xs i e
any_default [] i d e lt = absurd (omega (arith, lt))
any_default (x ∷ xs) zero d e lt = refl
any_default (x ∷ xs) (suc i) d e lt = any_default xs i d e (omega (arith, lt))

-- whether a search finds a number
pub among : (xs : List ℕ) (n : ℕ) (r : Result ℕ ℕ) → IsBinarySearchResult (λ y. nat_cmp y n) xs r → IsStrictlyIncreasing xs → is_ok r ≡ list_any (nat_eq n) xs
among xs n (Ok i) is rising =
    let s = searched xs n (Ok i) is (rises xs rising) in
    sym (list_any_at (nat_eq n) xs i 0 s.0 (eq-eqb n (get_or xs i 0) (sym s.1)))
among xs n (Err i) is rising =
    let s = searched xs n (Err i) is (rises xs rising) in
    sym (list_any_none (nat_eq n) xs (λ k d lt. ne_eqb n (get_or xs k d) (λ (same : n ≡ get_or xs k d).
    let at = any_default xs k d 0 lt in
    ⊎_elim
    (λ (low : k < i). let less = s.1 k low in omega (arith, less, at, same))
    (λ (high : i ≤ k). let more = s.2 k high lt in omega (arith, more, at, same))
    (cases_lt k i))))

pub few_chosen : (n : ℕ) (chosen : List ℕ) → IsStrictlyIncreasing chosen → All (λ x. x < n) chosen → length chosen ≤ n
few_chosen n chosen rising inside = length-le_from_below n chosen (sorted_from_strictly_increasing chosen rising) inside

-- ---- their counts

pub counts_more : (all : List FileLines) (counts : List FileCounts) (chosen : List ℕ) (i d : ℕ) (f : FileLines) → i < length chosen → counts_of all ≡ counts_at counts (take i chosen)
    → f.counts ≡ slice_index_or counts (get_or chosen i d) no_counts → counts_of (all ++ f ∷ []) ≡ counts_at counts (take (i + 1) chosen)
counts_more all counts chosen i d f within so_far is =
    map-append (λ g. g.counts) all (f ∷ [])
    ∙ ap (λ cs. cs ++ f.counts ∷ []) so_far
    ∙ ap (λ (c : FileCounts). counts_at counts (take i chosen) ++ c ∷ []) is
    ∙ sym (ap (counts_at counts) (take_more chosen i d within) ∙ map-append (λ file. slice_index_or counts file no_counts) (take i chosen) (get_or chosen i d ∷ []))

pub as_many_chosen : (files : List FileLines) (counts : List FileCounts) (chosen : List ℕ) → counts_of files ≡ counts_at counts chosen → length files ≡ length chosen
as_many_chosen files counts chosen is = sym (length-map files (λ f. f.counts)) ∙ ap length is ∙ length-map chosen (λ file. slice_index_or counts file no_counts)

pub small_chosen : (counts : List FileCounts) (chosen : List ℕ) → All AreSmall counts → All (λ file. file < length counts) chosen → All AreSmall (counts_at counts chosen)
small_chosen counts chosen small inside = All-map AreSmall (λ file. slice_index_or counts file no_counts) chosen (λ k d lt. All-get_or AreSmall counts (get_or chosen k d) no_counts (inside k d lt) small)

-- ---- the extents in them

pub chosen_with : (chosen : List ℕ) (e : Extent) (es : List Extent) → list_any (nat_eq e.file) chosen ≡ true → es ++ e ∷ [] ≡ es ++ filter (is_in_chosen chosen) (e ∷ [])
chosen_with chosen e es is = ap (λ (b : Bool). es ++ cond b (e ∷ []) []) (sym is)

pub chosen_without : (chosen : List ℕ) (e : Extent) (es : List Extent) → list_any (nat_eq e.file) chosen ≡ false → es ≡ es ++ filter (is_in_chosen chosen) (e ∷ [])
chosen_without chosen e es is = sym (append-nil es) ∙ ap (λ (b : Bool). es ++ cond b (e ∷ []) []) (sym is)

pub places_more : (p : Extent → Bool) (f : Place → Extent) (old now next : List Extent) (ps : List Place) (i : ℕ) (d : Place) → i < length ps → now ≡ old ++ filter p (map f (take i ps))
    → next ≡ now ++ filter p (f (get_or ps i d) ∷ []) → next ≡ old ++ filter p (map f (take (i + 1) ps))
places_more p f old now next ps i d within so_far is =
    is
    ∙ ap (λ es. es ++ filter p (f (get_or ps i d) ∷ [])) so_far
    ∙ append_assoc old (filter p (map f (take i ps))) (filter p (f (get_or ps i d) ∷ []))
    ∙ ap (λ es. old ++ es) (sym (ap (λ qs. filter p (map f qs)) (take_more ps i d within) ∙ ap (filter p) (map-append f (take i ps) (get_or ps i d ∷ [])) ∙ filter-append p (map f (take i ps)) (map f (get_or ps i d ∷ []))))

pub groups_more : (p : Extent → Bool) (h : Group → List Extent) (now next : List Extent) (gs : List Group) (i : ℕ) (d : Group) → i < length gs → now ≡ filter p (flat_map h (take i gs))
    → next ≡ now ++ filter p (h (get_or gs i d)) → next ≡ filter p (flat_map h (take (i + 1) gs))
groups_more p h now next gs i d within so_far is =
    is
    ∙ ap (λ es. es ++ filter p (h (get_or gs i d))) so_far
    ∙ sym (ap (λ qs. filter p (flat_map h qs)) (take_more gs i d within) ∙ ap (filter p) (flat_map-append h (take i gs) (get_or gs i d ∷ [])) ∙ filter-append p (flat_map h (take i gs)) (flat_map h (get_or gs i d ∷ [])) ∙ ap (λ es. filter p (flat_map h (take i gs)) ++ filter p es) (append-nil (h (get_or gs i d))))

-- ---- all files, and one

all_pass : (p : Extent → Bool) (es : List Extent) → All (λ e. p e ≡ true) es → filter p es ≡ es
all_pass p [] pass = refl
all_pass p (e ∷ es) pass = ap (λ (b : Bool). cond b (e ∷ filter p es) (filter p es)) (All-head (λ e. p e ≡ true) e es pass) ∙ ap (λ xs. e ∷ xs) (all_pass p es (All-tail (λ e. p e ≡ true) e es pass))

in_all : (n file : ℕ) → file < n → list_any (nat_eq file) (range_with_len 0 n) ≡ true
in_all n file within =
    let as_many = length-range_with_len 0 n in
    let here = get_or-range_with_len 0 n file 0 within in
    list_any_at (nat_eq file) (range_with_len 0 n) file 0 (omega (arith, as_many, within)) (eq-eqb file (get_or (range_with_len 0 n) file 0) (omega (arith, here)))

pub all_are_the_project : AllChosenAreTheProject
all_are_the_project = λ counts spans groups as_many inside.
    let n = length counts in
    let es = extents_of spans groups in
    let below : AreBelow n es = extents_below n spans groups (omega (arith, as_many)) inside in
    let counts_are : counts_at counts (range_with_len 0 n) ≡ counts = sym (fill_by_all (λ file. slice_index_or counts file no_counts) counts n no_counts refl (λ k lt. refl)) in
    let extents_are : filter (is_in_chosen (range_with_len 0 n)) es ≡ es = all_pass (is_in_chosen (range_with_len 0 n)) es (All-weaker (λ e. e.file < n) (λ e. is_in_chosen (range_with_len 0 n) e ≡ true) (λ e lt. in_all n e.file lt) es below) in
    ap (λ k. measures_of k (total (counts_at counts (range_with_len 0 n))) (filter (is_in_chosen (range_with_len 0 n)) es)) (length-range_with_len 0 n)
    ∙ ap (λ cs. measures_of n (total cs) (filter (is_in_chosen (range_with_len 0 n)) es)) counts_are
    ∙ ap (λ xs. measures_of n (total counts) xs) extents_are

one_sum : (g : FileCounts → ℕ) (c : FileCounts) → sum_by g (c ∷ []) ≡ g c
one_sum g c = let h = sum_by-cons g c [] in omega (arith, h)

total_of_one : (c : FileCounts) → total (c ∷ []) ≡ c
total_of_one c = λ i. record {
  lines = one_sum (λ d. d.lines) c i;
  ncloc = one_sum (λ d. d.ncloc) c i;
  complexity = one_sum (λ d. d.complexity) c i;
}

or_nothing : (b : Bool) → (b || false) ≡ b
or_nothing true = refl
or_nothing false = refl

pub one_is_the_file : OneChosenIsTheFile
one_is_the_file = λ counts spans file groups.
    let es = extents_of spans groups in
    ap (λ (c : FileCounts). measures_of 1 c (filter (is_in_chosen (file ∷ [])) es)) (total_of_one (slice_index_or counts file no_counts))
    ∙ ap (measures_of 1 (slice_index_or counts file no_counts)) (filter_agree (is_in_chosen (file ∷ [])) (λ e. nat_eq e.file file) (λ e. or_nothing (nat_eq e.file file)) es)

-- Extents that were put in order, each once: they cover the same lines, and are in the same files.
use Rattle.std.proofs.Common.{◌≡◌, ◌↔◌, ◌<◌, ℕ, Bool, true, false, ◌||◌, List, [], ◌∷◌, length, map, Contains, refl, sym, ap, ◌∙◌, arith}
use Rattle.std.specs.Prelude.{◌==◌}
use Rattle.std.proofs.lemmas.List.Elements.{All-contains_itself, All-contains, All-weaker}
use Rattle.std.proofs.lemmas.List.Folds.{Any-from_list_any, list_any-from_Any}
use Rattle.std.proofs.lemmas.Map.Keys.{IsDistinct-cons, sorted_head, sorted_tail}
use Rattle.std.proofs.lemmas.Map.Made.{length-from_keys}
use Rattle.std.specs.List.{AllByRecursion, IsDistinct, flat_map, list_any}
use Rattle.std.specs.declared.cmp.Ordering.TheVariants.{Less}
use Rattle.cq_measures.specs.declared.extent.Extent.{Extent}
use Rattle.cq_measures.specs.Extents.{same_extent, lines_of, covered_lines, different_extents, files_touched}
use Rattle.cq_measures.specs.Sorted.{extent_cmp, AreInOrder, AreBelow, AreIn, IsOneOfEach}
use Rattle.cq_measures.proofs.Lines.{covers, member-flat_map}
use Rattle.cq_measures.proofs.Order.{same_extent-laws}
use Rattle.cq_measures.proofs.Sweep.{new_count-is, new_count-of, new_files-is, new_files-of}

bool_same : (a b : Bool) → (a ≡ true → b ≡ true) → (b ≡ true → a ≡ true) → a ≡ b
bool_same true b to from = sym (to refl)
bool_same false true to from = from refl
bool_same false false to from = refl

-- lists of the same elements pass a test alike
any_in : {X : Type 0} (p : X → Bool) (xs ys : List X) → ((x : X) → Contains xs x → Contains ys x) → list_any p xs ≡ true → list_any p ys ≡ true
any_in p xs ys within h =
    let (k, x, inside, is, passes) = Any-from_list_any p xs h in
    let (j, in_ys, at_ys) = within x (k, inside, is) in
    list_any-from_Any p ys (j, x, in_ys, at_ys, passes)

any_same : {X : Type 0} (p : X → Bool) (xs ys : List X) → ((x : X) → Contains ys x ↔ Contains xs x) → list_any p ys ≡ list_any p xs
any_same p xs ys each = bool_same _ _ (any_in p ys xs (λ x. (each x).0)) (any_in p xs ys (λ x. (each x).1))

any_map : {X Y : Type 0} (p : Y → Bool) (f : X → Y) (xs : List X) → list_any p (map f xs) ≡ list_any (λ x. p (f x)) xs
any_map p f [] = refl
any_map p f (x ∷ xs) = ap (λ b. p (f x) || b) (any_map p f xs)

-- sorted, no two are the same
distinct_in_order : (es : List Extent) → AreInOrder es → IsDistinct same_extent es
unfolding IsDistinct
distinct_in_order [] o = tt
distinct_in_order (e ∷ es) o = IsDistinct-cons same_extent e es (others e es (sorted_head extent_cmp e es o)) (distinct_in_order es (sorted_tail extent_cmp e es o))
  where
    apart : (a b : Extent) → extent_cmp a b ≡ Less → same_extent a b ≡ false
    apart a b h = grind arith

    others : (e : Extent) (es : List Extent) → AllByRecursion (λ f. extent_cmp e f ≡ Less) es → AllByRecursion (λ f. same_extent e f ≡ false) es
    others e [] h = h
    others e (f ∷ es) h = (apart e f h.0, others e es h.1)

pub below_same : (n : ℕ) (xs ys : List Extent) → IsOneOfEach xs ys → AreBelow n xs → AreBelow n ys
below_same n xs ys once below = All-weaker (λ e. Contains ys e) (λ e. e.file < n) (λ e here. All-contains (λ f. f.file < n) xs e below ((once.each e).0 here)) ys (All-contains_itself ys)

pub alone_same : (file : ℕ) (xs ys : List Extent) → IsOneOfEach xs ys → AreIn file xs → AreIn file ys
alone_same file xs ys once are = All-weaker (λ e. Contains ys e) (λ e. e.file ≡ file) (λ e here. All-contains (λ f. f.file ≡ file) xs e are ((once.each e).0 here)) ys (All-contains_itself ys)

pub lines_same : (xs ys : List Extent) → IsOneOfEach xs ys → covered_lines ys ≡ covered_lines xs
lines_same xs ys once = sym (new_count-is ys once.ordered) ∙ new_count-of ys once.ordered (flat_map lines_of xs) (λ q. member-flat_map xs q ∙ sym (any_same (covers q) xs ys once.each))

pub extents_same : (xs ys : List Extent) → IsOneOfEach xs ys → length ys ≡ different_extents xs
extents_same xs ys once = length-from_keys same_extent-laws ys xs (distinct_in_order ys once.ordered) (λ q. any_same (same_extent q) xs ys once.each)

pub files_same : (xs ys : List Extent) → IsOneOfEach xs ys → files_touched ys ≡ files_touched xs
files_same xs ys once = sym (new_files-is ys once.ordered) ∙ new_files-of ys once.ordered (map (λ e. e.file) xs) (λ q. any_map (λ f. q == f) (λ e. e.file) xs ∙ sym (any_same (λ e. q == e.file) xs ys once.each) ∙ sym (any_map (λ f. q == f) (λ e. e.file) ys))

-- Which files a query chooses of those of a version, and what their measures are where it chooses all.
use Rattle.std.proofs.Common.{◌≡◌, ℕ, zero, suc, ◌<◌, Bool, true, false, ◌&&◌, cond, Option, Some, None, List, [], ◌∷◌, length, get_or, map, filter, nat_lt, refl, sym, ap, ap₂, ◌∙◌, arith}
use Rattle.std.specs.Prelude.{All}
use Rattle.std.specs.List.{range_with_len}
use Rattle.std.proofs.lemmas.Bool.{lt-ltb}
use Rattle.std.proofs.lemmas.List.{length-map}
use Rattle.std.proofs.lemmas.List.Elements.{All-head, All-tail}
use Rattle.std.proofs.lemmas.List.FromFn.{get_or-range_with_len, length-range_with_len}
use Rattle.cq_base.specs.declared.group.Group.{Group}
use Rattle.cq_base.specs.declared.lang.Lang.{Lang}
use Rattle.cq_board.specs.Related.{AreSameFiles}
use Rattle.cq_history.specs.Files.{File}
use Rattle.cq_history.proofs.Numbers.{same_number}
use Rattle.cq_measures.specs.Measures.{AreGroupsInside, chosen_measures, project_measures}
use Rattle.cq_measures.proofs.Chosen.{all_are_the_project}
use Rattle.cq_request.specs.declared.request.Query.{Query}
use Rattle.cq_scope.specs.Chosen.{is_in_scope, is_chosen_at, chosen}
use Rattle.cq_work.specs.declared.work.Work.{Work}
use Rattle.cq_answer.specs.Parts.{chooses_all}
use Rattle.cq_answer.specs.Rows.{measures_of, chosen_of}
use Rattle.cq_answer.specs.Works.{spans_in, counts_in, facts_in, chosen_in, AreNumbered}
use Rattle.cq_answer.specs.declared.part.Part.TheVariants as part

-- of two lists of the same files the same are chosen
pub same_choice : {X Y : Type 0} (Body : Lang → X → Y → Type 0) (scope : Option (List ℕ)) (since : ℕ) (xs : List (File X)) (ys : List (File Y)) → AreSameFiles Body xs ys
    → (i : ℕ) → is_chosen_at scope since ys i ≡ is_chosen_at scope since xs i
same_choice Body scope since [] [] same i = refl
same_choice Body scope since [] (y ∷ ys) same i = absurd same
same_choice Body scope since (x ∷ xs) [] same i = absurd same
same_choice Body scope since (x ∷ xs) (y ∷ ys) same zero = sym (ap₂ (λ (n : ℕ) (p : List ℕ). nat_lt since n && is_in_scope scope p) same.0.number same.0.path)
same_choice Body scope since (x ∷ xs) (y ∷ ys) same (suc i) = same_choice Body scope since xs ys same.1 i

-- their positions, told by as many files as there are counts
pub chosen_numbers : {L : Type 0} (files : List (File (Work L))) (q : Query) → chosen q.scope q.since files ≡ chosen_of (facts_in files) (chosen_in files q)
chosen_numbers {L} files q = ap (λ n. filter (chosen_in files q) (range_with_len 0 n)) (sym (length-map files (λ (f : File (Work L)). f.body.counts)))

-- ---- where all are chosen

put_later : (since number : ℕ) → since ≡ 0 → 0 < number → (nat_lt since number && true) ≡ true
put_later since number first put = ap (λ (b : Bool). b && true) (lt-ltb since number (omega (arith, first, put)))

-- without a scope, and from 0 on
each_put : {X : Type 0} (since : ℕ) → since ≡ 0 → (files : List (File X)) (i : ℕ) → All (λ n. 0 < n) (map (λ (f : File X). f.number) files) → i < length files → is_chosen_at None since files i ≡ true
each_put since first [] i numbered within = absurd (omega (arith, within))
each_put {X} since first (f ∷ files) zero numbered within = put_later since f.number first (All-head (λ n. 0 < n) f.number (map (λ (g : File X). g.number) files) numbered)
each_put {X} since first (f ∷ files) (suc i) numbered within = each_put since first files i (All-tail (λ n. 0 < n) f.number (map (λ (g : File X). g.number) files) numbered) (omega (arith, within))

each_chosen : {X : Type 0} (scope : Option (List ℕ)) (since : ℕ) → chooses_all scope since ≡ true → (files : List (File X)) (i : ℕ) → All (λ n. 0 < n) (map (λ (f : File X). f.number) files) → i < length files
    → is_chosen_at scope since files i ≡ true
each_chosen (Some s) since all files i numbered within = let bad : false ≡ true = all in absurd (cc)
each_chosen None since all files i numbered within = each_put since (same_number since 0 all) files i numbered within

all_kept : (is : ℕ → Bool) (xs : List ℕ) → All (λ x. is x ≡ true) xs → filter is xs ≡ xs
all_kept is [] pass = refl
all_kept is (x ∷ xs) pass = ap (λ (b : Bool). cond b (x ∷ filter is xs) (filter is xs)) (All-head (λ y. is y ≡ true) x xs pass) ∙ ap (λ ys. x ∷ ys) (all_kept is xs (All-tail (λ y. is y ≡ true) x xs pass))

every_number : (is : ℕ → Bool) (n : ℕ) → ((i : ℕ) → i < n → is i ≡ true) → filter is (range_with_len 0 n) ≡ range_with_len 0 n
every_number is n each = all_kept is (range_with_len 0 n) (λ k d within.
    let as_many = length-range_with_len 0 n in
    let low : k < n = omega (arith, within, as_many) in
    let at = get_or-range_with_len 0 n k d low in
    let here : get_or (range_with_len 0 n) k d ≡ k = omega (arith, at) in
    ap is here ∙ each k low)

-- the measures of the whole are those of the project
pub whole_of_all : {L : Type 0} (files : List (File (Work L))) (q : Query) (groups : List Group) → chooses_all q.scope q.since ≡ true → AreNumbered files → AreGroupsInside (spans_in files) groups
    → measures_of (facts_in files) groups (chosen_in files q) part.Whole ≡ project_measures (counts_in files) (spans_in files) groups
whole_of_all {L} files q groups all numbered inside =
    let counts = counts_in files in
    let spans = spans_in files in
    let many : length counts ≡ length files = length-map files (λ (f : File (Work L)). f.body.counts) in
    let alike : length spans ≡ length counts = length-map files (λ (f : File (Work L)). f.body.spans.items) ∙ sym many in
    let every = every_number (chosen_in files q) (length counts) (λ i low. each_chosen q.scope q.since all files i numbered (omega (arith, low, many))) in
    ap (λ ks. chosen_measures counts spans ks groups) every ∙ all_are_the_project counts spans groups alike inside

-- The places of groups, parted among the files: the lists as they grow, and the extents of a file's runs.
use Rattle.std.proofs.Common.{◌≡◌, ℕ, zero, suc, ◌+◌, ◌<◌, ◌≤◌, cond, Bool, true, false, ◌||◌, ⊎_elim, List, [], ◌∷◌, ◌++◌, length, map, filter, get_or, set, Contains, refl, sym, ap, ap₂, ◌∙◌, subst, arith, append-nil, append_assoc}
use Rattle.std.proofs.lemmas.Bool.{cases_eq, eq-eqb, ne_eqb}
use Rattle.std.specs.Prelude.{◌==◌, All, slice_index_or}
use Rattle.std.specs.Set.{is_member, unique_keys, distinct_count}
use Rattle.std.proofs.lemmas.List.{length-set, get_or-set_same, get_or-set_other, map-append}
use Rattle.std.proofs.lemmas.List.Elements.{All-nil, All-head, All-tail, All-cons, All-append, All-map, All-weaker, All-contains_itself, Contains-append_right, filter-append}
use Rattle.cq_base.specs.declared.token.Token.{Token}
use Rattle.cq_base.specs.declared.group.Place.{Place}
use Rattle.cq_base.specs.declared.group.Group.{Group}
use Rattle.cq_measures.specs.declared.extent.Extent.{Extent}
use Rattle.cq_measures.specs.declared.parting.Run.{Run}
use Rattle.cq_measures.specs.Extents.{files_touched}
use Rattle.cq_measures.specs.Measures.{extent_of, group_extents, extents_of, IsInside, AreGroupsInside}
use Rattle.cq_measures.specs.Parted.{group_runs, runs_in, AreLonger, extent_of_run, IsRunInside, AreRunsInside, ArePlacesBelow, AreAllBelow}
use Rattle.cq_measures.specs.Sorted.{AreIn, AreBelow}

-- ---- the lists as they grow

abbrev run : ℕ → Place → Run
run tokens p = record { at = p.at; tokens = tokens }

-- a place more of a group comes after the runs of its file
one_more : (i tokens : ℕ) (places : List Place) (p : Place) → group_runs i tokens (places ++ p ∷ []) ≡ group_runs i tokens places ++ cond (p.file == i) (record { at = p.at; tokens = tokens } ∷ []) []
one_more i tokens places p =
    ap (map (run tokens)) (filter-append (λ p. p.file == i) places (p ∷ []))
    ∙ map-append (run tokens) (filter (λ p. p.file == i) places) (filter (λ p. p.file == i) (p ∷ []))
    ∙ ap (λ l. group_runs i tokens places ++ l) (by (p.file == i))
  where
    by : (b : Bool) → map (run tokens) (cond b (p ∷ []) []) ≡ cond b (record { at = p.at; tokens = tokens } ∷ []) []
    by true = refl
    by false = refl

pub place_longer : (tokens : ℕ) (places : List Place) (p : Place) (old parts more : List (List Run)) → p.file < length parts →
    (let r : Run = record { at = p.at; tokens = tokens } in more ≡ set parts p.file (get_or parts p.file [] ++ r ∷ [])) →
    AreLonger (λ i. group_runs i tokens places) old parts → AreLonger (λ i. group_runs i tokens (places ++ p ∷ [])) old more
place_longer tokens places p old parts more within is are =
    let r : Run = record { at = p.at; tokens = tokens } in
    let mine = p.file in
    let longer = get_or parts mine [] ++ r ∷ [] in
    record {
      as_many = ap length is ∙ length-set parts mine longer ∙ are.as_many;
      each = λ i d lt.
          let number = are.as_many in
          ap (λ ps. get_or ps i d) is ∙ ⊎_elim
          (λ (same : i ≡ mine).
          ap (λ k. get_or (set parts k (get_or parts k [] ++ r ∷ [])) i d) (sym same)
          ∙ get_or-set_same parts i (get_or parts i [] ++ r ∷ []) d (omega (arith, lt, number))
          ∙ ap (λ l. l ++ r ∷ []) (are.each i [] lt ∙ ap (λ l. l ++ group_runs i tokens places) (any_default d old i lt))
          ∙ append_assoc (get_or old i d) (group_runs i tokens places) (r ∷ [])
          ∙ ap (λ l. get_or old i d ++ l) (sym (one_more i tokens places p ∙ ap (λ b. group_runs i tokens places ++ cond b (r ∷ []) []) (eq-eqb mine i (sym same)))))
          (λ other.
          get_or-set_other parts mine i longer d other
          ∙ are.each i d lt
          ∙ ap (λ l. get_or old i d ++ l) (sym (one_more i tokens places p ∙ ap (λ b. group_runs i tokens places ++ cond b (r ∷ []) []) (ne_eqb mine i (λ same. other (sym same))) ∙ append-nil (group_runs i tokens places))))
          (cases_eq i mine);
    }
  where
    any_default : (d : List Run) (xs : List (List Run)) (i : ℕ) → i < length xs → get_or xs i [] ≡ get_or xs i d
    any_default d [] i lt = absurd (omega arith)
    any_default d (x ∷ xs) zero lt = refl
    any_default d (x ∷ xs) (suc i) lt = any_default d xs i (omega (arith, lt))

-- ---- the extents of a file's runs

group_is : (spans : List (List Token)) (i tokens : ℕ) (places : List Place) → map (extent_of_run (slice_index_or spans i []) i) (group_runs i tokens places) ≡ filter (λ e. e.file == i) (map (extent_of spans tokens) places)
group_is spans i tokens [] = refl
group_is spans i tokens (p ∷ places) = by (p.file == i) refl (group_is spans i tokens places)
  where
    by : (b : Bool) → (p.file == i) ≡ b → map (extent_of_run (slice_index_or spans i []) i) (group_runs i tokens places) ≡ filter (λ e. e.file == i) (map (extent_of spans tokens) places) →
        map (extent_of_run (slice_index_or spans i []) i) (map (run tokens) (cond b (p ∷ filter (λ p. p.file == i) places) (filter (λ p. p.file == i) places))) ≡ cond b (extent_of spans tokens p ∷ filter (λ e. e.file == i) (map (extent_of spans tokens) places)) (filter (λ e. e.file == i) (map (extent_of spans tokens) places))
    by true is more = ap₂ (λ e es. e ∷ es) (ap (λ k. extent_of_run (slice_index_or spans k []) k (record { at = p.at; tokens = tokens })) (sym (same p.file i is))) more
      where
        same : (a b : ℕ) → (a == b) ≡ true → a ≡ b
        same a b h = grind arith
    by false is more = more

-- they are those of all extents that are in the file
pub runs_are_extents : (spans : List (List Token)) (i : ℕ) (groups : List Group) → map (extent_of_run (slice_index_or spans i []) i) (runs_in i groups) ≡ filter (λ e. e.file == i) (extents_of spans groups)
runs_are_extents spans i [] = refl
runs_are_extents spans i (g ∷ groups) =
    map-append (extent_of_run (slice_index_or spans i []) i) (group_runs i g.tokens g.places) (runs_in i groups)
    ∙ ap₂ (λ a b. a ++ b) (group_is spans i g.tokens g.places) (runs_are_extents spans i groups)
    ∙ sym (filter-append (λ e. e.file == i) (group_extents spans g) (extents_of spans groups))

-- in their file
pub runs_alone : (spans : List Token) (i : ℕ) (runs : List Run) → AreIn i (map (extent_of_run spans i) runs)
runs_alone spans i runs = All-map (λ e. e.file ≡ i) (extent_of_run spans i) runs (λ k d lt. refl)

pub runs_below : (n : ℕ) (spans : List Token) (i : ℕ) (runs : List Run) → i < n → AreBelow n (map (extent_of_run spans i) runs)
runs_below n spans i runs low = All-map (λ e. e.file < n) (extent_of_run spans i) runs (λ k d lt. low)

-- one file at most
all_one : (i : ℕ) (ns : List ℕ) → All (λ n. n ≡ i) ns → distinct_count (λ a b. a == b) ns ≤ 1
all_one i [] are = omega arith
all_one i (n ∷ []) are = omega arith
all_one i (n ∷ m ∷ ns) are =
    let first = All-head (λ n. n ≡ i) n (m ∷ ns) are in
    let rest = All-tail (λ n. n ≡ i) n (m ∷ ns) are in
    let second = All-head (λ n. n ≡ i) m ns rest in
    rw (ap (λ b. length (cond (b || is_member (λ a b. a == b) ns n) (unique_keys (λ a b. a == b) (m ∷ ns)) (n ∷ unique_keys (λ a b. a == b) (m ∷ ns)))) (eq-eqb n m (first ∙ sym second))) (all_one i (m ∷ ns) rest)

pub alone_touched : (i : ℕ) (es : List Extent) → AreIn i es → files_touched es ≤ 1
alone_touched i es are = all_one i (map (λ e. e.file) es) (All-map (λ n. n ≡ i) (λ e. e.file) es are)

-- ---- what lies inside

group_inside : (spans : List (List Token)) (i tokens : ℕ) (places : List Place) → 1 ≤ tokens → All (IsInside spans tokens) places → AreRunsInside (slice_index_or spans i []) (group_runs i tokens places)
group_inside spans i tokens [] some inside = All-nil (IsRunInside (slice_index_or spans i []))
group_inside spans i tokens (p ∷ places) some inside = by (p.file == i) refl (group_inside spans i tokens places some (All-tail (IsInside spans tokens) p places inside))
  where
    same : (a b : ℕ) → (a == b) ≡ true → a ≡ b
    same a b h = grind arith

    by : (b : Bool) → (p.file == i) ≡ b → AreRunsInside (slice_index_or spans i []) (group_runs i tokens places) →
        AreRunsInside (slice_index_or spans i []) (map (run tokens) (cond b (p ∷ filter (λ p. p.file == i) places) (filter (λ p. p.file == i) places)))
    by true is more = All-cons (IsRunInside (slice_index_or spans i [])) (record { at = p.at; tokens = tokens }) (group_runs i tokens places) (some, subst (λ k. p.at + tokens ≤ length (slice_index_or spans k [])) (same p.file i is) (All-head (IsInside spans tokens) p places inside).1) more
    by false is more = more

pub runs_inside : (spans : List (List Token)) (i : ℕ) (groups : List Group) → AreGroupsInside spans groups → AreRunsInside (slice_index_or spans i []) (runs_in i groups)
runs_inside spans i [] inside = All-nil (IsRunInside (slice_index_or spans i []))
runs_inside spans i (g ∷ groups) inside =
    let here = inside g (0, omega arith, refl) in
    All-append (IsRunInside (slice_index_or spans i [])) (group_runs i g.tokens g.places) (runs_in i groups)
    (group_inside spans i g.tokens g.places here.0 (All-weaker (λ p. Contains g.places p) (IsInside spans g.tokens) (λ p at. here.1 p at) g.places (All-contains_itself g.places)))
    (runs_inside spans i groups (λ h there. inside h (Contains-append_right (g ∷ []) groups h there)))

pub all_below_files : (files : ℕ) (spans : List (List Token)) (groups : List Group) → length spans ≡ files → AreGroupsInside spans groups → AreAllBelow files groups
all_below_files files spans groups as_many inside =
    All-weaker (Contains groups) (ArePlacesBelow files) (λ g here. All-weaker (Contains g.places) (λ p. p.file < files) (λ p at. low p.file ((inside g here).1 p at).0) g.places (All-contains_itself g.places)) groups (All-contains_itself groups)
  where
    low : (n : ℕ) → n < length spans → n < files
    low n h = omega (arith, h, as_many)

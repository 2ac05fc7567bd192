-- The entries with a key in a run: they stand together, after those with lesser keys.
use Rattle.std.proofs.Common.{◌≡◌, ◌≢◌, ℕ, ◌+◌, ◌-◌, ◌<◌, ◌≤◌, Bool, true, false, cond, nat_lt, List, [], ◌∷◌, ◌++◌, length, take, drop, filter, get_or, refl, sym, ap, ◌∙◌, subst, subst₂, ⊎_elim, arith}
use Rattle.std.specs.Prelude.{All, Contains}
use Rattle.std.specs.List.{AllWithin}
use Rattle.std.specs.List.Sorted.{IsPartitionedBy}
use Rattle.std.proofs.lemmas.Bool.{cases_order, cases_eq, cases_lt, false_from_ne_true}
use Rattle.std.proofs.lemmas.List.{drop_more, take-append-drop, take_all, get_or-take, get_or-drop, get_or_default, length-take, length-drop}
use Rattle.std.proofs.lemmas.List.Elements.{All-contains, filter-append}
use Rattle.cq_base.specs.declared.entry.Entry.{Entry}
use Rattle.cq_base.proofs.Lists.{Contains-here, Contains-there, Contains-cases, AllPairs-head}
use Rattle.cq_clones.proofs.Words.{length-word, get_or-word}
use Rattle.cq_shard.specs.Shard.{is_asked}
use Rattle.cq_shard.specs.Runs.{RowBefore, IsRun, IsNear}
use Rattle.cq_shard.proofs.RowOrder.{RowBefore-keys}
use Rattle.cq_shard.proofs.Entries.{asked_is}

pub none_kept : {X : Type 0} (p : X → Bool) (xs : List X) → ((x : X) → Contains xs x → p x ≡ false) → filter p xs ≡ []
none_kept p [] none = refl
none_kept p (x ∷ xs) none = ap (λ b. cond b (x ∷ filter p xs) (filter p xs)) (none x (Contains-here x xs)) ∙ none_kept p xs (λ z c. none z (Contains-there x z xs c))

other_key : (key : ℕ) (live : List ℕ) (e : Entry) → e.key ≢ key → is_asked key live e ≡ false
other_key key live e other = false_from_ne_true (is_asked key live e) (λ h. other (asked_is key live e h).0)

-- in a run the entries with a lesser key stand in front
pub parted : (rows : List Entry) (key : ℕ) → IsRun rows → IsPartitionedBy (λ e. nat_lt e.key key) rows
parted rows key run i j d low within later =
    ⊎_elim
    (λ e. subst (λ k. nat_lt (get_or rows k d).key key ≡ true) (sym e) later)
    (λ other. ⊎_elim
    (λ lt. let up = RowBefore-keys (get_or rows i d) (get_or rows j d) (run i j d lt within) in grind arith)
    (λ more. absurd (omega (arith, low, more)))
    other)
    (cases_order i j)

-- a part of a run is one
run_front : (rows : List Entry) (n : ℕ) → IsRun rows → IsRun (take n rows)
run_front rows n run j k d lt within =
    let many = length-take n rows in
    let short : k < n = omega (arith, many, within) in
    subst₂ RowBefore (sym (get_or-take n rows j d (omega (arith, lt, short)))) (sym (get_or-take n rows k d short)) (run j k d lt (omega (arith, many, within)))

pub run_behind : (rows : List Entry) (i : ℕ) → IsRun rows → IsRun (drop i rows)
run_behind rows i run j k d lt within =
    let many = length-drop i rows in
    subst₂ RowBefore (sym (get_or-drop i rows j d)) (sym (get_or-drop i rows k d)) (run (i + j) (i + k) d (omega (arith, lt)) (omega (arith, many, within)))

-- so one with a lesser key has lesser ones before it, and one with no lesser key no lesser ones after it
before_lesser : (rows : List Entry) (key at : ℕ) (d : Entry) → IsRun rows → at < length rows → (get_or rows at d).key < key → AllWithin (λ e. e.key < key) rows 0 (at + 1)
before_lesser rows key at d run within lesser k z low lt =
    let here : get_or rows at z ≡ get_or rows at d = get_or_default rows at z d within in
    let is : nat_lt (get_or rows at z).key key ≡ true = subst (λ (e : Entry). nat_lt e.key key ≡ true) (sym here) (grind arith) in
    let front = parted rows key run k at z (omega (arith, lt)) within is in
    grind arith

behind_other : (rows : List Entry) (key at : ℕ) (d : Entry) → IsRun rows → at < length rows → key ≤ (get_or rows at d).key → AllWithin (λ e. key ≤ e.key) rows at (length rows)
behind_other rows key at d run within other k z low lt =
    let here : get_or rows at z ≡ get_or rows at d = get_or_default rows at z d within in
    let from : key ≤ (get_or rows at z).key = subst (λ (e : Entry). key ≤ e.key) (sym here) other in
    ⊎_elim
    (λ (same : at ≡ k). subst (λ n. key ≤ (get_or rows n z).key) same from)
    (λ differ. let up = RowBefore-keys (get_or rows at z) (get_or rows k z) (run at k z (omega (arith, low, differ)) lt) in omega (arith, from, up))
    (cases_eq at k)

-- ---- a search goes on

pub near_first : (rows : List Entry) (key : ℕ) → IsNear rows key 0 (length rows)
near_first rows key = record {
  within = (omega arith, omega arith);
  lesser = λ k d low lt. absurd (omega (arith, lt));
  others = λ k d low lt. absurd (omega (arith, low, lt));
}

pub near_behind : (rows : List Entry) (key from to at : ℕ) (d : Entry) → IsRun rows → IsNear rows key from to → at < to → (get_or rows at d).key < key → IsNear rows key (at + 1) to
near_behind rows key from to at d run near before lesser = record {
  within = (omega (arith, before), near.within.1);
  lesser = before_lesser rows key at d run (let most = near.within.1 in omega (arith, before, most)) lesser;
  others = near.others;
}

pub near_before : (rows : List Entry) (key from to at : ℕ) (d : Entry) → IsRun rows → IsNear rows key from to → from ≤ at → at < to → key ≤ (get_or rows at d).key → IsNear rows key from at
near_before rows key from to at d run near low before other =
    let within : at < length rows = let most = near.within.1 in omega (arith, before, most) in
    record {
      within = (low, omega (arith, within));
      lesser = near.lesser;
      others = behind_other rows key at d run within other;
    }

-- ---- and ends

-- by halves, among the entries between
module _ (rows : List Entry) (key from to n : ℕ) (near : IsNear rows key from to) (bound : n ≤ length (take (to - from) (drop from rows))) where
  short : n ≤ to - from
  short = let many = length-word rows from (to - from) (let w = near.within in omega (arith, w.0, w.1)) in omega (arith, bound, many)

  pub found_lesser : AllWithin (λ e. nat_lt e.key key ≡ true) (take (to - from) (drop from rows)) 0 n → All (λ e. e.key < key) (take (from + n) rows)
  found_lesser is k d within =
      let lt : k < from + n = (let many = length-take (from + n) rows in omega (arith, many, within)) in
      subst (λ (e : Entry). e.key < key) (sym (get_or-take (from + n) rows k d lt)) (⊎_elim
      (λ before. near.lesser k d (omega arith) before)
      (λ behind.
      let there : k - from < n = omega (arith, lt, behind) in
      let read = is (k - from) d (omega arith) there in
      let same : get_or (take (to - from) (drop from rows)) (k - from) d ≡ get_or rows k d =
      get_or-word rows from (to - from) (k - from) d (let s = short in omega (arith, there, s)) ∙ ap (λ i. get_or rows i d) (omega (arith, behind)) in
      let here : nat_lt (get_or rows k d).key key ≡ true = subst (λ (e : Entry). nat_lt e.key key ≡ true) same read in
      grind arith)
      (cases_lt k from))

  pub found_others : AllWithin (λ e. nat_lt e.key key ≡ false) (take (to - from) (drop from rows)) n (length (take (to - from) (drop from rows))) → All (λ e. key ≤ e.key) (drop (from + n) rows)
  found_others is k d within =
      let lt : from + n + k < length rows = (let many = length-drop (from + n) rows in omega (arith, many, within)) in
      subst (λ (e : Entry). key ≤ e.key) (sym (get_or-drop (from + n) rows k d)) (⊎_elim
      (λ (before : from + n + k < to).
      let there : n + k < to - from = omega (arith, before) in
      let many = length-word rows from (to - from) (let w = near.within in omega (arith, w.0, w.1)) in
      let read = is (n + k) d (omega arith) (omega (arith, there, many)) in
      let same : get_or (take (to - from) (drop from rows)) (n + k) d ≡ get_or rows (from + n + k) d =
      get_or-word rows from (to - from) (n + k) d there ∙ ap (λ i. get_or rows i d) (omega arith) in
      let here : nat_lt (get_or rows (from + n + k) d).key key ≡ false = subst (λ (e : Entry). nat_lt e.key key ≡ false) same read in
      grind arith)
      (λ (behind : to ≤ from + n + k). near.others (from + n + k) d behind lt)
      (cases_lt (from + n + k) to))

pub parted_between : (rows : List Entry) (key from n : ℕ) → IsRun rows → IsPartitionedBy (λ e. nat_lt e.key key) (take n (drop from rows))
parted_between rows key from n run = parted (take n (drop from rows)) key (run_front (drop from rows) n (run_behind rows from run))

-- so those asked for are all after them
pub asked_behind : (rows : List Entry) (i key : ℕ) (live : List ℕ) → All (λ e. e.key < key) (take i rows) → filter (is_asked key live) (drop i rows) ≡ filter (is_asked key live) rows
asked_behind rows i key live lesser =
    sym (
    ap (filter (is_asked key live)) (sym (take-append-drop i rows))
    ∙ filter-append (is_asked key live) (take i rows) (drop i rows)
    ∙ ap (λ es. es ++ filter (is_asked key live) (drop i rows)) (none_kept (is_asked key live) (take i rows) (λ e c. other_key key live e (λ same. let lt = All-contains (λ (w : Entry). w.key < key) (take i rows) e lesser c in omega (arith, lt, same))))
    )

-- and after one with a greater key none is asked for
none_behind : (row : Entry) (rows : List Entry) (key : ℕ) (live : List ℕ) → IsRun (row ∷ rows) → key < row.key → filter (is_asked key live) (row ∷ rows) ≡ []
none_behind row rows key live run more =
    none_kept (is_asked key live) (row ∷ rows) (λ e c. other_key key live e (λ same. ⊎_elim
    (λ h. let at : row.key ≡ e.key = ap (λ (w : Entry). w.key) h in omega (arith, more, same, at))
    (λ later. let up = RowBefore-keys row e (AllPairs-head RowBefore row e rows run later) in omega (arith, more, same, up))
    (Contains-cases row e rows c)))

pub none_left : (rows : List Entry) (i : ℕ) (d : Entry) (key : ℕ) (live : List ℕ) → i < length rows → IsRun rows → All (λ e. key ≤ e.key) rows → (get_or rows i d).key ≢ key → filter (is_asked key live) (drop i rows) ≡ []
none_left rows i d key live within run from other =
    let row = get_or rows i d in
    let low : key ≤ row.key = from i d within in
    let more : key < row.key = ⊎_elim (λ e. absurd (other (sym e))) (λ differ. ⊎_elim (λ lt. lt) (λ gt. absurd (omega (arith, low, gt))) differ) (cases_order key row.key) in
    let front : drop i rows ≡ row ∷ drop (i + 1) rows = drop_more rows i d within in
    ap (filter (is_asked key live)) front ∙ none_behind row (drop (i + 1) rows) key live (subst IsRun front (run_behind rows i run)) more

-- nor where each entry's key is one of those of which this key is none
pub none_among : (P : ℕ → Type 0) (rows : List Entry) (key : ℕ) (live : List ℕ) → All (λ e. P e.key) rows → (P key → ⊥) → filter (is_asked key live) rows ≡ []
none_among P rows key live all none =
    none_kept (is_asked key live) rows (λ e c. other_key key live e (λ same. none (subst P same (All-contains (λ (w : Entry). P w.key) rows e all c))))

-- all after a place, as a slice has it
pub whole_rest : {X : Type 0} (xs : List X) (i : ℕ) → take (length xs - i) (drop i xs) ≡ drop i xs
whole_rest xs i = let many = length-drop i xs in take_all (length xs - i) (drop i xs) (omega (arith, many))

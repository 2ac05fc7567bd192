-- Lines that are covered, counted along extents in order: of each extent those that none before it covers.
use Rattle.std.proofs.Common.{◌≡◌, ◌⊎◌, ℕ, ◌+◌, ◌-◌, ◌<◌, ◌≤◌, Bool, true, false, ◌||◌, ◌&&◌, List, [], ◌∷◌, length, refl, sym, ap, ◌∙◌, ⊎_elim, inl, inr, map, arith}
use Rattle.std.proofs.lemmas.Bool.{false≢true, cases_Bool, or_cases, or_parts}
use Rattle.std.specs.Prelude.{⊤, ◌==◌, nat_lt, nat_le, not, if◌then◌else◌}
use Rattle.std.specs.List.{AllByRecursion, IsDistinct, flat_map, list_any}
use Rattle.std.specs.Set.{is_member, distinct_count}
use Rattle.std.specs.declared.cmp.Ordering.TheVariants.{Less}
use Rattle.std.proofs.lemmas.Map.Keys.{sorted_head, sorted_tail, IsDistinct-cons}
use Rattle.std.proofs.lemmas.Cmp.{nat_eq_equiv}
use Rattle.std.proofs.lemmas.Map.Made.{length-from_keys}
use Rattle.cq_measures.specs.declared.extent.Extent.{Extent}
use Rattle.cq_measures.specs.Extents.{Line, same_line, lines_of, covered_lines, files_touched}
use Rattle.cq_measures.specs.Sorted.{extent_cmp, AreInOrder, first_new, next_free, new_count, new_files}
use Rattle.cq_measures.proofs.Lines.{same_line-laws, lines_on, is_on, covers, length-lines_on, member-lines_on, distinct-lines_on, member-flat_map}

-- the lines that extents cover and that are not taken yet: those below `free` are, of the file
abbrev new_lines : ℕ → ℕ → List Extent → List Line
new_lines file free [] = []
new_lines file free (e ∷ es) =
    lines_on e.file (first_new file free e) (e.last + 1 - first_new file free e) (new_lines e.file (next_free file free e) es)

length-new_lines : (file free : ℕ) (es : List Extent) → length (new_lines file free es) ≡ new_count file free es
length-new_lines file free [] = refl
length-new_lines file free (e ∷ es) =
    length-lines_on e.file (first_new file free e) (e.last + 1 - first_new file free e) _ ∙ ap (λ n. (e.last + 1 - first_new file free e) + n) (length-new_lines e.file (next_free file free e) es)

-- the line is taken
abbrev is_taken : ℕ → ℕ → Line → Bool
is_taken file free q = q.file == file && nat_lt q.number free

-- no extent lies before the file, or before a line of it
abbrev pub Begins : ℕ → ℕ → Extent → Type 0
Begins file first e = (file < e.file) ⊎ ((file ≡ e.file) × (first ≤ e.first))

begins_of : (a b : Extent) → extent_cmp a b ≡ Less → Begins a.file a.first b
begins_of a b h = grind arith

-- a line that is covered lies no earlier
covered_later : (file first : ℕ) (es : List Extent) (q : Line) → AllByRecursion (Begins file first) es → list_any (covers q) es ≡ true → (file < q.file) ⊎ ((file ≡ q.file) × (first ≤ q.number))
covered_later file first [] q b h = absurd (false≢true h)
covered_later file first (e ∷ es) q b h = ⊎_elim (λ here. at_head file first e q b.0 here) (λ there. covered_later file first es q b.1 there) (or_cases _ _ h)
  where
    at_head : (file first : ℕ) (e : Extent) (q : Line) → Begins file first e → covers q e ≡ true → (file < q.file) ⊎ ((file ≡ q.file) × (first ≤ q.number))
    at_head file first e q b h = grind arith

-- from the head of extents in order on, all begin no earlier
all_begin : (e : Extent) (es : List Extent) → AllByRecursion (λ f. extent_cmp e f ≡ Less) es → AllByRecursion (Begins e.file e.first) es
all_begin e [] h = h
all_begin e (f ∷ es) h = (begins_of e f h.0, all_begin e es h.1)

-- nor in an earlier file
in_later_files : (file first : ℕ) (es : List Extent) → AllByRecursion (Begins file first) es → AllByRecursion (λ f. file ≤ f.file) es
in_later_files file first [] h = h
in_later_files file first (f ∷ es) h = (file_of file first f h.0, in_later_files file first es h.1)
  where
    file_of : (file first : ℕ) (f : Extent) → Begins file first f → file ≤ f.file
    file_of file first f (inl less) = omega (arith, less)
    file_of file first f (inr same) = omega (arith, same.0)

pub no_earlier : (e : Extent) (es : List Extent) → AllByRecursion (λ f. extent_cmp e f ≡ Less) es → AllByRecursion (λ f. e.file ≤ f.file) es
no_earlier e es h = in_later_files e.file e.first es (all_begin e es h)

-- no extent begins before one that stands before it
abbrev pub Rise : List Extent → Type 0
Rise [] = ⊤
Rise (e ∷ es) = AllByRecursion (Begins e.file e.first) es × Rise es

pub in_order_rise : (es : List Extent) → AreInOrder es → Rise es
in_order_rise [] o = tt
in_order_rise (e ∷ es) o = (all_begin e es (sorted_head extent_cmp e es o), in_order_rise es (sorted_tail extent_cmp e es o))

-- Of an extent's lines those are new that are not taken.
fresh : (file free : ℕ) (e : Extent) (q : Line) → is_on e.file (first_new file free e) (e.last + 1 - first_new file free e) q ≡ (covers q e && not (is_taken file free q))
fresh file free e q = go (cases_Bool (e.file == file)) (cases_Bool (q.file == e.file)) (cases_Bool (nat_lt e.first free))
  where
    go : ((e.file == file) ≡ true) ⊎ ((e.file == file) ≡ false) → ((q.file == e.file) ≡ true) ⊎ ((q.file == e.file) ≡ false) → (nat_lt e.first free ≡ true) ⊎ (nat_lt e.first free ≡ false) → is_on e.file (first_new file free e) (e.last + 1 - first_new file free e) q ≡ (covers q e && not (is_taken file free q))
    go (inl a) (inl b) (inl c) = grind arith
    go (inl a) (inl b) (inr c) = grind arith
    go (inl a) (inr b) c = grind arith
    go (inr a) (inl b) c = grind arith
    go (inr a) (inr b) c = grind arith

-- Where an extent begins no later than the line, the line is new, or lies after it, exactly if it isn't taken.
behind : (file free : ℕ) (e : Extent) (q : Line) → file ≤ e.file → (e.file < q.file) ⊎ ((e.file ≡ q.file) × (e.first ≤ q.number)) → (is_on e.file (first_new file free e) (e.last + 1 - first_new file free e) q || not (is_taken e.file (next_free file free e) q)) ≡ not (is_taken file free q)
behind file free e q l (inl less) = grind arith
behind file free e q l (inr same) = go (cases_Bool (e.file == file)) (cases_Bool (nat_lt e.first free)) (cases_Bool (nat_lt (e.last + 1) free)) (cases_Bool (nat_lt q.number (e.last + 1)))
  where
    other : (e.file == file) ≡ false → (nat_lt q.number (e.last + 1) ≡ true) ⊎ (nat_lt q.number (e.last + 1) ≡ false) → (is_on e.file (first_new file free e) (e.last + 1 - first_new file free e) q || not (is_taken e.file (next_free file free e) q)) ≡ not (is_taken file free q)
    other a (inl d) = grind arith
    other a (inr d) = grind arith

    go : ((e.file == file) ≡ true) ⊎ ((e.file == file) ≡ false) → (nat_lt e.first free ≡ true) ⊎ (nat_lt e.first free ≡ false) → (nat_lt (e.last + 1) free ≡ true) ⊎ (nat_lt (e.last + 1) free ≡ false) → (nat_lt q.number (e.last + 1) ≡ true) ⊎ (nat_lt q.number (e.last + 1) ≡ false) → (is_on e.file (first_new file free e) (e.last + 1 - first_new file free e) q || not (is_taken e.file (next_free file free e) q)) ≡ not (is_taken file free q)
    go (inl a) (inl b) (inl c) d = grind arith
    go (inl a) (inl b) (inr c) d = grind arith
    go (inl a) (inr b) (inl c) d = grind arith
    go (inl a) (inr b) (inr c) d = grind arith
    go (inr a) b c d = other a d

-- `later` tells whether a later extent covers the line
step : (file free : ℕ) (e : Extent) (q : Line) (later : Bool) → file ≤ e.file → (later ≡ true → (e.file < q.file) ⊎ ((e.file ≡ q.file) × (e.first ≤ q.number))) → (is_on e.file (first_new file free e) (e.last + 1 - first_new file free e) q || (later && not (is_taken e.file (next_free file free e) q))) ≡ ((covers q e || later) && not (is_taken file free q))
step file free e q true l h = behind file free e q l (h refl) ∙ join (covers q e) (not (is_taken file free q))
  where
    join : (a b : Bool) → b ≡ ((a || true) && b)
    join a b = grind arith
step file free e q false l h = ap (λ b. b || false) (fresh file free e q) ∙ join (covers q e) (not (is_taken file free q))
  where
    join : (a b : Bool) → ((a && b) || false) ≡ ((a || false) && b)
    join a b = grind arith

-- The new lines are those that are covered and not taken.
pub member-new_lines : (file free : ℕ) (es : List Extent) (q : Line) → Rise es → AllByRecursion (λ e. file ≤ e.file) es → is_member same_line (new_lines file free es) q ≡ (list_any (covers q) es && not (is_taken file free q))
member-new_lines file free [] q o l = refl
member-new_lines file free (e ∷ es) q o l =
    member-lines_on e.file (first_new file free e) (e.last + 1 - first_new file free e) _ q
    ∙ ap (λ b. is_on e.file (first_new file free e) (e.last + 1 - first_new file free e) q || b) (member-new_lines e.file (next_free file free e) es q o.1 (in_later_files e.file e.first es o.0))
    ∙ step file free e q (list_any (covers q) es) l.0 (covered_later e.file e.first es q o.0)

-- They are different lines.
pub distinct-new_lines : (file free : ℕ) (es : List Extent) → Rise es → AllByRecursion (λ e. file ≤ e.file) es → IsDistinct same_line (new_lines file free es)
unfolding IsDistinct
distinct-new_lines file free [] o l = tt
distinct-new_lines file free (e ∷ es) o l =
    let behind = in_later_files e.file e.first es o.0 in
    distinct-lines_on e.file (first_new file free e) (e.last + 1 - first_new file free e) _
    (distinct-new_lines e.file (next_free file free e) es o.1 behind)
    (λ q on. member-new_lines e.file (next_free file free e) es q o.1 behind ∙ none file free e q (list_any (covers q) es) on)
  where
    none : (file free : ℕ) (e : Extent) (q : Line) (later : Bool) → is_on e.file (first_new file free e) (e.last + 1 - first_new file free e) q ≡ true → (later && not (is_taken e.file (next_free file free e) q)) ≡ false
    none file free e q later on = grind arith

nothing_taken : (q : Line) (b : Bool) → (b && not (is_taken 0 0 q)) ≡ b
nothing_taken q b = grind arith

from_none : (es : List Extent) → AllByRecursion (λ e. 0 ≤ e.file) es
from_none [] = tt
from_none (e ∷ es) = (omega arith, from_none es)

-- So there are as many as different lines in any list of those that the extents cover.
pub rising-count : (es : List Extent) → Rise es → (lines : List Line) → ((q : Line) → is_member same_line lines q ≡ list_any (covers q) es) → new_count 0 0 es ≡ distinct_count same_line lines
rising-count es o lines same =
    sym (length-new_lines 0 0 es)
    ∙ length-from_keys same_line-laws (new_lines 0 0 es) lines (distinct-new_lines 0 0 es o (from_none es))
    (λ q. member-new_lines 0 0 es q o (from_none es) ∙ nothing_taken q _ ∙ sym (same q))

pub new_count-of : (es : List Extent) → AreInOrder es → (lines : List Line) → ((q : Line) → is_member same_line lines q ≡ list_any (covers q) es) → new_count 0 0 es ≡ distinct_count same_line lines
new_count-of es o lines same = rising-count es (in_order_rise es o) lines same

pub rising-is : (es : List Extent) → Rise es → new_count 0 0 es ≡ covered_lines es
rising-is es o = rising-count es o (flat_map lines_of es) (member-flat_map es)

pub new_count-is : (es : List Extent) → AreInOrder es → new_count 0 0 es ≡ covered_lines es
new_count-is es o = new_count-of es o (flat_map lines_of es) (member-flat_map es)

-- ---- files

-- the files from `next` on, each once
abbrev files_from : ℕ → List Extent → List ℕ
files_from next [] = []
files_from next (e ∷ es) = if nat_le next e.file then e.file ∷ files_from (e.file + 1) es else files_from next es

length-files_from : (next : ℕ) (es : List Extent) → length (files_from next es) ≡ new_files next es
length-files_from next [] = refl
length-files_from next (e ∷ es) = go (nat_le next e.file) (length-files_from (e.file + 1) es) (length-files_from next es)
  where
    go : (b : Bool) → length (files_from (e.file + 1) es) ≡ new_files (e.file + 1) es → length (files_from next es) ≡ new_files next es → length (if b then e.file ∷ files_from (e.file + 1) es else files_from next es) ≡ (if b then 1 + new_files (e.file + 1) es else new_files next es)
    go true more same = omega (arith, more)
    go false more same = same

-- the extents' files
abbrev file_in : ℕ → List Extent → Bool
file_in q es = list_any (λ f. q == f) (map (λ e. e.file) es)

in_later : (file q : ℕ) (es : List Extent) → AllByRecursion (λ e. file ≤ e.file) es → file_in q es ≡ true → file ≤ q
in_later file q [] l h = absurd (false≢true h)
in_later file q (e ∷ es) l h = ⊎_elim (λ here. at_head file q e.file l.0 here) (λ there. in_later file q es l.1 there) (or_cases _ _ h)
  where
    at_head : (file q f : ℕ) → file ≤ f → (q == f) ≡ true → file ≤ q
    at_head file q f l h = grind arith

member-files_from : (next : ℕ) (es : List Extent) (q : ℕ) → AreInOrder es → is_member (λ a b. a == b) (files_from next es) q ≡ (file_in q es && nat_le next q)
member-files_from next [] q o = refl
member-files_from next (e ∷ es) q o =
    go (nat_le next e.file) refl
    (in_later e.file q es (no_earlier e es (sorted_head extent_cmp e es o)))
    (member-files_from (e.file + 1) es q (sorted_tail extent_cmp e es o))
    (member-files_from next es q (sorted_tail extent_cmp e es o))
  where
    new : (next file q : ℕ) (b : Bool) → nat_le next file ≡ true → (b ≡ true → file ≤ q) → ((q == file) || (b && nat_le (file + 1) q)) ≡ (((q == file) || b) && nat_le next q)
    new next file q b h l = grind arith

    old : (next file q : ℕ) (b : Bool) → nat_le next file ≡ false → (b && nat_le next q) ≡ (((q == file) || b) && nat_le next q)
    old next file q b h = grind arith

    go : (b : Bool) → nat_le next e.file ≡ b → (file_in q es ≡ true → e.file ≤ q) → is_member (λ a b. a == b) (files_from (e.file + 1) es) q ≡ (file_in q es && nat_le (e.file + 1) q) → is_member (λ a b. a == b) (files_from next es) q ≡ (file_in q es && nat_le next q) → is_member (λ a b. a == b) (if b then e.file ∷ files_from (e.file + 1) es else files_from next es) q ≡ (file_in q (e ∷ es) && nat_le next q)
    go true h later more same = ap (λ b. (q == e.file) || b) more ∙ new next e.file q (file_in q es) h later
    go false h later more same = same ∙ old next e.file q (file_in q es) h

none_equal : (q : ℕ) (xs : List ℕ) → is_member (λ a b. a == b) xs q ≡ false → AllByRecursion (λ y. (q == y) ≡ false) xs
none_equal q [] h = tt
none_equal q (x ∷ xs) h = let parts = or_parts _ _ h in (parts.0, none_equal q xs parts.1)

distinct-files_from : (next : ℕ) (es : List Extent) → AreInOrder es → IsDistinct (λ a b. a == b) (files_from next es)
unfolding IsDistinct
distinct-files_from next [] o = tt
distinct-files_from next (e ∷ es) o =
    go (nat_le next e.file)
    (none_equal e.file _ (member-files_from (e.file + 1) es e.file (sorted_tail extent_cmp e es o) ∙ gone e.file (file_in e.file es)))
    (distinct-files_from (e.file + 1) es (sorted_tail extent_cmp e es o))
    (distinct-files_from next es (sorted_tail extent_cmp e es o))
  where
    gone : (file : ℕ) (b : Bool) → (b && nat_le (file + 1) file) ≡ false
    gone file b = grind arith

    go : (b : Bool) → AllByRecursion (λ y. (e.file == y) ≡ false) (files_from (e.file + 1) es) → IsDistinct (λ a b. a == b) (files_from (e.file + 1) es) → IsDistinct (λ a b. a == b) (files_from next es) → IsDistinct (λ a b. a == b) (if b then e.file ∷ files_from (e.file + 1) es else files_from next es)
    go true others more same = IsDistinct-cons (λ a b. a == b) _ _ others more
    go false others more same = same

-- There are as many as different files in any list of those that the extents are in.
pub new_files-of : (es : List Extent) → AreInOrder es → (files : List ℕ) → ((q : ℕ) → is_member (λ a b. a == b) files q ≡ file_in q es) → new_files 0 es ≡ distinct_count (λ a b. a == b) files
new_files-of es o files same =
    sym (length-files_from 0 es)
    ∙ length-from_keys nat_eq_equiv (files_from 0 es) files (distinct-files_from 0 es o) (λ q. member-files_from 0 es q o ∙ all (file_in q es) q ∙ sym (same q))
  where
    all : (b : Bool) (q : ℕ) → (b && nat_le 0 q) ≡ b
    all b q = grind arith

pub new_files-is : (es : List Extent) → AreInOrder es → new_files 0 es ≡ files_touched es
new_files-is es o = new_files-of es o (map (λ e. e.file) es) (λ q. refl)

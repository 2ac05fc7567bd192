-- The numbers of changes decide nothing of a project's files but the numbers beside them, so that changes that are needed leave
-- the same files under new numbers.
use Rattle.std.proofs.Common.{◌≡◌, ℕ, suc, ◌+◌, ◌-◌, ◌<◌, Bool, true, false, not, cond, List, [], ◌∷◌, ◌++◌, length, map, take, drop, refl, sym, ap, ap₂, ◌∙◌, arith}
use Rattle.std.specs.Prelude.{slice_index_or}
use Rattle.std.specs.List.{filter, insert, prefix_len, range_with_len}
use Rattle.std.specs.Str.{bytes_eq}
use Rattle.std.proofs.lemmas.List.{map-append, take-map, drop-map, take_all}
use Rattle.cq_base.specs.declared.change.Change.{Change}
use Rattle.cq_base.specs.declared.change.Change.TheVariants.{Put, Drop, Gate}
use Rattle.cq_base.specs.declared.change.Condition.{Condition}
use Rattle.cq_history.proofs.KeptConditions.{kept_leave_the_conditions}
use Rattle.cq_history.proofs.KeptFiles.{kept_leave_the_files}
use Rattle.cq_history.specs.Changes.{no_change}
use Rattle.cq_history.specs.Files.{Source, without_file, with_file, place_of, is_before, files_after, files_from, files_of, conditions_after, conditions_from, conditions_of}
use Rattle.cq_history.specs.Gone.{is_gone}
use Rattle.cq_history.specs.KeptFiles.{numbered, files_by, conditions_by, kept_up_to}
use Rattle.cq_shorten.specs.Needed.{needed_changes, unnumbered, LeavesTheSame}

-- ---- lists

map_kept : {X Y : Type 0} (f : X → Y) (x : X) (xs : List X) (ys : List Y) (b : Bool) → map f xs ≡ ys → map f (cond b (x ∷ xs) xs) ≡ cond b (f x ∷ ys) ys
map_kept f x xs ys true same = ap (λ zs. f x ∷ zs) same
map_kept f x xs ys false same = same

map_filter : {X Y : Type 0} (f : X → Y) (test : Y → Bool) (xs : List X) → map f (filter (λ (x : X). test (f x)) xs) ≡ filter test (map f xs)
map_filter f test [] = refl
map_filter f test (x ∷ xs) = map_kept f x (filter (λ y. test (f y)) xs) (filter test (map f xs)) (test (f x)) (map_filter f test xs)

prefix_map : {X Y : Type 0} (f : X → Y) (test : Y → Bool) (xs : List X) → prefix_len (λ (x : X). test (f x)) xs ≡ prefix_len test (map f xs)
prefix_map f test [] = refl
prefix_map f test (x ∷ xs) = ap (λ n. cond (test (f x)) (1 + n) 0) (prefix_map f test xs)

insert_map : {X Y : Type 0} (f : X → Y) (xs : List X) (i : ℕ) (x : X) → map f (insert xs i x) ≡ insert (map f xs) i (f x)
insert_map f xs i x = map-append f (take i xs) (x ∷ drop i xs) ∙ ap₂ (λ ys zs. ys ++ f x ∷ zs) (sym (take-map f i xs)) (sym (drop-map f i xs))

-- ---- files without their numbers

abbrev plain : List Source → List Source
plain files = map unnumbered files

without_plain : (path : List ℕ) (files : List Source) → plain (without_file path files) ≡ without_file path (plain files)
without_plain path files = map_filter unnumbered (λ (f : Source). not (bytes_eq path f.path)) files

place_plain : (path : List ℕ) (files : List Source) → place_of path files ≡ place_of path (plain files)
place_plain path files = prefix_map unnumbered (λ (f : Source). not (is_before path f.path)) files

with_plain : (f : Source) (files : List Source) → plain (with_file f files) ≡ with_file (unnumbered f) (plain files)
with_plain f files =
    let others : List Source = without_file f.path files in
    insert_map unnumbered others (place_of f.path others) f ∙ ap (λ (i : ℕ). insert (plain others) i (unnumbered f)) (place_plain f.path others)
    ∙ ap (λ (fs : List Source). insert fs (place_of f.path fs) (unnumbered f)) (without_plain f.path files)

one_plain : (b : Bool) (changed files same : List Source) → plain changed ≡ same → plain (cond b changed files) ≡ cond b same (plain files)
one_plain true changed files same is = is
one_plain false changed files same is = refl

after_plain : (q : List ℕ) (r : ℕ) (files : List Source) (c : Change) → plain (files_after q r files c) ≡ files_after q 0 (plain files) c
after_plain q r files (Put project path lang text) =
    let file : Source = record { path = path; number = r; lang = lang; body = text } in
    one_plain (bytes_eq q project) (with_file file files) files (with_file (unnumbered file) (plain files)) (with_plain file files)
after_plain q r files (Drop project path) = one_plain (bytes_eq q project) (without_file path files) files (without_file path (plain files)) (without_plain path files)
after_plain q r files (Gate project conditions) = refl

-- what changes leave if each has the number 0
files_zero : List ℕ → List Source → List Change → List Source
files_zero q files [] = files
files_zero q files (c ∷ cs) = files_zero q (files_after q 0 files c) cs

by_plain : (q : List ℕ) (cs : List (ℕ × Change)) (files : List Source) → plain (files_by q files cs) ≡ files_zero q (plain files) (map (λ (c : ℕ × Change). c.1) cs)
unfolding files_zero
by_plain q [] files = refl
by_plain q (c ∷ cs) files = by_plain q cs (files_after q c.0 files c.1) ∙ ap (λ (fs : List Source). files_zero q fs (map (λ (d : ℕ × Change). d.1) cs)) (after_plain q c.0 files c.1)

from_plain : (q : List ℕ) (cs : List Change) (r : ℕ) (files : List Source) → plain (files_from q r files cs) ≡ files_zero q (plain files) cs
unfolding files_zero
from_plain q [] r files = refl
from_plain q (c ∷ cs) r files = from_plain q cs (r + 1) (files_after q r files c) ∙ ap (λ (fs : List Source). files_zero q fs cs) (after_plain q r files c)

conditions_plain : (q : List ℕ) (cs : List (ℕ × Change)) (old : List Condition) → conditions_by q old cs ≡ conditions_from q old (map (λ (c : ℕ × Change). c.1) cs)
conditions_plain q [] old = refl
conditions_plain q (c ∷ cs) old = conditions_plain q cs (conditions_after q old c.1)

-- ---- the changes that are needed

pair_kept : (g : ℕ → Change) (r : ℕ) (c : Change) (cs : List (ℕ × Change)) (ns : List ℕ) (b : Bool) → c ≡ g r → map (λ (d : ℕ × Change). d.1) cs ≡ map g ns
    → map (λ (d : ℕ × Change). d.1) (cond b ((r, c) ∷ cs) cs) ≡ map g (cond b (r ∷ ns) ns)
pair_kept g r c cs ns true one same = ap₂ (λ (x : Change) (xs : List Change). x ∷ xs) one same
pair_kept g r c cs ns false one same = same

numbered_are : (g : ℕ → Change) (test : ℕ → Bool) (cs : List Change) (r : ℕ) → ((i : ℕ) → i < length cs → g (r + i) ≡ slice_index_or cs i no_change)
    → map (λ (c : ℕ × Change). c.1) (filter (λ (c : ℕ × Change). test c.0) (numbered r cs)) ≡ map g (filter test (range_with_len r (length cs)))
numbered_are g test [] r at = refl
numbered_are g test (c ∷ cs) r at =
    let here : r ≡ r + 0 = omega arith in
    let first : c ≡ g r = sym (ap g here ∙ at 0 (omega arith)) in
    pair_kept g r c (filter (λ (d : ℕ × Change). test d.0) (numbered (r + 1) cs)) (filter test (range_with_len (r + 1) (length cs))) (test r) first
    (numbered_are g test cs (r + 1) (λ i within. let next : (r + 1) + i ≡ r + suc i = omega arith in ap g next ∙ at (suc i) (omega (arith, within))))

needed_are : (changes : List Change) → map (λ (c : ℕ × Change). c.1) (kept_up_to changes (length changes) (length changes)) ≡ needed_changes changes
needed_are changes =
    ap (λ (cs : List Change). map (λ (c : ℕ × Change). c.1) (filter (λ (c : ℕ × Change). not (is_gone changes (length changes) c.0)) (numbered 1 cs))) (take_all (length changes) changes (omega arith))
    ∙ numbered_are (λ (number : ℕ). slice_index_or changes (number - 1) no_change) (λ (number : ℕ). not (is_gone changes (length changes) number)) changes 1
    (λ i within. let same : (1 + i) - 1 ≡ i = omega arith in ap (λ (k : ℕ). slice_index_or changes k no_change) same)

pub leaves_the_same : (changes : List Change) (q : List ℕ) → LeavesTheSame changes q
leaves_the_same changes q =
    let n : ℕ = length changes in
    record {
      files =
          from_plain q (needed_changes changes) 1 [] ∙ ap (λ (cs : List Change). files_zero q [] cs) (sym (needed_are changes)) ∙ sym (by_plain q (kept_up_to changes n n) [])
          ∙ ap plain (kept_leave_the_files changes n n q (omega arith)) ∙ ap (λ (cs : List Change). plain (files_of q cs)) (take_all (length changes) changes (omega arith));
      conditions =
          ap (λ (cs : List Change). conditions_from q [] cs) (sym (needed_are changes)) ∙ sym (conditions_plain q (kept_up_to changes n n) [])
          ∙ kept_leave_the_conditions changes n n q (omega arith) ∙ ap (λ (cs : List Change). conditions_of q cs) (take_all (length changes) changes (omega arith));
    }

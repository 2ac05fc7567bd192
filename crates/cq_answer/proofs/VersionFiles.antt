-- What the files and the conditions of a project after some changes have.
use Rattle.std.proofs.Common.{◌≡◌, ℕ, zero, suc, ◌+◌, ◌-◌, ◌<◌, ◌≤◌, Bool, true, false, cond, Some, List, [], ◌∷◌, length, take, drop, map, slice_get, refl, sym, ap, ◌∙◌, subst, inl, inr, arith, length-append}
use Rattle.std.specs.Prelude.{◌≢◌, All, AllPairs, not, filter, insert}
use Rattle.std.specs.List.{AllByRecursion}
use Rattle.std.specs.Str.{bytes_eq, IsUtf8}
use Rattle.std.specs.Ordering.{is_lt}
use Rattle.std.proofs.lemmas.List.{length-take, length-drop}
use Rattle.std.proofs.lemmas.List.Elements.{All-cons, All-nil}
use Rattle.std.proofs.lemmas.List.Kept.{AllPairs-cons}
use Rattle.cq_base.proofs.Lists.{AllPairs-nil}
use Rattle.cq_base.proofs.Orderings.{bytes-tie}
use Rattle.cq_base.specs.Changes.{IsSoundChange}
use Rattle.cq_base.specs.declared.change.Change.{Change}
use Rattle.cq_base.specs.declared.change.Change.TheVariants.{Put, Drop, Gate}
use Rattle.cq_base.specs.declared.change.Condition.{Condition}
use Rattle.cq_history.specs.Changes.{change_at}
use Rattle.cq_history.specs.Files.{Source, is_before, place_of, without_file, files_after, files_from, files_at, conditions_from, conditions_at}
use Rattle.cq_history.specs.Standing.{Has, AreInPathOrder, IsLastPut}
use Rattle.cq_history.proofs.Standing.{files_stand}
use Rattle.cq_request.specs.Named.{IsNamed}
use Rattle.cq_names.specs.Names.{is_path_text}

-- ---- each has the number of its own change

-- two files with one number have one path
one_path : (changes : List Change) (q : List ℕ) (f g : Source) → IsLastPut changes q f → IsLastPut changes q g → f.number ≡ g.number → f.path ≡ g.path
one_path changes q f g first second same =
    let puts : Some (Put q f.path f.lang f.body) ≡ Some (Put q g.path g.lang g.body) = sym first.put ∙ ap (change_at changes) same ∙ second.put in
    cc

not_before_itself : (p : List ℕ) → is_before p p ≡ false
not_before_itself p = ap is_lt (bytes-tie p)

other_numbers : (changes : List Change) (q : List ℕ) (f : Source) (files : List Source) → IsLastPut changes q f → AllByRecursion (λ (g : Source). is_before f.path g.path ≡ true) files → ((g : Source) → Has files g → IsLastPut changes q g) → All (λ n. f.number ≢ n) (map (λ (g : Source). g.number) files)
other_numbers changes q f [] last later each = All-nil (λ n. f.number ≢ n)
other_numbers changes q f (g ∷ files) last later each =
    All-cons (λ n. f.number ≢ n) g.number (map (λ (h : Source). h.number) files)
    (λ same.
    let path = one_path changes q f g last (each g (inl refl)) same in
    let itself = ap (is_before f.path) path ∙ later.0 in
    let never = not_before_itself f.path in
    absurd (cc))
    (other_numbers changes q f files last later.1 (λ h there. each h (inr there)))

numbers_differ : (changes : List Change) (q : List ℕ) (files : List Source) → AreInPathOrder files → ((f : Source) → Has files f → IsLastPut changes q f) → AllPairs (λ a b. a ≢ b) (map (λ (f : Source). f.number) files)
numbers_differ changes q [] ordered each = AllPairs-nil (λ a b. a ≢ b)
numbers_differ changes q (f ∷ files) ordered each =
    AllPairs-cons (λ a b. a ≢ b) f.number (map (λ (g : Source). g.number) files)
    (other_numbers changes q f files (each f (inl refl)) ordered.0 (λ g there. each g (inr there)))
    (numbers_differ changes q files ordered.1 (λ g there. each g (inr there)))

pub numbers_apart : (changes : List Change) (version : ℕ) (q : List ℕ) → AllPairs (λ a b. a ≢ b) (map (λ (f : Source). f.number) (files_at changes version q))
numbers_apart changes version q =
    let stand = files_stand (take version changes) q in
    numbers_differ (take version changes) q (files_at changes version q) stand.ordered (λ f there. (stand.each f).0 there)

-- each number is that of a change
positive : (changes : List Change) (q : List ℕ) (files : List Source) → ((f : Source) → Has files f → IsLastPut changes q f) → All (λ n. 0 < n) (map (λ (f : Source). f.number) files)
positive changes q [] each = All-nil (λ n. 0 < n)
positive changes q (f ∷ files) each =
    All-cons (λ n. 0 < n) f.number (map (λ (g : Source). g.number) files) (each f (inl refl)).accepted.0 (positive changes q files (λ g there. each g (inr there)))

pub numbers_positive : (changes : List Change) (version : ℕ) (q : List ℕ) → All (λ n. 0 < n) (map (λ (f : Source). f.number) (files_at changes version q))
numbers_positive changes version q =
    let stand = files_stand (take version changes) q in
    positive (take version changes) q (files_at changes version q) (λ f there. (stand.each f).0 there)

-- ---- they are no more than the changes

fewer : {X : Type 0} (p : X → Bool) (xs : List X) → length (filter p xs) ≤ length xs
fewer p [] = omega arith
fewer p (x ∷ xs) = go (p x) (fewer p xs)
  where
    go : (b : Bool) → length (filter p xs) ≤ length xs → length (cond b (x ∷ filter p xs) (filter p xs)) ≤ suc (length xs)
    go true rest = omega (arith, rest)
    go false rest = omega (arith, rest)

one_more : {X : Type 0} (xs : List X) (n : ℕ) (x : X) → length (insert xs n x) ≤ length xs + 1
one_more xs n x =
    let parts = length-append (take n xs) (x ∷ drop n xs) in
    let front = length-take n xs in
    let back = length-drop n xs in
    omega (arith, parts, front, back)

with_one : (b : Bool) (n : ℕ) (new old : List Source) → length new ≤ n + 1 → length old ≤ n → length (cond b new old) ≤ n + 1
with_one true n new old grown same = grown
with_one false n new old grown same = omega (arith, same)

few_after : (q : List ℕ) (r : ℕ) (files : List Source) (c : Change) → length (files_after q r files c) ≤ length files + 1
few_after q r files (Put project path lang text) =
    let rest = fewer (λ (f : Source). not (bytes_eq path f.path)) files in
    let grown = one_more (without_file path files) (place_of path (without_file path files)) (record { path = path; number = r; lang = lang; body = text }) in
    with_one (bytes_eq q project) (length files) _ files (omega (arith, rest, grown)) (omega arith)
few_after q r files (Drop project path) =
    let rest = fewer (λ (f : Source). not (bytes_eq path f.path)) files in
    with_one (bytes_eq q project) (length files) _ files (omega (arith, rest)) (omega arith)
few_after q r files (Gate project conditions) = omega arith

few_from : (q : List ℕ) (r : ℕ) (files : List Source) (cs : List Change) → length (files_from q r files cs) ≤ length files + length cs
few_from q r files [] = omega arith
few_from q r files (c ∷ cs) =
    let rest = few_from q (r + 1) (files_after q r files c) cs in
    let first = few_after q r files c in
    omega (arith, rest, first)

pub few_files : (changes : List Change) (version : ℕ) (q : List ℕ) → length (files_at changes version q) ≤ length changes
few_files changes version q =
    let few = few_from q 1 [] (take version changes) in
    let front = length-take version changes in
    omega (arith, few, front)

pub few_at : (changes : List Change) (version : ℕ) (q : List ℕ) → length (files_at changes version q) ≤ version
few_at changes version q =
    let few = few_from q 1 [] (take version changes) in
    let front = length-take version changes in
    omega (arith, few, front)

-- ---- what sound changes bring

one_by_one : {X : Type 0} (P : X → Type 0) (xs : List X) → All P xs → AllByRecursion P xs
one_by_one P [] all = tt
one_by_one P (x ∷ xs) all = (all 0 x (omega arith), one_by_one P xs (λ k d inside. all (suc k) d (omega arith)))

all_taken : {X : Type 0} (P : X → Type 0) (n : ℕ) (xs : List X) → AllByRecursion P xs → AllByRecursion P (take n xs)
all_taken P zero xs all = tt
all_taken P (suc n) [] all = tt
all_taken P (suc n) (x ∷ xs) all = (all.0, all_taken P n xs all.1)

all_at : {X : Type 0} (P : X → Type 0) (xs : List X) (i : ℕ) (x : X) → AllByRecursion P xs → slice_get xs i ≡ Some x → P x
all_at P [] i x all there = absurd (cc)
all_at P (y ∷ xs) zero x all there = let same : y ≡ x = cc in subst P same all.0
all_at P (y ∷ xs) (suc i) x all there = all_at P xs i x all.1 there

each_has : (P : Source → Type 0) (files : List Source) → ((f : Source) → Has files f → P f) → AllByRecursion P files
each_has P [] each = tt
each_has P (f ∷ files) each = (each f (inl refl), each_has P files (λ g there. each g (inr there)))

-- what the put of a file gives, whatever each change has
each_put : (P : Change → Type 0) (Q : Source → Type 0) (changes : List Change) (version : ℕ) (q : List ℕ) → All P changes → ((f : Source) → IsLastPut (take version changes) q f → P (Put q f.path f.lang f.body) → Q f)
    → AllByRecursion Q (files_at changes version q)
each_put P Q changes version q all gives =
    let stand = files_stand (take version changes) q in
    each_has Q (files_at changes version q)
    (λ f there.
    let last = (stand.each f).0 there in
    gives f last (all_at P (take version changes) (f.number - 1) (Put q f.path f.lang f.body) (all_taken P version changes (one_by_one P changes all)) last.put))

-- the paths of the files are texts
pub paths_are_texts : (changes : List Change) (version : ℕ) (q : List ℕ) → All IsSoundChange changes → AllByRecursion (λ (f : Source). IsUtf8 f.path) (files_at changes version q)
paths_are_texts changes version q sound = each_put IsSoundChange (λ (f : Source). IsUtf8 f.path) changes version q sound (λ f last is. is.1)

-- one of so many changes put the file, its path and its text are UTF-8, and the text is no longer than one may be
pub record IsPutWithin (version : ℕ) (f : Source) : Type 0 where
  pub path : IsUtf8 f.path
  pub text : IsUtf8 f.body
  pub short : length f.body ≤ 1048576
  pub first : 1 ≤ f.number
  pub last : f.number ≤ version

put_within : (changes : List Change) (version : ℕ) (q : List ℕ) (f : Source) → IsLastPut (take version changes) q f → IsSoundChange (Put q f.path f.lang f.body) → IsPutWithin version f
put_within changes version q f last is =
    let first = last.accepted.0 in
    let within = last.accepted.1 in
    let front = length-take version changes in
    record { path = is.1; text = is.2; short = is.3; first = omega (arith, first); last = omega (arith, within, front) }

pub sources_put : (changes : List Change) (version : ℕ) (q : List ℕ) → All IsSoundChange changes → AllByRecursion (IsPutWithin version) (files_at changes version q)
sources_put changes version q sound = each_put IsSoundChange (IsPutWithin version) changes version q sound (put_within changes version q)

-- and of named changes they are paths of files
pub sources_named : (changes : List Change) (version : ℕ) (q : List ℕ) → All IsNamed changes → AllByRecursion (λ (f : Source). is_path_text f.path ≡ true) (files_at changes version q)
sources_named changes version q named = each_put IsNamed (λ (f : Source). is_path_text f.path ≡ true) changes version q named (λ f last is. is.1)

pub sources_rise : (changes : List Change) (version : ℕ) (q : List ℕ) → AreInPathOrder (files_at changes version q)
sources_rise changes version q = (files_stand (take version changes) q).ordered

short : (b : Bool) (new old : List Condition) → length new ≤ 32 → length old ≤ 32 → length (cond b new old) ≤ 32
short true new old n o = n
short false new old n o = o

short_from : (q : List ℕ) (old : List Condition) (cs : List Change) → length old ≤ 32 → AllByRecursion IsSoundChange cs → length (conditions_from q old cs) ≤ 32
short_from q old [] few sound = few
short_from q old (Put project path lang text ∷ cs) few sound = short_from q old cs few sound.1
short_from q old (Drop project path ∷ cs) few sound = short_from q old cs few sound.1
short_from q old (Gate project conditions ∷ cs) few sound = short_from q (cond (bytes_eq q project) conditions old) cs (short (bytes_eq q project) conditions old sound.0.1 few) sound.1

pub few_conditions : (changes : List Change) (version : ℕ) (q : List ℕ) → All IsSoundChange changes → length (conditions_at changes version q) ≤ 32
few_conditions changes version q sound = short_from q [] (take version changes) (omega arith) (all_taken IsSoundChange version changes (one_by_one IsSoundChange changes sound))

-- The kept changes alone leave the files of each version from the floor on.
use Rattle.std.proofs.Common.{◌≡◌, ℕ, zero, suc, ◌+◌, ◌-◌, ◌<◌, ◌≤◌, Bool, true, false, cond, Some, List, [], ◌∷◌, ◌++◌, length, get_or, take, drop, filter, insert, refl, sym, subst, ap, ◌∙◌, inl, inr, ⊎_elim, arith}
use Rattle.std.specs.Prelude.{not, nat_le}
use Rattle.std.specs.List.{AllByRecursion}
use Rattle.std.specs.Str.{bytes_eq}
use Rattle.std.proofs.lemmas.Bool.{and_parts, and_from, leb-true, not-false, not_from_true, not_from_false, cases_lt, false_from_ne_true}
use Rattle.std.proofs.lemmas.List.{append-nil, take_more, take_all, length-take-le}
use Rattle.std.proofs.lemmas.List.Elements.{filter-append}
use Rattle.cq_base.specs.declared.change.Change.{Change}
use Rattle.cq_base.specs.declared.change.Change.TheVariants.{Put, Drop, Gate}
use Rattle.cq_history.specs.Changes.{change_at, is_of_file, no_change, IsNumber}
use Rattle.cq_history.specs.Files.{Source, files_of, files_at, files_after, is_before, place_of, with_file, without_file}
use Rattle.cq_history.specs.Standing.{Has, AreInPathOrder}
use Rattle.cq_history.specs.Gone.{is_gone, is_over}
use Rattle.cq_history.specs.KeptFiles.{numbered, files_by, kept_up_to}
use Rattle.cq_history.proofs.PathOrder.{all_filter, all_behind, one_more, order_filter}
use Rattle.cq_history.proofs.Presence.{bytes_eq-sym}
use Rattle.cq_history.proofs.Prefixes.{files_of_push}
use Rattle.cq_history.proofs.Standing.{files_stand}
use Rattle.cq_history.proofs.Forgetting.{gone_is, change_there}
use Rattle.cq_history.proofs.FewFiles.{change_in_front, files_kept}

-- ---- filters of files

filter_swap : (s t : Source → Bool) (files : List Source) → filter s (filter t files) ≡ filter t (filter s files)
filter_swap s t [] = refl
filter_swap s t (g ∷ files) = go (s g) (t g) (filter_swap s t files) refl refl
  where
    go : (a b : Bool) → filter s (filter t files) ≡ filter t (filter s files) → s g ≡ a → t g ≡ b → filter s (cond b (g ∷ filter t files) (filter t files)) ≡ filter t (cond a (g ∷ filter s files) (filter s files))
    go true true rest e d = ap (λ z. cond z (g ∷ filter s (filter t files)) (filter s (filter t files))) e ∙ ap (λ gs. g ∷ gs) rest ∙ sym (ap (λ z. cond z (g ∷ filter t (filter s files)) (filter t (filter s files))) d)
    go true false rest e d = rest ∙ sym (ap (λ z. cond z (g ∷ filter t (filter s files)) (filter t (filter s files))) d)
    go false true rest e d = ap (λ z. cond z (g ∷ filter s (filter t files)) (filter s (filter t files))) e ∙ rest
    go false false rest e d = rest

-- what one filter takes out another one doesn't keep
filter_past : (kept test : Source → Bool) (files : List Source) → ((g : Source) → Has files g → test g ≡ false → kept g ≡ false) → filter kept (filter test files) ≡ filter kept files
filter_past kept test [] never = refl
filter_past kept test (g ∷ files) never = go (test g) (filter_past kept test files (λ h has. never h (inr has))) refl
  where
    go : (b : Bool) → filter kept (filter test files) ≡ filter kept files → test g ≡ b → filter kept (cond b (g ∷ filter test files) (filter test files)) ≡ cond (kept g) (g ∷ filter kept files) (filter kept files)
    go true rest e = ap (λ gs. cond (kept g) (g ∷ gs) gs) rest
    go false rest e = rest ∙ sym (ap (λ z. cond z (g ∷ filter kept files) (filter kept files)) (never g (inl refl) e))

-- each is kept
pub filter_none : (kept : Source → Bool) (files : List Source) → ((g : Source) → Has files g → kept g ≡ true) → filter kept files ≡ files
filter_none kept [] each = refl
filter_none kept (g ∷ files) each = ap (λ z. cond z (g ∷ filter kept files) (filter kept files)) (each g (inl refl)) ∙ ap (λ gs. g ∷ gs) (filter_none kept files (λ h has. each h (inr has)))

filter_insert_gone : (kept : Source → Bool) (files : List Source) (n : ℕ) (f : Source) → kept f ≡ false → filter kept (insert files n f) ≡ filter kept files
filter_insert_gone kept files zero f h = ap (λ z. cond z (f ∷ filter kept files) (filter kept files)) h
filter_insert_gone kept [] (suc n) f h = ap (λ z. cond z (f ∷ []) []) h
filter_insert_gone kept (g ∷ files) (suc n) f h = ap (λ gs. cond (kept g) (g ∷ gs) gs) (filter_insert_gone kept files n f h)

-- where all files are after a path, it belongs in front
in_front : (f : Source) (files : List Source) → AllByRecursion (λ (g : Source). is_before f.path g.path ≡ true) files → insert files (place_of f.path files) f ≡ f ∷ files
in_front f [] all = refl
in_front f (g ∷ files) all = ap (λ z. insert (g ∷ files) (cond (not z) (1 + place_of f.path files) 0) f) all.0

filter_insert_kept : (kept : Source → Bool) (files : List Source) (f : Source) → AreInPathOrder files → kept f ≡ true → filter kept (insert files (place_of f.path files) f) ≡ insert (filter kept files) (place_of f.path (filter kept files)) f
filter_insert_kept kept [] f order h = ap (λ z. cond z (f ∷ []) []) h
filter_insert_kept kept (x ∷ files) f order h = go (is_before f.path x.path) (kept x) (filter_insert_kept kept files f order.1 h) refl refl
  where
    behind : is_before f.path x.path ≡ true → AllByRecursion (λ (g : Source). is_before f.path g.path ≡ true) (filter kept files)
    behind e = all_filter (λ (g : Source). is_before f.path g.path ≡ true) kept files (all_behind f.path x.path files e order.0)

    go : (a b : Bool) → filter kept (insert files (place_of f.path files) f) ≡ insert (filter kept files) (place_of f.path (filter kept files)) f → is_before f.path x.path ≡ a → kept x ≡ b → filter kept (insert (x ∷ files) (cond (not a) (1 + place_of f.path files) 0) f) ≡ insert (cond b (x ∷ (filter kept files)) (filter kept files)) (place_of f.path (cond b (x ∷ (filter kept files)) (filter kept files))) f
    go true true rest e d =
        ap (λ z. cond z (f ∷ cond (kept x) (x ∷ (filter kept files)) (filter kept files)) (cond (kept x) (x ∷ (filter kept files)) (filter kept files))) h
        ∙ ap (λ z. f ∷ cond z (x ∷ (filter kept files)) (filter kept files)) d
        ∙ sym (in_front f (x ∷ (filter kept files)) (e, behind e))
    go true false rest e d =
        ap (λ z. cond z (f ∷ cond (kept x) (x ∷ (filter kept files)) (filter kept files)) (cond (kept x) (x ∷ (filter kept files)) (filter kept files))) h
        ∙ ap (λ z. f ∷ cond z (x ∷ (filter kept files)) (filter kept files)) d
        ∙ sym (in_front f (filter kept files) (behind e))
    go false true rest e d =
        ap (λ n. filter kept (insert (x ∷ files) n f)) (sym (one_more (place_of f.path files)))
        ∙ ap (λ z. cond z (x ∷ filter kept (insert files (place_of f.path files) f)) (filter kept (insert files (place_of f.path files) f))) d
        ∙ ap (λ gs. x ∷ gs) rest
        ∙ ap (λ n. insert (x ∷ (filter kept files)) n f) (one_more (place_of f.path (filter kept files)))
        ∙ sym (ap (λ z. insert (x ∷ (filter kept files)) (cond (not z) (1 + place_of f.path (filter kept files)) 0) f) e)
    go false false rest e d =
        ap (λ n. filter kept (insert (x ∷ files) n f)) (sym (one_more (place_of f.path files)))
        ∙ ap (λ z. cond z (x ∷ filter kept (insert files (place_of f.path files) f)) (filter kept (insert files (place_of f.path files) f))) d
        ∙ rest

-- ---- one change more

pub numbered_more : (r : ℕ) (cs : List Change) (c : Change) → numbered r (cs ++ c ∷ []) ≡ numbered r cs ++ (r + length cs, c) ∷ []
numbered_more r [] c = let same : r ≡ r + 0 = omega arith in ap (λ n. (n, c) ∷ []) same
numbered_more r (d ∷ ds) c =
    let same : r + 1 + length ds ≡ r + length (d ∷ ds) = omega arith in
    ap (λ xs. (r, d) ∷ xs) (numbered_more (r + 1) ds c ∙ ap (λ n. numbered (r + 1) ds ++ (n, c) ∷ []) same)

files_by_more : (q : List ℕ) (files : List Source) (cs : List (ℕ × Change)) (c : ℕ × Change) → files_by q files (cs ++ c ∷ []) ≡ files_after q c.0 (files_by q files cs) c.1
files_by_more q files [] c = refl
files_by_more q files (d ∷ ds) c = files_by_more q (files_after q d.0 files d.1) ds c

pub files_by_next : (q : List ℕ) (cs : List (ℕ × Change)) (c : ℕ × Change) (b : Bool) → files_by q [] (cs ++ cond b (c ∷ []) []) ≡ cond b (files_after q c.0 (files_by q [] cs) c.1) (files_by q [] cs)
files_by_next q cs c true = files_by_more q [] cs c
files_by_next q cs c false = ap (files_by q []) (append-nil cs)

same_cond : {A : Type 0} (b : Bool) (x : A) → x ≡ cond b x x
same_cond true x = refl
same_cond false x = refl

-- past the last change there are no more
pub take_past : (changes : List Change) (version : ℕ) → length changes < version → take (length changes) changes ≡ take version changes
take_past changes version past = take_all (length changes) changes (omega arith) ∙ sym (take_all version changes (omega (arith, past)))

-- the change after the first ones, by its number
pub next_there : (changes : List Change) (n : ℕ) → n < length changes → change_at changes (n + 1) ≡ Some (get_or changes n no_change)
next_there changes n within =
    let index : n + 1 - 1 ≡ n = omega arith in
    change_there changes (n + 1) (omega arith, omega (arith, within)) ∙ ap (λ i. Some (get_or changes i no_change)) index

pub numbered_next : (changes : List Change) (n : ℕ) → n < length changes → numbered 1 (take (n + 1) changes) ≡ numbered 1 (take n changes) ++ (n + 1, get_or changes n no_change) ∷ []
numbered_next changes n within =
    let few : length (take n changes) ≡ n = length-take-le n changes (omega (arith, within)) in
    let number : 1 + length (take n changes) ≡ n + 1 = omega (arith, few) in
    ap (numbered 1) (take_more changes n no_change within)
    ∙ numbered_more 1 (take n changes) (get_or changes n no_change)
    ∙ ap (λ r. numbered 1 (take n changes) ++ (r, get_or changes n no_change) ∷ []) number

-- the next change is one more of those that are kept, or not
pub kept_next : (changes : List Change) (floor n : ℕ) → n < length changes → kept_up_to changes floor (n + 1) ≡ kept_up_to changes floor n ++ cond (not (is_gone changes floor (n + 1))) ((n + 1, get_or changes n no_change) ∷ []) []
kept_next changes floor n within =
    let stays : ℕ × Change → Bool = λ (c : ℕ × Change). not (is_gone changes floor c.0) in
    ap (filter stays) (numbered_next changes n within)
    ∙ filter-append stays (numbered 1 (take n changes)) ((n + 1, get_or changes n no_change) ∷ [])

module _ (changes : List Change) (floor : ℕ) (q : List ℕ) where
  abbrev pub is_left : Source → Bool
  is_left f = not (is_gone changes floor f.number)

  module _ (n : ℕ) (c : Change) (within : n < length changes) (here : change_at changes (n + 1) ≡ Some c) where
    -- a change that is gone took away what was gone already
    pub gone_before : is_gone changes floor (n + 1) ≡ true → (f : Source) → Has (files_of q (take n changes)) f → is_of_file q f.path c ≡ true → is_left f ≡ false
    gone_before gone f has names =
        let is = ((files_stand (take n changes) q).each f).0 has in
        let few = length-take-le n changes (omega (arith, within)) in
        let number : IsNumber changes f.number = (is.accepted.0, omega (arith, is.accepted.1, few, within)) in
        let low = leb-true (n + 1) floor (and_parts (nat_le (n + 1) floor) (is_over (get_or changes (n + 1 - 1) no_change) (drop (n + 1) (take floor changes))) gone).0 in
        not_from_true _ ((gone_is changes floor f.number number).1 (record {
          change = Put q f.path f.lang f.body;
          accepted = number;
          within = omega (arith, is.accepted.1, few, low);
          is = change_in_front changes n f.number is.accepted ∙ is.put;
          over = record { later = n + 1; change = c; behind = omega (arith, is.accepted.1, few); within = low; next = here; passes = names };
        }))

  next_kept : (n : ℕ) (c : Change) → n < length changes → change_at changes (n + 1) ≡ Some c →
      filter is_left (files_after q (n + 1) (files_of q (take n changes)) c) ≡ cond (not (is_gone changes floor (n + 1))) (files_after q (n + 1) (filter is_left (files_of q (take n changes))) c) (filter is_left (files_of q (take n changes)))
  next_kept n (Put project path lang text) within here = go (bytes_eq q project) refl
    where
      old : List Source
      old = files_of q (take n changes)

      f : Source
      f = record { path = path; number = n + 1; lang = lang; body = text }

      elsewhere_at : Source → Bool
      elsewhere_at g = not (bytes_eq path g.path)

      own : bytes_eq q project ≡ true → (b : Bool) → is_gone changes floor (n + 1) ≡ b → filter is_left (with_file f old) ≡ cond (not b) (with_file f (filter is_left old)) (filter is_left old)
      own named true gone =
          filter_insert_gone is_left (without_file path old) (place_of path (without_file path old)) f (not_from_true _ gone)
          ∙ filter_past is_left elsewhere_at old (λ g has out. gone_before n (Put project path lang text) within here gone g has (and_from _ _ named (bytes_eq-sym g.path path ∙ not-false _ out)))
      own named false stays =
          filter_insert_kept is_left (without_file path old) f (order_filter elsewhere_at old (files_stand (take n changes) q).ordered) (not_from_false _ stays)
          ∙ ap (λ gs. insert gs (place_of path gs) f) (filter_swap is_left elsewhere_at old)

      go : (b : Bool) → bytes_eq q project ≡ b → filter is_left (cond b (with_file f old) old) ≡ cond (not (is_gone changes floor (n + 1))) (cond b (with_file f (filter is_left old)) (filter is_left old)) (filter is_left old)
      go true named = own named (is_gone changes floor (n + 1)) refl
      go false other = same_cond (not (is_gone changes floor (n + 1))) (filter is_left old)
  next_kept n (Drop project path) within here = go (bytes_eq q project) refl
    where
      old : List Source
      old = files_of q (take n changes)

      elsewhere_at : Source → Bool
      elsewhere_at g = not (bytes_eq path g.path)

      own : bytes_eq q project ≡ true → (b : Bool) → is_gone changes floor (n + 1) ≡ b → filter is_left (without_file path old) ≡ cond (not b) (without_file path (filter is_left old)) (filter is_left old)
      own named true gone = filter_past is_left elsewhere_at old (λ g has out. gone_before n (Drop project path) within here gone g has (and_from _ _ named (bytes_eq-sym g.path path ∙ not-false _ out)))
      own named false stays = filter_swap is_left elsewhere_at old

      go : (b : Bool) → bytes_eq q project ≡ b → filter is_left (cond b (without_file path old) old) ≡ cond (not (is_gone changes floor (n + 1))) (cond b (without_file path (filter is_left old)) (filter is_left old)) (filter is_left old)
      go true named = own named (is_gone changes floor (n + 1)) refl
      go false other = same_cond (not (is_gone changes floor (n + 1))) (filter is_left old)
  next_kept n (Gate project conditions) within here = same_cond (not (is_gone changes floor (n + 1))) (filter is_left (files_of q (take n changes)))

  -- what the kept changes leave of the files
  abbrev pub Agree : ℕ → Type 0
  Agree n = files_by q [] (kept_up_to changes floor n) ≡ filter is_left (files_of q (take n changes))

  agree_more : (n : ℕ) → n < length changes → Agree n → Agree (n + 1)
  agree_more n within was =
      let c : Change = get_or changes n no_change in
      let cs = take n changes in
      let few : length cs ≡ n = length-take-le n changes (omega (arith, within)) in
      let stays : Bool = not (is_gone changes floor (n + 1)) in
      ap (files_by q []) (kept_next changes floor n within)
      ∙ files_by_next q (kept_up_to changes floor n) (n + 1, c) stays
      ∙ ap (λ fs. cond stays (files_after q (n + 1) fs c) fs) was
      ∙ sym (next_kept n c within (next_there changes n within))
      ∙ ap (λ r. filter is_left (files_after q r (files_of q cs) c)) (let e : n + 1 ≡ length cs + 1 = omega (arith, few) in e)
      ∙ ap (filter is_left) (sym (files_of_push q cs c))
      ∙ ap (λ xs. filter is_left (files_of q xs)) (sym (take_more changes n no_change within))

  pub agree : (n : ℕ) → n ≤ length changes → Agree n
  agree zero low = refl
  agree (suc n) low = subst Agree (let e : n + 1 ≡ suc n = omega arith in e) (agree_more n (omega (arith, low)) (agree n (omega (arith, low))))

  agree_at : (version : ℕ) → Agree version
  agree_at version =
      ⊎_elim
      (λ (past : length changes < version). subst (λ xs. files_by q [] (filter (λ (c : ℕ × Change). not (is_gone changes floor c.0)) (numbered 1 xs)) ≡ filter is_left (files_of q xs)) (take_past changes version past) (agree (length changes) (omega arith)))
      (λ (low : version ≤ length changes). agree version low)
      (cases_lt (length changes) version)

  pub kept_leave : (version : ℕ) → floor ≤ version → files_by q [] (kept_up_to changes floor version) ≡ files_at changes version q
  kept_leave version low =
      agree_at version
      ∙ filter_none is_left (files_at changes version q) (λ g has.
      let kept = files_kept changes floor version q g low has in
      not_from_false _ (false_from_ne_true (is_gone changes floor g.number) (λ gone. kept.1 ((gone_is changes floor g.number kept.0).0 gone))))

pub kept_leave_the_files : (changes : List Change) (floor version : ℕ) (project : List ℕ) → floor ≤ version → files_by project [] (kept_up_to changes floor version) ≡ files_at changes version project
kept_leave_the_files changes floor version project low = kept_leave changes floor project version low

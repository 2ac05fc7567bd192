-- Different elements of a list, and what extents come to, counted file by file.
use Rattle.std.proofs.Common.{◌≡◌, ℕ, ◌+◌, ◌-◌, ◌<◌, cond, Bool, true, false, ◌||◌, ◌&&◌, List, [], ◌∷◌, ◌++◌, length, map, filter, refl, sym, ap, ap₂, ◌∙◌, subst, arith}
use Rattle.std.proofs.lemmas.Bool.{false≢true}
use Rattle.std.specs.Prelude.{◌==◌, nat_lt}
use Rattle.std.specs.List.{flat_map, range_with_len}
use Rattle.std.specs.Set.{is_member, unique_keys, distinct_count}
use Rattle.std.proofs.lemmas.List.Elements.{All-head, All-tail}
use Rattle.cq_measures.specs.declared.extent.Extent.{Extent}
use Rattle.cq_measures.specs.declared.counting.Tally.{Tally}
use Rattle.cq_measures.specs.Counts.{IsTallyOf}
use Rattle.cq_measures.specs.Extents.{Line, same_line, same_extent, lines_of, covered_lines, different_extents, files_touched}
use Rattle.cq_measures.specs.Sorted.{AreBelow}

module _ {X : Type 0} (eq : X → X → Bool) where
  -- with an element before them, there are as many different ones, or one more
  unique_more : (x : X) (xs : List X) (b : Bool) → is_member eq xs x ≡ b → length (unique_keys eq (x ∷ xs)) ≡ cond b 0 1 + length (unique_keys eq xs)
  unique_more x xs b is = ap (λ m. length (cond m (unique_keys eq xs) (x ∷ unique_keys eq xs))) is ∙ by b
    where
      by : (b : Bool) → length (cond b (unique_keys eq xs) (x ∷ unique_keys eq xs)) ≡ cond b 0 1 + length (unique_keys eq xs)
      by true = omega arith
      by false = omega arith

  -- the equal ones of an element that passes pass too
  member_part : (p : X → Bool) → ((a b : X) → eq a b ≡ true → p a ≡ p b) → (x : X) (xs : List X) → p x ≡ true → is_member eq (filter p xs) x ≡ is_member eq xs x
  member_part p same x [] passes = refl
  member_part p same x (y ∷ ys) passes = by (p y) refl (eq x y) refl (member_part p same x ys passes)
    where
      by : (b : Bool) → p y ≡ b → (e : Bool) → eq x y ≡ e → is_member eq (filter p ys) x ≡ is_member eq ys x → is_member eq (cond b (y ∷ filter p ys) (filter p ys)) x ≡ (eq x y || is_member eq ys x)
      by true at e is more = ap (λ m. eq x y || m) more
      by false at true is more = absurd (false≢true (sym at ∙ sym (same x y is) ∙ passes))
      by false at false is more = more ∙ ap (λ m. m || is_member eq ys x) (sym is)

  -- Of two tests of which an element passes at most one, and a third that it passes where it passes one of them: what passes the
  -- third has as many different elements as what passes the two.
  pub distinct_parts : (p q r : X → Bool) → ((a b : X) → eq a b ≡ true → p a ≡ p b) → ((a b : X) → eq a b ≡ true → q a ≡ q b) → ((a b : X) → eq a b ≡ true → r a ≡ r b) →
      ((x : X) → r x ≡ (p x || q x)) → ((x : X) → (p x && q x) ≡ false) → (xs : List X) → distinct_count eq (filter r xs) ≡ distinct_count eq (filter p xs) + distinct_count eq (filter q xs)
  distinct_parts p q r sp sq sr either apart [] = refl
  distinct_parts p q r sp sq sr either apart (x ∷ xs) =
      by (p x) refl (q x) refl (r x) refl (is_member eq xs x) refl (distinct_parts p q r sp sq sr either apart xs)
    where
      goal : Bool → Bool → Bool → Type 0
      goal a b c = length (unique_keys eq (cond c (x ∷ filter r xs) (filter r xs))) ≡ length (unique_keys eq (cond a (x ∷ filter p xs) (filter p xs))) + length (unique_keys eq (cond b (x ∷ filter q xs) (filter q xs)))

      by : (a : Bool) → p x ≡ a → (b : Bool) → q x ≡ b → (c : Bool) → r x ≡ c → (m : Bool) → is_member eq xs x ≡ m →
          length (unique_keys eq (filter r xs)) ≡ length (unique_keys eq (filter p xs)) + length (unique_keys eq (filter q xs)) →
          length (unique_keys eq (cond c (x ∷ filter r xs) (filter r xs))) ≡ length (unique_keys eq (cond a (x ∷ filter p xs) (filter p xs))) + length (unique_keys eq (cond b (x ∷ filter q xs) (filter q xs)))
      by true pa true qb c rc m is more = absurd (false≢true (sym (apart x) ∙ ap₂ (λ a b. a && b) pa qb))
      by true pa false qb true rc m is more =
          let left = unique_more x (filter p xs) m (member_part p sp x xs pa ∙ is) in
          let whole = unique_more x (filter r xs) m (member_part r sr x xs rc ∙ is) in
          omega (arith, left, whole, more)
      by true pa false qb false rc m is more = absurd (false≢true (sym rc ∙ either x ∙ ap (λ a. a || q x) pa))
      by false pa true qb true rc m is more =
          let right = unique_more x (filter q xs) m (member_part q sq x xs qb ∙ is) in
          let whole = unique_more x (filter r xs) m (member_part r sr x xs rc ∙ is) in
          omega (arith, right, whole, more)
      by false pa true qb false rc m is more = absurd (false≢true (sym rc ∙ either x ∙ ap₂ (λ a b. a || b) pa qb))
      by false pa false qb true rc m is more = absurd (false≢true (sym (sym rc ∙ either x ∙ ap₂ (λ a b. a || b) pa qb)))
      by false pa false qb false rc m is more = more

-- ---- by a test of the file

module _ (P : ℕ → Bool) where
  -- the lines of those extents whose file passes are those lines whose file passes
  lines_part : (es : List Extent) → flat_map lines_of (filter (λ e. P e.file) es) ≡ filter (λ q. P q.file) (flat_map lines_of es)
  lines_part [] = refl
  lines_part (e ∷ es) = by (P e.file) refl (lines_part es) ∙ sym (filter_append (lines_of e) (flat_map lines_of es))
    where
      filter_append : (xs ys : List Line) → filter (λ q. P q.file) (xs ++ ys) ≡ filter (λ q. P q.file) xs ++ filter (λ q. P q.file) ys
      filter_append [] ys = refl
      filter_append (x ∷ xs) ys = go (P x.file) (filter_append xs ys)
        where
          go : (b : Bool) → filter (λ q. P q.file) (xs ++ ys) ≡ filter (λ q. P q.file) xs ++ filter (λ q. P q.file) ys → cond b (x ∷ filter (λ q. P q.file) (xs ++ ys)) (filter (λ q. P q.file) (xs ++ ys)) ≡ cond b (x ∷ filter (λ q. P q.file) xs) (filter (λ q. P q.file) xs) ++ filter (λ q. P q.file) ys
          go true more = ap (λ l. x ∷ l) more
          go false more = more

      all_of : (b : Bool) → P e.file ≡ b → (ns : List ℕ) → filter (λ (q : Line). P q.file) (map (λ n. record { file = e.file; number = n }) ns) ≡ cond b (map (λ n. record { file = e.file; number = n }) ns) []
      all_of true is [] = refl
      all_of false is [] = refl
      all_of true is (n ∷ ns) = ap (λ b. cond b (record { file = e.file; number = n } ∷ filter (λ (q : Line). P q.file) (map (λ n. record { file = e.file; number = n }) ns)) (filter (λ (q : Line). P q.file) (map (λ n. record { file = e.file; number = n }) ns))) is ∙ ap (λ l. record { file = e.file; number = n } ∷ l) (all_of true is ns)
      all_of false is (n ∷ ns) = ap (λ b. cond b (record { file = e.file; number = n } ∷ filter (λ (q : Line). P q.file) (map (λ n. record { file = e.file; number = n }) ns)) (filter (λ (q : Line). P q.file) (map (λ n. record { file = e.file; number = n }) ns))) is ∙ all_of false is ns

      by : (b : Bool) → P e.file ≡ b → flat_map lines_of (filter (λ e. P e.file) es) ≡ filter (λ q. P q.file) (flat_map lines_of es) → flat_map lines_of (cond b (e ∷ filter (λ e. P e.file) es) (filter (λ e. P e.file) es)) ≡ filter (λ q. P q.file) (lines_of e) ++ filter (λ q. P q.file) (flat_map lines_of es)
      by true is more = ap (λ l. lines_of e ++ l) more ∙ ap (λ l. l ++ filter (λ q. P q.file) (flat_map lines_of es)) (sym (all_of true is (range_with_len e.first (e.last + 1 - e.first))))
      by false is more = more ∙ ap (λ l. l ++ filter (λ q. P q.file) (flat_map lines_of es)) (sym (all_of false is (range_with_len e.first (e.last + 1 - e.first))))

  files_part : (es : List Extent) → map (λ e. e.file) (filter (λ e. P e.file) es) ≡ filter P (map (λ e. e.file) es)
  files_part [] = refl
  files_part (e ∷ es) = by (P e.file) (files_part es)
    where
      by : (b : Bool) → map (λ e. e.file) (filter (λ e. P e.file) es) ≡ filter P (map (λ e. e.file) es) → map (λ e. e.file) (cond b (e ∷ filter (λ e. P e.file) es) (filter (λ e. P e.file) es)) ≡ cond b (e.file ∷ filter P (map (λ e. e.file) es)) (filter P (map (λ e. e.file) es))
      by true more = ap (λ l. e.file ∷ l) more
      by false more = more

-- those in files below one
abbrev pub files_below : ℕ → List Extent → List Extent
files_below k es = filter (λ e. nat_lt e.file k) es

-- those in the file
abbrev pub in_one : ℕ → List Extent → List Extent
in_one k es = filter (λ e. e.file == k) es

either_part : (k n : ℕ) → nat_lt n (k + 1) ≡ (nat_lt n k || (n == k))
either_part k n = grind arith

apart_part : (k n : ℕ) → (nat_lt n k && (n == k)) ≡ false
apart_part k n = grind arith

lines_more : (k : ℕ) (es : List Extent) → covered_lines (files_below (k + 1) es) ≡ covered_lines (files_below k es) + covered_lines (in_one k es)
lines_more k es =
    ap (distinct_count same_line) (lines_part (λ n. nat_lt n (k + 1)) es)
    ∙ distinct_parts same_line (λ q. nat_lt q.file k) (λ q. q.file == k) (λ q. nat_lt q.file (k + 1)) (λ a b h. grind arith) (λ a b h. grind arith) (λ a b h. grind arith) (λ q. either_part k q.file) (λ q. apart_part k q.file) (flat_map lines_of es)
    ∙ ap₂ (λ a b. distinct_count same_line a + distinct_count same_line b) (sym (lines_part (λ n. nat_lt n k) es)) (sym (lines_part (λ n. n == k) es))

extents_more : (k : ℕ) (es : List Extent) → different_extents (files_below (k + 1) es) ≡ different_extents (files_below k es) + different_extents (in_one k es)
extents_more k es = distinct_parts same_extent (λ e. nat_lt e.file k) (λ e. e.file == k) (λ e. nat_lt e.file (k + 1)) (λ a b h. grind arith) (λ a b h. grind arith) (λ a b h. grind arith) (λ e. either_part k e.file) (λ e. apart_part k e.file) es

touched_more : (k : ℕ) (es : List Extent) → files_touched (files_below (k + 1) es) ≡ files_touched (files_below k es) + files_touched (in_one k es)
touched_more k es =
    ap (distinct_count (λ a b. a == b)) (files_part (λ n. nat_lt n (k + 1)) es)
    ∙ distinct_parts (λ a b. a == b) (λ n. nat_lt n k) (λ n. n == k) (λ n. nat_lt n (k + 1)) (λ a b h. grind arith) (λ a b h. grind arith) (λ a b h. grind arith) (λ n. either_part k n) (λ n. apart_part k n) (map (λ e. e.file) es)
    ∙ ap₂ (λ a b. distinct_count (λ a b. a == b) a + distinct_count (λ a b. a == b) b) (sym (files_part (λ n. nat_lt n k) es)) (sym (files_part (λ n. n == k) es))

-- What a file more comes to is added.
pub tally_more : (k : ℕ) (es : List Extent) (t u : Tally) → IsTallyOf (files_below k es) t → IsTallyOf (in_one k es) u → IsTallyOf (files_below (k + 1) es) (record { lines = t.lines + u.lines; extents = t.extents + u.extents; files = t.files + u.files })
tally_more k es t u before here = record {
  lines = ap₂ (λ a b. a + b) before.lines here.lines ∙ sym (lines_more k es);
  extents_are = ap₂ (λ a b. a + b) before.extents_are here.extents_are ∙ sym (extents_more k es);
  files = ap₂ (λ a b. a + b) before.files here.files ∙ sym (touched_more k es);
}

none_below : (es : List Extent) → files_below 0 es ≡ []
none_below [] = refl
none_below (e ∷ es) = ap (λ b. cond b (e ∷ files_below 0 es) (files_below 0 es)) (low e.file) ∙ none_below es
  where
    low : (n : ℕ) → nat_lt n 0 ≡ false
    low n = grind arith

pub tally_none : (es : List Extent) → IsTallyOf (files_below 0 es) (record { lines = 0; extents = 0; files = 0 })
tally_none es = subst (λ xs. IsTallyOf xs (record { lines = 0; extents = 0; files = 0 })) (sym (none_below es)) (record { lines = refl; extents_are = refl; files = refl })

pub all_below : (n : ℕ) (es : List Extent) → AreBelow n es → files_below n es ≡ es
all_below n [] below = refl
all_below n (e ∷ es) below =
    ap (λ b. cond b (e ∷ files_below n es) (files_below n es)) (low e.file (All-head (λ e. e.file < n) e es below)) ∙ ap (λ l. e ∷ l) (all_below n es (All-tail (λ e. e.file < n) e es below))
  where
    low : (k : ℕ) → k < n → nat_lt k n ≡ true
    low k h = grind arith

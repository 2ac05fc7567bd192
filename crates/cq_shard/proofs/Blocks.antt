-- The puts of blocks, and blocks that change.
use Rattle.std.proofs.Common.{◌≡◌, ℕ, ◌+◌, ◌-◌, ◌<◌, ◌≤◌, Bool, true, false, cond, nat_le, nat_lt, List, [], ◌∷◌, ◌++◌, length, map, filter, take, drop, get_or, set, refl, sym, ap, ◌∙◌, subst, ⊎_elim, arith, append-nil, append_assoc}
use Rattle.std.specs.Prelude.{All, Contains}
use Rattle.std.specs.List.Sorted.{IsStrictlyIncreasing, IsPartitionedBy}
use Rattle.std.proofs.lemmas.Bool.{cases_lt, cases_order, eqb-true, false≢true, false_from_ne_true, le-leb, leb-true, lt-ltb, ltb-true}
use Rattle.std.proofs.lemmas.Grind.{flat_map-append}
use Rattle.std.proofs.lemmas.List.{flat_map_more, get_or_default, length-append, length-set, take-append-drop, take_all, take_more, take_more_set}
use Rattle.std.proofs.lemmas.List.Elements.{All-append, All-contains, All-filter, All-map, All-push, All-weaker, Contains-append_cases, Contains-append_left, Contains-append_right, Contains-get_or, Contains-push, filter-append}
use Rattle.std.proofs.lemmas.List.Kept.{AllPairs-filter, AllPairs-from_increasing, IsStrictlyIncreasing-filter}
use Rattle.std.proofs.lemmas.List.Quantifiers.{all_pairs_push}
use Rattle.std.proofs.lemmas.Map.Views.{Contains-from_any}
use Rattle.cq_base.proofs.Lists.{All-from_contains, AllPairs-front, AllPairs-map, AllPairs-weaker, Contains-cases, Contains-from_filter, Contains-here, Contains-nil, Contains-there}
use Rattle.cq_shard.specs.declared.table.Block.{Block}
use Rattle.cq_shard.specs.Blocks.{GrowsBy, IsFirstAfter, IsTable, IsTableOf, has_puts, puts_in, with_puts}
use Rattle.cq_shard.specs.Tables.{is_among}
use Rattle.cq_shard.proofs.Entries.{any_of}
use Rattle.cq_shard.proofs.Gathering.{pairs_across}
use Rattle.cq_shard.proofs.Live.{rises}
use Rattle.cq_shard.proofs.Taking.{rising_before, rising_behind}

-- ---- which puts blocks have

pub in_some : (blocks : List Block) (n : ℕ) → Contains (puts_in blocks) n → (b : Block) × Contains blocks b × Contains b.puts n
in_some [] n c = absurd (Contains-nil n c)
in_some (b ∷ blocks) n c =
    ⊎_elim
    (λ here. (b, Contains-here b blocks, here))
    (λ later. let found = in_some blocks n later in (found.0, Contains-there b found.0 blocks found.1, found.2))
    (Contains-append_cases b.puts (puts_in blocks) n c)

pub in_all : (blocks : List Block) (b : Block) (n : ℕ) → Contains blocks b → Contains b.puts n → Contains (puts_in blocks) n
in_all [] b n there c = absurd (Contains-nil b there)
in_all (x ∷ blocks) b n there c =
    ⊎_elim
    (λ same. Contains-append_left x.puts (puts_in blocks) n (subst (λ (y : Block). Contains y.puts n) (sym same) c))
    (λ later. Contains-append_right x.puts (puts_in blocks) n (in_all blocks b n later c))
    (Contains-cases x b blocks there)

one_more : (blocks : List Block) (b : Block) → puts_in blocks ++ b.puts ≡ puts_in (blocks ++ b ∷ [])
one_more blocks b = flat_map_more (λ (x : Block). x.puts) [] blocks b

pub apart : (xs ys : List ℕ) → IsStrictlyIncreasing (xs ++ ys) → (m n : ℕ) → Contains xs m → Contains ys n → m < n
apart xs ys up m n here there = pairs_across (λ a b. a < b) xs ys m n (AllPairs-from_increasing (xs ++ ys) up) here there

abbrev HasInside : Block → Type 0
HasInside b = All (λ n. b.start ≤ n) b.puts

abbrev IsBelow : Block → Block → Type 0
IsBelow a b = All (λ n. n < b.start) a.puts

-- ---- a test leaves some puts, and blocks with none go

pub puts_kept : (p : ℕ → Bool) (blocks : List Block) → puts_in (map (with_puts (filter p)) blocks) ≡ filter p (puts_in blocks)
puts_kept p [] = refl
puts_kept p (b ∷ blocks) = ap (λ ns. filter p b.puts ++ ns) (puts_kept p blocks) ∙ sym (filter-append p b.puts (puts_in blocks))

no_puts : (ns : List ℕ) → nat_lt 0 (length ns) ≡ false → ns ≡ []
no_puts [] none = refl
no_puts (n ∷ ns) none = absurd (false≢true (sym none ∙ lt-ltb 0 (length (n ∷ ns)) (omega arith)))

dropped_one : (has : Bool) (b : Block) (rest less : List Block) → (has ≡ false → b.puts ≡ []) → puts_in less ≡ puts_in rest → puts_in (cond has (b ∷ less) less) ≡ b.puts ++ puts_in rest
dropped_one true b rest less none same = ap (λ ns. b.puts ++ ns) same
dropped_one false b rest less none same = same ∙ sym (ap (λ ns. ns ++ puts_in rest) (none refl))

pub puts_dropped : (blocks : List Block) → puts_in (filter has_puts blocks) ≡ puts_in blocks
puts_dropped [] = refl
puts_dropped (b ∷ blocks) = dropped_one (has_puts b) b blocks (filter has_puts blocks) (no_puts b.puts) (puts_dropped blocks)

module _ (p : ℕ → Bool) where
  pub puts_left : (blocks : List Block) → puts_in (filter has_puts (map (with_puts (filter p)) blocks)) ≡ filter p (puts_in blocks)
  puts_left blocks = puts_dropped (map (with_puts (filter p)) blocks) ∙ puts_kept p blocks

  pub table_left : (blocks : List Block) → IsTable blocks → IsTable (filter has_puts (map (with_puts (filter p)) blocks))
  table_left blocks is =
      let left = map (with_puts (filter p)) blocks in
      record {
        rising = subst IsStrictlyIncreasing (sym (puts_left blocks)) (IsStrictlyIncreasing-filter p (puts_in blocks) is.rising);
        some = All-from_contains (λ (b : Block). 0 < length b.puts) (filter has_puts left) (λ b c. ltb-true 0 (length b.puts) (Contains-from_filter has_puts left b c).1);
        inside = All-filter has_puts HasInside left (All-map HasInside (with_puts (filter p)) blocks
            (All-weaker HasInside (λ b. HasInside (with_puts (filter p) b)) (λ b from. All-filter p (λ n. b.start ≤ n) b.puts from) blocks is.inside));
        follow = AllPairs-filter IsBelow has_puts left (AllPairs-map IsBelow (with_puts (filter p)) blocks
            (AllPairs-weaker IsBelow (λ a b. IsBelow (with_puts (filter p) a) (with_puts (filter p) b)) blocks (λ a b here there below. All-filter p (λ n. n < b.start) a.puts below) is.follow));
      }

-- ---- where a put is

pub same_tests : (a b : Bool) → (a ≡ true → b ≡ true) → (b ≡ true → a ≡ true) → a ≡ b
same_tests true b there back = sym (there refl)
same_tests false true there back = back refl
same_tests false false there back = refl

starts_rise : (blocks : List Block) → IsTable blocks → (i j : ℕ) (d : Block) → i < j → j < length blocks → (get_or blocks i d).start < (get_or blocks j d).start
starts_rise blocks is i j d lt within =
    let some = is.some i d (omega (arith, lt, within)) in
    let from = is.inside i d (omega (arith, lt, within)) 0 0 some in
    let below = is.follow i j d lt within 0 0 some in
    omega (arith, from, below)

pub parted_blocks : (blocks : List Block) (change : ℕ) → IsTable blocks → IsPartitionedBy (λ b. nat_le b.start change) blocks
parted_blocks blocks change is i j d low within later =
    ⊎_elim
    (λ e. subst (λ k. nat_le (get_or blocks k d).start change ≡ true) (sym e) later)
    (λ other. ⊎_elim
    (λ lt. let up = starts_rise blocks is i j d lt within in let most = leb-true (get_or blocks j d).start change later in le-leb (get_or blocks i d).start change (omega (arith, up, most)))
    (λ more. absurd (omega (arith, low, more)))
    other)
    (cases_order i j)

pub starts_after : (start change : ℕ) → nat_le start change ≡ false → change < start
starts_after start change fails = ⊎_elim
    (λ (lt : change < start). lt)
    (λ (le : start ≤ change). absurd (false≢true (sym fails ∙ le-leb start change le)))
    (cases_lt change start)

module _ (blocks : List Block) (is : IsTable blocks) (change k : ℕ) (first : IsFirstAfter blocks change k) where
  the_block : (b : Block) → Contains blocks b → Contains b.puts change → (0 < k) × (b ≡ get_or blocks (k - 1) b)
  the_block b (i, inside, same) c =
      let from = All-contains (λ n. b.start ≤ n) b.puts change (All-contains HasInside blocks b is.inside (i, inside, same)) c in
      ⊎_elim
      (λ (lt : i < k). ⊎_elim
      (λ (before : i + 1 < k).
      let within = first.within in
      let below = is.follow i (k - 1) b (omega (arith, before)) (omega (arith, before, within)) in
      let less = All-contains (λ n. n < (get_or blocks (k - 1) b).start) (get_or blocks i b).puts change below (subst (λ (x : Block). Contains x.puts change) (sym same) c) in
      let most = first.before (k - 1) b (omega arith) (omega (arith, before)) in
      absurd (omega (arith, less, most)))
      (λ (no : k ≤ i + 1). let e : i ≡ k - 1 = omega (arith, lt, no) in (omega (arith, lt), sym same ∙ ap (λ j. get_or blocks j b) e))
      (cases_lt (i + 1) k))
      (λ (no : k ≤ i).
      let above = first.after i b no inside in
      let start : (get_or blocks i b).start ≡ b.start = ap (λ (x : Block). x.start) same in
      absurd (omega (arith, above, start, from)))
      (cases_lt i k)

  pub has_none : k ≡ 0 → is_among (puts_in blocks) change ≡ false
  has_none none = false_from_ne_true (is_among (puts_in blocks) change) (λ h.
      let (b, there, c) = in_some blocks change (Contains-from_any eqb-true change (puts_in blocks) h) in
      let some = (the_block b there c).0 in
      omega (arith, some, none))

  pub has_there : (d : Block) → 0 < k → is_among (get_or blocks (k - 1) d).puts change ≡ is_among (puts_in blocks) change
  has_there d some =
      let x = get_or blocks (k - 1) d in
      let within = first.within in
      let inside : k - 1 < length blocks = omega (arith, some, within) in
      same_tests (is_among x.puts change) (is_among (puts_in blocks) change)
      (λ h. any_of change (puts_in blocks) (in_all blocks x change (Contains-get_or blocks (k - 1) d inside) (Contains-from_any eqb-true change x.puts h)))
      (λ h.
      let (b, there, c) = in_some blocks change (Contains-from_any eqb-true change (puts_in blocks) h) in
      any_of change x.puts (subst (λ (y : Block). Contains y.puts change) ((the_block b there c).1 ∙ get_or_default blocks (k - 1) b d inside) c))

-- ---- the first blocks

pub empty_table : IsTable []
empty_table = record {
  rising = λ k within. absurd (omega (arith, within));
  some = λ k d within. absurd (omega (arith, within));
  inside = λ k d within. absurd (omega (arith, within));
  follow = λ i j d lt within. absurd (omega (arith, within));
}

pub next_puts : (blocks : List Block) (i : ℕ) (b : Block) → i < length blocks → b ≡ get_or blocks i b → puts_in (take i blocks) ++ b.puts ≡ puts_in (take (i + 1) blocks)
next_puts blocks i b within at =
    one_more (take i blocks) b ∙ ap puts_in (ap (λ (x : Block). take i blocks ++ x ∷ []) at ∙ sym (take_more blocks i b within))

pub first_rise : (blocks : List Block) (i : ℕ) → IsStrictlyIncreasing (puts_in blocks) → IsStrictlyIncreasing (puts_in (take i blocks))
first_rise blocks i up = rising_before (puts_in (take i blocks)) (puts_in (drop i blocks))
    (subst IsStrictlyIncreasing (sym (ap puts_in (take-append-drop i blocks)) ∙ flat_map-append (λ (x : Block). x.puts) (take i blocks) (drop i blocks)) up)

-- ---- more puts

pub grows_none : (numbers old : List ℕ) → GrowsBy numbers old old
grows_none numbers old = record { many = 0; is = sym (append-nil old) }

module _ (front : List Block) (b : Block) (more : List ℕ) (is : IsTable (front ++ b ∷ [])) (up : IsStrictlyIncreasing (puts_in (front ++ b ∷ []) ++ more)) where
  abbrev last : Block
  last = with_puts (λ ns. ns ++ more) b

  joined : puts_in (front ++ last ∷ []) ≡ puts_in (front ++ b ∷ []) ++ more
  joined = sym (one_more front last) ∙ sym (append_assoc (puts_in front) b.puts more) ∙ ap (λ ns. ns ++ more) (one_more front b)

  last_rises : IsStrictlyIncreasing (b.puts ++ more)
  last_rises = rising_behind (puts_in front) (b.puts ++ more) (subst IsStrictlyIncreasing (ap (λ ns. ns ++ more) (sym (one_more front b)) ∙ append_assoc (puts_in front) b.puts more) up)

  appended : IsTableOf (puts_in (front ++ b ∷ []) ++ more) (front ++ last ∷ [])
  appended =
      let all = front ++ b ∷ [] in
      let there = Contains-push front b in
      let has = All-contains (λ (x : Block). 0 < length x.puts) all b is.some there in
      let from = All-contains HasInside all b is.inside there in
      let long = length-append b.puts more in
      record {
        table = record {
          rising = subst IsStrictlyIncreasing (sym joined) up;
          some = All-push (λ (x : Block). 0 < length x.puts) front last
              (All-from_contains (λ (x : Block). 0 < length x.puts) front (λ x c. All-contains (λ (x : Block). 0 < length x.puts) all x is.some (Contains-append_left front (b ∷ []) x c)))
              (omega (arith, long, has));
          inside = All-push HasInside front last
              (All-from_contains HasInside front (λ x c. All-contains HasInside all x is.inside (Contains-append_left front (b ∷ []) x c)))
              (All-append (λ n. b.start ≤ n) b.puts more from (All-from_contains (λ n. b.start ≤ n) more (λ n c.
              let later = apart b.puts more last_rises (get_or b.puts 0 0) n (Contains-get_or b.puts 0 0 has) c in
              let first = from 0 0 has in
              omega (arith, later, first))));
          follow = all_pairs_push IsBelow front last (AllPairs-front IsBelow front (b ∷ []) is.follow)
              (λ k d lt. pairs_across IsBelow front (b ∷ []) (get_or front k d) b is.follow (Contains-get_or front k d lt) (Contains-here b []));
        };
        are = joined;
      }

whole : (blocks : List Block) (b : Block) → 0 < length blocks → b ≡ get_or blocks (length blocks - 1) b → blocks ≡ take (length blocks - 1) blocks ++ b ∷ []
whole blocks b some is =
    let n = length blocks - 1 in
    sym (take_all (n + 1) blocks (omega arith))
    ∙ take_more blocks n b (omega (arith, some))
    ∙ ap (λ (x : Block). take n blocks ++ x ∷ []) (sym is)

whole_set : (blocks : List Block) (y : Block) → 0 < length blocks → set blocks (length blocks - 1) y ≡ take (length blocks - 1) blocks ++ y ∷ []
whole_set blocks y some =
    let n = length blocks - 1 in
    let long = length-set blocks n y in
    sym (take_all (n + 1) (set blocks n y) (omega (arith, long))) ∙ take_more_set blocks n y (omega (arith, some))

module _ (blocks : List Block) (b : Block) (more : List ℕ) (some : 0 < length blocks) (at : b ≡ get_or blocks (length blocks - 1) b) (up : IsStrictlyIncreasing (puts_in blocks ++ more)) where
  abbrev front : List Block
  front = take (length blocks - 1) blocks

  pub last_rises_by : IsStrictlyIncreasing (b.puts ++ more)
  last_rises_by =
      let e = whole blocks b some at in
      rising_behind (puts_in front) (b.puts ++ more)
      (subst IsStrictlyIncreasing (ap (λ ns. ns ++ more) (ap puts_in e ∙ sym (one_more front b)) ∙ append_assoc (puts_in front) b.puts more) up)

  pub appended_last : (y : Block) → IsTable blocks → y ≡ with_puts (λ ns. ns ++ more) b → IsTableOf (puts_in blocks ++ more) (set blocks (length blocks - 1) y)
  appended_last y table is =
      let e = whole blocks b some at in
      subst (IsTableOf (puts_in blocks ++ more)) (sym (whole_set blocks y some ∙ ap (λ (z : Block). front ++ z ∷ []) is))
      (subst (λ (ns : List ℕ). IsTableOf (ns ++ more) (front ++ with_puts (λ ns. ns ++ more) b ∷ [])) (sym (ap puts_in e))
      (appended front b more (subst IsTable e table) (subst (λ (ns : List ℕ). IsStrictlyIncreasing (ns ++ more)) (ap puts_in e) up)))

-- a block more
pub block_pushed : (blocks : List Block) (more : List ℕ) (new : Block) → IsTable blocks → IsStrictlyIncreasing (puts_in blocks ++ more) → 0 < length more → new.puts ≡ more → new.start ≡ get_or more 0 0 → IsTableOf (puts_in blocks ++ more) (blocks ++ new ∷ [])
block_pushed blocks more new is up some are start =
    let sum : puts_in (blocks ++ new ∷ []) ≡ puts_in blocks ++ more = sym (one_more blocks new) ∙ ap (λ ns. puts_in blocks ++ ns) are in
    record {
      table = record {
        rising = subst IsStrictlyIncreasing (sym sum) up;
        some = All-push (λ (x : Block). 0 < length x.puts) blocks new is.some (subst (λ (ns : List ℕ). 0 < length ns) (sym are) some);
        inside = All-push HasInside blocks new is.inside (subst (λ (ns : List ℕ). All (λ n. new.start ≤ n) ns) (sym are) (λ k d lt.
            let h = rises more (rising_behind (puts_in blocks) more up) 0 k (omega arith) lt in
            let e = get_or_default more k d 0 lt in
            omega (arith, h, e, start)));
        follow = all_pairs_push IsBelow blocks new is.follow (λ k d lt. All-from_contains (λ n. n < new.start) (get_or blocks k d).puts (λ n c.
            let h = apart (puts_in blocks) more up n (get_or more 0 0) (in_all blocks (get_or blocks k d) n (Contains-get_or blocks k d lt) c) (Contains-get_or more 0 0 some) in
            omega (arith, h, start)));
      };
      are = sum;
    }

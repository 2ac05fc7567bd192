-- What a sweep takes out of blocks, block by block.
use Rattle.std.proofs.Common.{◌≡◌, ℕ, ◌+◌, ◌-◌, ◌<◌, ◌≤◌, Bool, cond, ◌||◌, nat_lt, List, [], ◌∷◌, ◌++◌, length, filter, take, drop, get_or, refl, sym, ap, ◌∙◌, subst, inl, inr, ⊎_elim, arith}
use Rattle.std.specs.Prelude.{Contains}
use Rattle.std.specs.List.Sorted.{IsStrictlyIncreasing}
use Rattle.std.proofs.lemmas.Bool.{eqb-true}
use Rattle.std.proofs.lemmas.Grind.{flat_map-append}
use Rattle.std.proofs.Math.Seq.{take-add}
use Rattle.std.proofs.lemmas.List.{drop-drop, drop_more, get_or_default, length-drop, take-append-drop}
use Rattle.std.proofs.lemmas.List.Kept.{AllPairs-from_increasing}
use Rattle.std.proofs.lemmas.List.Elements.{All-contains, Contains-get_or, Contains-append_cases, Contains-append_left, Contains-append_right}
use Rattle.std.proofs.lemmas.Map.Views.{Contains-from_any}
use Rattle.cq_base.proofs.Lists.{All-from_contains, Contains-here, Contains-there}
use Rattle.cq_shard.specs.declared.table.Block.{Block}
use Rattle.cq_shard.specs.Blocks.{puts_in}
use Rattle.cq_shard.specs.Tables.{AreAmong, AreAmongOrAbove, IsUpTo, is_among, last_in, stays, staying}
use Rattle.cq_shard.proofs.Blocks.{apart, same_tests}
use Rattle.cq_shard.proofs.Entries.{any_of}
use Rattle.cq_shard.proofs.Leaving.{front_in, front_has, rest_above}
use Rattle.cq_shard.proofs.Live.{rises}
use Rattle.cq_shard.proofs.Taking.{rising_before, rising_behind, rising_rest}

pub filters_same : {X : Type 0} (p q : X → Bool) (xs : List X) → ((x : X) → Contains xs x → p x ≡ q x) → filter p xs ≡ filter q xs
filters_same p q [] same = refl
filters_same p q (x ∷ xs) same =
    ap (λ b. cond b (x ∷ filter p xs) (filter p xs)) (same x (Contains-here x xs))
    ∙ ap (λ ys. cond (q x) (x ∷ ys) ys) (filters_same p q xs (λ z c. same z (Contains-there x z xs c)))

in_rest : (xs : List ℕ) (k n : ℕ) → Contains (drop k xs) n → Contains xs n
in_rest xs k n c = subst (λ ns. Contains ns n) (take-append-drop k xs) (Contains-append_right (take k xs) (drop k xs) n c)

in_parts : (xs : List ℕ) (k n : ℕ) → Contains xs n → Contains (take k xs ++ drop k xs) n
in_parts xs k n c = subst (λ ns. Contains ns n) (sym (take-append-drop k xs)) c

-- those that are at most the last of some numbers are among these, if each is among them or above all
last_there : (puts : List ℕ) → 0 < length puts → Contains puts (last_in puts)
last_there puts some = Contains-get_or puts (length puts - 1) 0 (omega (arith, some))

pub known_here : (puts keep : List ℕ) (k : ℕ) → 0 < length puts → AreAmongOrAbove keep puts → IsUpTo keep (last_in puts) k → AreAmong (take k keep) puts
known_here puts keep k some known up_to n c =
    let (there, low) = front_in keep (last_in puts) k up_to n c in
    ⊎_elim
    (λ here. here)
    (λ above. let less = All-contains (λ m. m < n) puts (last_in puts) above (last_there puts some) in absurd (omega (arith, less, low)))
    (known n there)

-- a place after which the last of some numbers is found
pub near_is : (numbers : List ℕ) (place last : ℕ) → 0 < place → place ≤ length numbers → IsStrictlyIncreasing numbers → get_or numbers (place - 1) 0 ≡ last → IsUpTo numbers last place
near_is numbers place last some within up is = record {
  within = within;
  low = λ k d from lt.
      let e = get_or_default numbers k d 0 (omega (arith, lt, within)) in
      let h = rises numbers up k (place - 1) (omega (arith, lt)) (omega (arith, some, within)) in
      omega (arith, e, h, is);
  high = λ k d from lt.
      let e = get_or_default numbers k d 0 lt in
      let h = AllPairs-from_increasing numbers up (place - 1) k 0 (omega (arith, some, from)) lt in
      omega (arith, e, h, is);
}

-- So many of those to keep are passed: the others are of the blocks from a place on, and above none of these blocks' puts
-- is one of those that are passed.
pub record IsRestOf (blocks : List Block) (keep : List ℕ) (i kept : ℕ) : Type 0 where
  pub within : kept ≤ length keep
  pub rest : AreAmong (drop kept keep) (puts_in (drop i blocks))
  pub front : (m n : ℕ) → Contains (take kept keep) m → Contains (puts_in (drop i blocks)) n → m < n

pub rest_first : (blocks : List Block) (keep : List ℕ) → AreAmong keep (puts_in blocks) → IsRestOf blocks keep 0 0
rest_first blocks keep known = record {
  within = omega arith;
  rest = known;
  front = λ m n (k, within, is). absurd (omega (arith, within));
}

module _ (blocks : List Block) (keep : List ℕ) (up : IsStrictlyIncreasing (puts_in blocks)) (keep_up : IsStrictlyIncreasing keep) (i kept : ℕ) (b : Block) (within : i < length blocks) (at : b ≡ get_or blocks i b) (was : IsRestOf blocks keep i kept) where
  abbrev later : List Block
  later = drop (i + 1) blocks

  abbrev rest : List ℕ
  rest = drop kept keep

  from_here : drop i blocks ≡ b ∷ later
  from_here = drop_more blocks i b within ∙ ap (λ (x : Block). x ∷ later) (sym at)

  puts_from_here : puts_in (drop i blocks) ≡ b.puts ++ puts_in later
  puts_from_here = ap puts_in from_here

  here_rises : IsStrictlyIncreasing (b.puts ++ puts_in later)
  here_rises = subst IsStrictlyIncreasing puts_from_here
      (rising_behind (puts_in (take i blocks)) (puts_in (drop i blocks))
      (subst IsStrictlyIncreasing (sym (ap puts_in (take-append-drop i blocks)) ∙ flat_map-append (λ (x : Block). x.puts) (take i blocks) (drop i blocks)) up))

  rest_rises : IsStrictlyIncreasing rest
  rest_rises = rising_rest keep kept keep_up

  known : (n : ℕ) → Contains rest n → Contains (b.puts ++ puts_in later) n
  known n c = subst (λ ns. Contains ns n) puts_from_here (was.rest n c)

  pub rest_here : AreAmongOrAbove rest b.puts
  rest_here n c = ⊎_elim
      (λ here. inl here)
      (λ there. inr (All-from_contains (λ m. m < n) b.puts (λ m in_b. apart b.puts (puts_in later) here_rises m n in_b there)))
      (Contains-append_cases b.puts (puts_in later) n (known n c))

  module _ (k : ℕ) (some : 0 < length b.puts) (up_to : IsUpTo rest (last_in b.puts) k) where
    abbrev last : ℕ
    last = last_in b.puts

    b_up : IsStrictlyIncreasing b.puts
    b_up = rising_before b.puts (puts_in later) here_rises

    low : (n : ℕ) → Contains b.puts n → n ≤ last
    low n (j, inside, is) =
        let h = rises b.puts b_up j (length b.puts - 1) (omega (arith, inside)) (omega (arith, some)) in
        let e = get_or_default b.puts j n 0 inside in
        omega (arith, h, e, is)

    high : (n : ℕ) → Contains (puts_in later) n → last < n
    high n c = apart b.puts (puts_in later) here_rises last n (length b.puts - 1, omega (arith, some), get_or_default b.puts (length b.puts - 1) last 0 (omega (arith, some))) c

    same_here : (floor n : ℕ) → Contains b.puts n → stays floor (take k rest) n ≡ stays floor keep n
    same_here floor n here = ap (λ t. nat_lt floor n || t) (same_tests (is_among (take k rest) n) (is_among keep n)
        (λ h. any_of n keep (in_rest keep kept n (front_in rest last k up_to n (Contains-from_any eqb-true n (take k rest) h)).0))
        (λ h. any_of n (take k rest) (⊎_elim
        (λ before. let less = was.front n n before (subst (λ ns. Contains ns n) (sym puts_from_here) (Contains-append_left b.puts (puts_in later) n here)) in absurd (omega (arith, less)))
        (λ now. front_has rest last k up_to n now (low n here))
        (Contains-append_cases (take kept keep) rest n (in_parts keep kept n (Contains-from_any eqb-true n keep h))))))

    pub staying_here : (floor : ℕ) → staying floor (take k rest) b.puts ≡ staying floor keep b.puts
    staying_here floor = filters_same (λ n. stays floor (take k rest) n) (λ n. stays floor keep n) b.puts (same_here floor)

    pub rest_next : IsRestOf blocks keep (i + 1) (kept + k)
    rest_next =
        let fits = was.within in
        let most = up_to.within in
        let long = length-drop kept keep in
        record {
          within = omega (arith, fits, most, long);
          rest = λ n c.
              let there : Contains (drop k rest) n = subst (λ ns. Contains ns n) (sym (drop-drop k kept keep)) c in
              let above = rest_above rest last k up_to n there in
              ⊎_elim
              (λ here. let below = low n here in absurd (omega (arith, above, below)))
              (λ on. on)
              (Contains-append_cases b.puts (puts_in later) n (known n (in_rest rest k n there)));
          front = λ m n c there.
              ⊎_elim
              (λ before. was.front m n before (subst (λ ns. Contains ns n) (sym puts_from_here) (Contains-append_right b.puts (puts_in later) n there)))
              (λ now. let below = (front_in rest last k up_to m now).1 in let above = high n there in omega (arith, below, above))
              (Contains-append_cases (take kept keep) (take k rest) m (subst (λ ns. Contains ns m) (take-add kept k keep) c));
        }

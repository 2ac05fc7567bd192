-- Changes taken out where they stand: what is to be kept moves up over what goes.
use Rattle.std.proofs.Common.{◌≡◌, ℕ, ◌+◌, ◌-◌, ◌<◌, ◌≤◌, List, ◌++◌, length, take, drop, get_or, refl, sym, ap, ap₂, ◌∙◌, subst, arith, append_assoc}
use Rattle.std.specs.List.{copy_within}
use Rattle.std.proofs.lemmas.List.{take_all, take-append-drop, drop-drop, length-drop, get_or-take, get_or-drop, get_or_default, same_lists}
use Rattle.std.proofs.Math.Seq.{paste, take-add}
use Rattle.std.proofs.lemmas.List.Edits.{take-paste, drop-paste, length-paste}
use Rattle.cq_clones.proofs.Words.{length-word, get_or-word}
use Rattle.cq_shard.specs.Tables.{IsPart, AreAlikeInFront, AreAlikeUpTo}
use Rattle.cq_shard.proofs.Alike.{IsBehind, alike_in_front, next_behind, rest_alike}

-- what is moved onto itself stays
pub moved_nowhere : (xs : List ℕ) (at n : ℕ) → paste xs at (drop at xs) n ≡ xs
moved_nowhere xs at n =
    append_assoc (take at xs) (take n (drop at xs)) (drop (at + n) xs)
    ∙ ap (λ l. take at xs ++ (take n (drop at xs) ++ l)) (sym (drop-drop n at xs))
    ∙ ap (λ l. take at xs ++ l) (take-append-drop n (drop at xs))
    ∙ take-append-drop at xs

-- as many are moved as there is room for
pub length-moved : (xs : List ℕ) (from many to : ℕ) → to ≤ from → from + many ≤ length xs → length (copy_within xs from (from + many) to) ≡ length xs
length-moved xs from many to low within =
    let rest = length-drop from xs in
    length-paste xs to (drop from xs) (from + many - from) (omega (arith, low, within)) (omega (arith, rest, within))

stretch_same : (xs ys : List ℕ) (a b n : ℕ) → a + n ≤ length xs → b + n ≤ length ys → ((k : ℕ) → k < n → get_or xs (a + k) 0 ≡ get_or ys (b + k) 0) → take n (drop a xs) ≡ take n (drop b ys)
stretch_same xs ys a b n within inside same =
    let few = length-word xs a n within in
    let many = length-word ys b n inside in
    same_lists (take n (drop a xs)) (take n (drop b ys)) (few ∙ sym many) (λ k d lt.
    let near : k < n = omega (arith, lt, few) in
    get_or-word xs a n k d near
    ∙ get_or_default xs (a + k) d 0 (omega (arith, near, within))
    ∙ same k near
    ∙ get_or_default ys (b + k) 0 d (omega (arith, near, inside))
    ∙ sym (get_or-word ys b n k d near))

-- So many are gone, and the first to be kept stand in front, as many as there are up to a place; after what is gone nothing
-- has moved.
pub record IsClosing (old keep now : List ℕ) (gone at : ℕ) : Type 0 where
  pub low : at ≤ length keep
  pub number : length now ≡ length old
  pub made : take at now ≡ take at keep
  pub rest : drop (at + gone) now ≡ drop (at + gone) old

pub closing_first : (old keep : List ℕ) → IsClosing old keep old 0 0
closing_first old keep = record { low = omega arith; number = refl; made = refl; rest = refl }

module _ (old keep : List ℕ) (more : ℕ) (within : length keep + more ≤ length old) (part : IsPart (take (length keep + more) old) keep more) where
  abbrev front : List ℕ
  front = take (length keep + more) old

  module _ (now : List ℕ) (gone at : ℕ) (closing : IsClosing old keep now gone at) (behind : IsBehind front keep gone at) where
    -- what is still to be read is as it was
    read : gone ≤ more → (i : ℕ) → at ≤ i → i < length keep → get_or now (i + gone) 0 ≡ get_or front (i + gone) 0
    read most i from inside =
        let place : at + gone + (i - at) ≡ i + gone = omega (arith, from) in
        ap (λ k. get_or now k 0) (sym place)
        ∙ sym (get_or-drop (at + gone) now (i - at) 0)
        ∙ ap (λ xs. get_or xs (i - at) 0) closing.rest
        ∙ get_or-drop (at + gone) old (i - at) 0
        ∙ ap (λ k. get_or old k 0) place
        ∙ sym (get_or-take (length keep + more) old (i + gone) 0 (omega (arith, inside, most)))

    pub now_in_front : gone ≤ more → AreAlikeInFront now keep gone at
    now_in_front most i j from to inside same =
        read most i from (omega (arith, to, inside))
        ∙ alike_in_front front keep part.rising part.part_rises part.among gone at behind i j from to inside
        (sym (read most j (omega (arith, from, to)) inside) ∙ same)

    module _ (to : ℕ) (most : gone < more) (alike : AreAlikeUpTo now keep gone at to) where
      alike_then : AreAlikeUpTo front keep gone at to
      alike_then =
          let fits : gone ≤ more = omega (arith, most) in
          let begins = alike.begins in
          record {
            begins = alike.begins;
            within = alike.within;
            same = λ i from lt. let most = alike.within in sym (read fits i from (omega (arith, lt, most))) ∙ alike.same i from lt;
            differs = λ here same. alike.differs here (read fits to begins here ∙ same);
          }

      pub behind_next : IsBehind front keep (gone + 1) to
      behind_next = next_behind front keep part.rising part.part_rises part.among gone at to behind alike_then

      pub closing_next : IsClosing old keep (copy_within now (at + gone) (at + gone + (to - at)) at) (gone + 1) to
      closing_next =
          let begins = alike.begins in
          let last = alike.within in
          let number = closing.number in
          let from = at + gone in
          let run = to - at in
          let many = length-drop from now in
          let inside : from + run ≤ length now = omega (arith, begins, last, most, within, number) in
          let some : run ≤ length (drop from now) = omega (arith, many, inside) in
          let place : at ≤ length now = omega (arith, inside) in
          let low : at ≤ from = omega arith in
          let moved = paste now at (drop from now) run in
          let is : copy_within now from (from + run) at ≡ moved = ap (paste now at (drop from now)) (omega arith) in
          let end : at + run ≡ to = omega (arith, begins) in
          let on : at + run + (gone + 1) ≡ from + (run + 1) = omega arith in
          let stretch : take run (drop from now) ≡ take run (drop at keep) =
          stretch_same now keep from at run inside (omega (arith, end, last)) (λ k lt.
          let there : at + k + gone ≡ from + k = omega arith in
          sym (ap (λ i. get_or now i 0) there) ∙ alike.same (at + k) (omega arith) (omega (arith, lt, begins))) in
          subst (λ xs. IsClosing old keep xs (gone + 1) to) (sym is) (record {
            low = last;
            number = ap length (sym is) ∙ length-moved now from run at low inside ∙ number;
            made =
                ap (λ k. take k moved) (sym end)
                ∙ take-paste now at (drop from now) run place some
                ∙ ap₂ (λ xs ys. xs ++ ys) closing.made stretch
                ∙ sym (take-add at run keep)
                ∙ ap (λ k. take k keep) end;
            rest =
                ap (λ k. drop (k + (gone + 1)) moved) (sym end)
                ∙ sym (drop-drop (gone + 1) (at + run) moved)
                ∙ ap (drop (gone + 1)) (drop-paste now at (drop from now) run place some)
                ∙ drop-drop (gone + 1) (at + run) now
                ∙ ap (λ k. drop k now) on
                ∙ sym (drop-drop (run + 1) from now)
                ∙ ap (drop (run + 1)) closing.rest
                ∙ drop-drop (run + 1) from old
                ∙ ap (λ k. drop k old) (sym on)
                ∙ ap (λ k. drop (k + (gone + 1)) old) end;
          })

  -- after the last that goes all stands alike
  pub rest_stands : (at : ℕ) → at ≤ length keep → IsBehind front keep more at → take at keep ++ drop (at + more) old ≡ keep ++ drop (length keep + more) old
  rest_stands at low behind =
      let left = length keep - at in
      let rest = drop (at + more) old in
      let many = length-drop at keep in
      let end : at + more + left ≡ length keep + more = omega (arith, low) in
      let stretch : take left rest ≡ take left (drop at keep) =
      stretch_same old keep (at + more) at left (omega (arith, end, within)) (omega (arith, low)) (λ k lt.
      let there : at + k + more ≡ at + more + k = omega arith in
      ap (λ i. get_or old i 0) (sym there)
      ∙ sym (get_or-take (length keep + more) old (at + k + more) 0 (omega (arith, lt, low)))
      ∙ rest_alike front keep part.rising part.part_rises part.among more part.number at behind (at + k) (omega arith) (omega (arith, lt, low))) in
      ap (λ xs. take at keep ++ xs) (sym (take-append-drop left rest))
      ∙ ap₂ (λ xs ys. take at keep ++ (xs ++ ys)) (stretch ∙ take_all left (drop at keep) (omega (arith, many))) (drop-drop left (at + more) old ∙ ap (λ k. drop k old) end)
      ∙ sym (append_assoc (take at keep) (drop at keep) (drop (length keep + more) old))
      ∙ ap (λ xs. xs ++ drop (length keep + more) old) (take-append-drop at keep)

  pub closing_last : (now : List ℕ) (at rest : ℕ) → IsClosing old keep now more at → IsBehind front keep more at → rest ≡ length now - (at + more)
      → take (at + rest) (copy_within now (at + more) (at + more + rest) at) ≡ keep ++ drop (length keep + more) old
  closing_last now at rest closing behind is =
      let low = closing.low in
      let number = closing.number in
      let from = at + more in
      let many = length-drop from now in
      let some : rest ≤ length (drop from now) = omega (arith, many, is) in
      let place : at ≤ length now = omega (arith, low, within, number) in
      let moved : copy_within now from (from + rest) at ≡ paste now at (drop from now) rest = ap (paste now at (drop from now)) (omega arith) in
      ap (take (at + rest)) moved
      ∙ take-paste now at (drop from now) rest place some
      ∙ ap₂ (λ xs ys. xs ++ ys) closing.made (take_all rest (drop from now) (omega (arith, many, is)) ∙ closing.rest)
      ∙ rest_stands at low behind

-- The extents of tokens lie in one file, and a walk counts their lines where they rise.
use Rattle.std.proofs.Common.{◌≡◌, ℕ, ◌+◌, ◌-◌, ◌^◌, ◌<◌, ◌≤◌, true, false, cond, List, [], ◌∷◌, map, filter, refl, sym, ap, subst, ◌∙◌, inl, inr, arith}
use Rattle.std.proofs.lemmas.List.Elements.{All-map}
use Rattle.std.specs.List.{AllByRecursion}
use Rattle.cq_base.specs.declared.token.Token.{Token}
use Rattle.cq_measures.specs.declared.extent.Extent.{Extent}
use Rattle.cq_measures.specs.Extents.{extent_of_token, has_bytes, code_lines}
use Rattle.cq_measures.specs.Sorted.{AreBelow, greater, new_count}
use Rattle.cq_measures.proofs.Sweep.{Begins, Rise, rising-is}

pub code_below : (n : ℕ) (tokens : List Token) → 0 < n → AreBelow n (map extent_of_token tokens)
code_below n tokens some = All-map (λ e. e.file < n) extent_of_token tokens (λ k d inside. some)

-- the extents of the tokens that have bytes
abbrev pub extents_of : List Token → List Extent
extents_of tokens = map extent_of_token (filter has_bytes tokens)

-- `lines` of all tokens are counted, the last that has bytes begins on line `first`, and those below `free` are taken; these
-- tokens are left
pub record IsWalked (all left : List Token) (first free lines : ℕ) : Type 0 where
  pub counted : lines + new_count 0 free (extents_of left) ≡ new_count 0 0 (extents_of all)
  pub rise : AllByRecursion (Begins 0 first) (extents_of left) → Rise (extents_of left) → Rise (extents_of all)
  pub within : lines ≤ free
  pub small : free ≤ 2 ^ 32

-- no token was looked at
pub none_walked : (all : List Token) → IsWalked all all 0 0 0
none_walked all = record { counted = omega arith; rise = λ begin rise. rise; within = omega arith; small = omega arith }

-- a token without bytes
pub walked_past : (all left : List Token) (t : Token) (first free lines : ℕ) → has_bytes t ≡ false → IsWalked all (t ∷ left) first free lines → IsWalked all left first free lines
walked_past all left t first free lines none before =
    let same : extents_of (t ∷ left) ≡ extents_of left = ap (λ b. map extent_of_token (cond b (t ∷ filter has_bytes left) (filter has_bytes left))) none in
    record {
      counted = ap (λ es. lines + new_count 0 free es) (sym same) ∙ before.counted;
      rise = λ begin rise. before.rise (subst (AllByRecursion (Begins 0 first)) (sym same) begin) (subst Rise (sym same) rise);
      within = before.within;
      small = before.small;
    }

-- those that begin no earlier than a line begin no earlier than one before it
begin_from : (a b : ℕ) (es : List Extent) → a ≤ b → AllByRecursion (Begins 0 b) es → AllByRecursion (Begins 0 a) es
begin_from a b [] le begin = begin
begin_from a b (e ∷ es) le begin = (earlier a b e le begin.0, begin_from a b es le begin.1)
  where
    earlier : (a b : ℕ) (e : Extent) → a ≤ b → Begins 0 b e → Begins 0 a e
    earlier a b e le (inl less) = inl less
    earlier a b e le (inr same) = inr (same.0, omega (arith, le, same.1))

-- a token more
pub walked_more : (all left : List Token) (t : Token) (first free lines : ℕ) → t.last_line < 2 ^ 32 → has_bytes t ≡ true → first ≤ t.first_line → IsWalked all (t ∷ left) first free lines
    → IsWalked all left t.first_line (greater (t.last_line + 1) free) (lines + (t.last_line + 1 - greater t.first_line free))
walked_more all left t first free lines fits some later before =
    let same : extents_of (t ∷ left) ≡ extent_of_token t ∷ extents_of left = ap (λ b. map extent_of_token (cond b (t ∷ filter has_bytes left) (filter has_bytes left))) some in
    record {
      counted = let total = ap (λ es. lines + new_count 0 free es) (sym same) ∙ before.counted in omega (arith, total);
      rise = λ begin rise. before.rise
          (subst (AllByRecursion (Begins 0 first)) (sym same) (inr (refl, later), begin_from first t.first_line (extents_of left) later begin))
          (subst Rise (sym same) (begin, rise));
      within = let bound = before.within in more_within t free lines bound;
      small = let bound = before.small in more_small t free fits bound;
    }
  where
    more_within : (t : Token) (free lines : ℕ) → lines ≤ free → lines + (t.last_line + 1 - greater t.first_line free) ≤ greater (t.last_line + 1) free
    more_within t free lines bound = grind arith

    more_small : (t : Token) (free : ℕ) → t.last_line < 2 ^ 32 → free ≤ 2 ^ 32 → greater (t.last_line + 1) free ≤ 2 ^ 32
    more_small t free fits bound = grind arith

-- all of them
pub walked_all : (all : List Token) (first free lines : ℕ) → IsWalked all [] first free lines → lines ≡ code_lines all
walked_all all first free lines walked =
    let total = walked.counted in
    let is = rising-is (extents_of all) (walked.rise tt tt) in
    omega (arith, total, is)

-- Lines of a file, one after the other, and the lines that extents cover.
use Rattle.std.proofs.Common.{◌≡◌, ℕ, zero, suc, ◌+◌, ◌-◌, Bool, true, false, ◌||◌, ◌&&◌, List, [], ◌∷◌, map, length, refl, sym, ap, ap₂, ◌∙◌, arith}
use Rattle.std.specs.Prelude.{◌==◌, nat_lt, nat_le}
use Rattle.std.specs.Cmp.{IsEquivalence}
use Rattle.std.specs.List.{AllByRecursion, IsDistinct, flat_map, range_with_len, list_any}
use Rattle.std.specs.Set.{is_member}
use Rattle.std.proofs.lemmas.Bool.{or_parts}
use Rattle.std.proofs.lemmas.Map.Keys.{IsDistinct-cons}
use Rattle.std.proofs.lemmas.List.Folds.{list_any-append}
use Rattle.cq_measures.specs.declared.extent.Extent.{Extent}
use Rattle.cq_measures.specs.Extents.{Line, same_line, lines_of}

pub same_line-laws : IsEquivalence same_line
same_line-laws = record {
  refl = λ a. grind arith;
  symm = λ a b. grind arith;
  congr = λ a b c h. grind arith;
}

-- `n` lines of a file from one on, before others
abbrev pub lines_on : ℕ → ℕ → ℕ → List Line → List Line
lines_on file a zero rest = rest
lines_on file a (suc n) rest = record { file = file; number = a } ∷ lines_on file (a + 1) n rest

pub length-lines_on : (file a n : ℕ) (rest : List Line) → length (lines_on file a n rest) ≡ n + length rest
length-lines_on file a zero rest = omega arith
length-lines_on file a (suc n) rest = let more = length-lines_on file (a + 1) n rest in omega (arith, more)

-- the line is one of the `n`
abbrev pub is_on : ℕ → ℕ → ℕ → Line → Bool
is_on file a n q = q.file == file && (nat_le a q.number && nat_lt q.number (a + n))

is_on-more : (file a n : ℕ) (q : Line) (b : Bool) → (same_line q (record { file = file; number = a }) || (is_on file (a + 1) n q || b)) ≡ (is_on file a (suc n) q || b)
is_on-more file a n q b = grind arith

is_on-none : (file a : ℕ) (q : Line) → is_on file a 0 q ≡ false
is_on-none file a q = grind arith

pub member-lines_on : (file a n : ℕ) (rest : List Line) (q : Line) → is_member same_line (lines_on file a n rest) q ≡ (is_on file a n q || is_member same_line rest q)
member-lines_on file a zero rest q = sym (ap (λ b. b || is_member same_line rest q) (is_on-none file a q))
member-lines_on file a (suc n) rest q =
    ap (λ b. same_line q (record { file = file; number = a }) || b) (member-lines_on file (a + 1) n rest q) ∙ is_on-more file a n q (is_member same_line rest q)

-- nothing in the list is the same
pub none_same : (q : Line) (xs : List Line) → is_member same_line xs q ≡ false → AllByRecursion (λ y. same_line q y ≡ false) xs
none_same q [] h = tt
none_same q (x ∷ xs) h = let parts = or_parts _ _ h in (parts.0, none_same q xs parts.1)

apart : (file a n : ℕ) (b : Bool) → b ≡ false → (is_on file (a + 1) n (record { file = file; number = a }) || b) ≡ false
apart file a n b h = grind arith

-- different lines stay so with the lines of a file before them, none of which they have
pub distinct-lines_on : (file a n : ℕ) (rest : List Line) → IsDistinct same_line rest → ((q : Line) → is_on file a n q ≡ true → is_member same_line rest q ≡ false) → IsDistinct same_line (lines_on file a n rest)
distinct-lines_on file a zero rest d h = d
distinct-lines_on file a (suc n) rest d h =
    IsDistinct-cons same_line _ _
    (none_same _ _ (member-lines_on file (a + 1) n rest _ ∙ apart file a n _ (h _ (first file a n))))
    (distinct-lines_on file (a + 1) n rest d (λ q on. h q (later file a n q on)))
  where
    first : (file a n : ℕ) → is_on file a (suc n) (record { file = file; number = a }) ≡ true
    first file a n = grind arith

    later : (file a n : ℕ) (q : Line) → is_on file (a + 1) n q ≡ true → is_on file a (suc n) q ≡ true
    later file a n q h = grind arith

-- the extent covers the line
abbrev pub covers : Line → Extent → Bool
covers q e = is_on e.file e.first (e.last + 1 - e.first) q

member-map : (file a n : ℕ) (q : Line) → is_member same_line (map (λ k. record { file = file; number = k }) (range_with_len a n)) q ≡ is_on file a n q
member-map file a zero q = sym (is_on-none file a q)
member-map file a (suc n) q = ap (λ b. same_line q (record { file = file; number = a }) || b) (member-map file (a + 1) n q) ∙ step file a n q
  where
    step : (file a n : ℕ) (q : Line) → (same_line q (record { file = file; number = a }) || is_on file (a + 1) n q) ≡ is_on file a (suc n) q
    step file a n q = grind arith

-- a line is among those of some extents where one of them covers it
pub member-flat_map : (es : List Extent) (q : Line) → is_member same_line (flat_map lines_of es) q ≡ list_any (covers q) es
member-flat_map [] q = refl
member-flat_map (e ∷ es) q =
    list_any-append (same_line q) (lines_of e) (flat_map lines_of es) ∙ ap₂ (λ a b. a || b) (member-map e.file e.first (e.last + 1 - e.first) q) (member-flat_map es q)

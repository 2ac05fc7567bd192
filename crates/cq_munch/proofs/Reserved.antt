-- Words in lists by their first letter.
use Rattle.std.proofs.Common.{◌≡◌, ℕ, zero, suc, ◌+◌, ◌<◌, ◌≤◌, ◌==◌, ◌↔◌, Bool, true, false, ◌&&◌, ◌||◌, Bor, List, [], ◌∷◌, length, map, drop, get_or, bytes_eq, Decides, refl, sym, ap, ap₂, subst, ◌∙◌, arith}
use Rattle.std.specs.List.{list_all, list_any}
use Rattle.std.specs.Slice.{IsItemAt}
use Rattle.std.specs.Prelude.{Some}
use Rattle.std.proofs.lemmas.Bool.{and_parts, ne_eqb, eq-eqb, false_from_ne_true}
use Rattle.std.proofs.lemmas.Bool.Decides.{Decides-or, Decides-like}
use Rattle.std.proofs.lemmas.List.{drop_more, drop_all, get_or-map, get_or_past, length-map}
use Rattle.std.proofs.lemmas.Slice.Eq.{bytes_eq-Decides}
use Rattle.cq_munch.specs.ByLetter.{row_of, words_in_row}
use Rattle.cq_munch.specs.Characters.{characters}
use Rattle.cq_munch.specs.Lexed.{unit_at}
use Rattle.cq_munch.specs.Longest.{IsAmong}
use Rattle.cq_munch.specs.declared.unit.Unit.{Unit}
use Rattle.cq_munch.proofs.Front.{ch_at, as_many}
use Rattle.cq_munch.proofs.WordLists.{among_passes}

-- a test that computes
abbrev pub has : List (List ℕ) → List ℕ → Bool
has words s = list_any (λ w. bytes_eq w s) words

no_word : (s : List ℕ) → has [] s ≡ true → IsAmong [] s
no_word s h = let none : false ≡ true = h in absurd (cc)

has-among : (words : List (List ℕ)) (s : List ℕ) → Decides (has words s) (IsAmong words s)
has-among [] s = (no_word s, λ h. absurd h)
has-among (w ∷ words) s = Decides-or _ _ (Decides-like (bytes_eq w s) sym sym (bytes_eq-Decides w s)) (has-among words s)

-- ---- a word, character by character

-- another length
pub other_length : (word : List ℕ) (units : List Unit) → (length word ≡ length units → ⊥) → false ≡ bytes_eq word (characters units)
other_length word units other =
    let many = length-map units (λ (u : Unit). u.ch) in
    sym (false_from_ne_true (bytes_eq word (characters units)) (λ same. other (ap length ((bytes_eq-Decides word (characters units)).0 same) ∙ many)))

module _ (word : List ℕ) (units : List Unit) (i : ℕ) (so_far : bytes_eq word (characters units) ≡ bytes_eq (drop i word) (drop i (characters units))) where
  rest_at : i < length word → i < length units
      → bytes_eq (drop i word) (drop i (characters units)) ≡ ((get_or word i 0 == get_or (characters units) i 0) && bytes_eq (drop (i + 1) word) (drop (i + 1) (characters units)))
  rest_at inside within = ap₂ bytes_eq (drop_more word i 0 inside) (drop_more (characters units) i 0 (as_many units i within))

  -- another character stands there
  pub spelled_other : i < length word → i < length units → ((unit_at units i).ch ≡ get_or word i 0 → ⊥) → false ≡ bytes_eq word (characters units)
  spelled_other inside within other =
      let test : (get_or word i 0 == get_or (characters units) i 0) ≡ false = ne_eqb (get_or word i 0) (get_or (characters units) i 0) (λ same. other (sym (ch_at units i within) ∙ sym same)) in
      sym (so_far ∙ rest_at inside within ∙ ap (λ b. b && bytes_eq (drop (i + 1) word) (drop (i + 1) (characters units))) test)

  -- the same character
  pub spelled_on : i < length word → i < length units → (unit_at units i).ch ≡ get_or word i 0 → bytes_eq word (characters units) ≡ bytes_eq (drop (i + 1) word) (drop (i + 1) (characters units))
  spelled_on inside within same =
      let test : (get_or word i 0 == get_or (characters units) i 0) ≡ true = eq-eqb (get_or word i 0) (get_or (characters units) i 0) (sym (ch_at units i within ∙ same)) in
      so_far ∙ rest_at inside within ∙ ap (λ b. b && bytes_eq (drop (i + 1) word) (drop (i + 1) (characters units))) test

  -- all of them
  pub spelled_whole : length word ≤ i → length word ≡ length units → true ≡ bytes_eq word (characters units)
  spelled_whole end same =
      let many = length-map units (λ (u : Unit). u.ch) in
      sym (so_far ∙ ap₂ bytes_eq (drop_all i word end) (drop_all i (characters units) (omega (arith, many, end, same))))

-- ---- a search in a list

module _ (s : List ℕ) (words : List (Bor (List ℕ))) (i : ℕ) (so_far : list_any (λ (w : Bor (List ℕ)). bytes_eq w.now s) words ≡ list_any (λ (w : Bor (List ℕ)). bytes_eq w.now s) (drop i words)) where
  rest_is : (w : Bor (List ℕ)) → i < length words → list_any (λ (v : Bor (List ℕ)). bytes_eq v.now s) words ≡ (bytes_eq (get_or words i w).now s || list_any (λ (v : Bor (List ℕ)). bytes_eq v.now s) (drop (i + 1) words))
  rest_is w inside = so_far ∙ ap (list_any (λ (v : Bor (List ℕ)). bytes_eq v.now s)) (drop_more words i w inside)

  pub found_here : (w : Bor (List ℕ)) → i < length words → bytes_eq (get_or words i w).now s ≡ true → true ≡ list_any (λ (v : Bor (List ℕ)). bytes_eq v.now s) words
  found_here w inside same = sym (rest_is w inside ∙ ap (λ b. b || list_any (λ (v : Bor (List ℕ)). bytes_eq v.now s) (drop (i + 1) words)) same)

  pub found_later : (w : Bor (List ℕ)) → i < length words → bytes_eq (get_or words i w).now s ≡ false → list_any (λ (v : Bor (List ℕ)). bytes_eq v.now s) words ≡ list_any (λ (v : Bor (List ℕ)). bytes_eq v.now s) (drop (i + 1) words)
  found_later w inside other = rest_is w inside ∙ ap (λ b. b || list_any (λ (v : Bor (List ℕ)). bytes_eq v.now s) (drop (i + 1) words)) other

  pub found_nowhere : length words ≤ i → false ≡ list_any (λ (v : Bor (List ℕ)). bytes_eq v.now s) words
  found_nowhere end = sym (so_far ∙ ap (list_any (λ (v : Bor (List ℕ)). bytes_eq v.now s)) (drop_all i words end))

-- ---- a row, as it lies in memory

any-has : (s : List ℕ) (words : List (Bor (List ℕ))) → list_any (λ (w : Bor (List ℕ)). bytes_eq w.now s) words ≡ has (map (λ (w : Bor (List ℕ)). w.now) words) s
any-has s [] = refl
any-has s (w ∷ words) = ap (λ b. bytes_eq w.now s || b) (any-has s words)

pub listed-among : (rows : List (Bor (List (Bor (List ℕ))))) (n : ℕ) (s : List ℕ) (words : Bor (Bor (List (Bor (List ℕ))))) (found : Bool) → IsItemAt rows n (Some words)
    → found ≡ list_any (λ (w : Bor (List ℕ)). bytes_eq w.now s) words.now.now → (found ≡ true) ↔ IsAmong (words_in_row rows n) s
listed-among rows n s words found item is =
    let bytes_of : Bor (List (Bor (List ℕ))) → List (List ℕ) = λ row. map (λ (w : Bor (List ℕ)). w.now) row.now in
    let row : bytes_of words.now ≡ words_in_row rows n = ap bytes_of item.1 ∙ sym (get_or-map bytes_of rows n words.now [] item.3.0) in
    let same : found ≡ has (words_in_row rows n) s = is ∙ any-has s words.now.now ∙ ap (λ ws. has ws s) row in
    let tells = has-among (words_in_row rows n) s in
    (λ h. tells.0 (sym same ∙ h), λ among. same ∙ tells.1 among)

-- after the last row there are none
pub listed-nowhere : (rows : List (Bor (List (Bor (List ℕ))))) (n : ℕ) (s : List ℕ) → length rows ≤ n → (false ≡ true) ↔ IsAmong (words_in_row rows n) s
listed-nowhere rows n s past =
    let bytes_of : Bor (List (Bor (List ℕ))) → List (List ℕ) = λ row. map (λ (w : Bor (List ℕ)). w.now) row.now in
    let many = length-map rows bytes_of in
    let none : words_in_row rows n ≡ [] = get_or_past (map bytes_of rows) n [] (omega (arith, many, past)) in
    (λ h. absurd (cc), λ among. absurd (subst (λ ws. IsAmong ws s) none among))

-- ---- the words by their rows, and all of them

at_each : (test : List ℕ → Bool) (rows : List (List (List ℕ))) (n : ℕ) → list_all (list_all test) rows ≡ true → list_all test (get_or rows n []) ≡ true
at_each test [] n h = refl
at_each test (r ∷ rows) zero h = (and_parts _ _ h).0
at_each test (r ∷ rows) (suc n) h = at_each test rows n (and_parts (list_all test r) _ h).1

-- a word is in its row where it is one of all
pub by_letter_among : (words : List (List ℕ)) (rows : List (List (List ℕ))) → list_all (list_all (has words)) rows ≡ true → list_all (λ v. has (get_or rows (row_of (get_or v 0 0)) []) v) words ≡ true
    → (s : List ℕ) → IsAmong (get_or rows (row_of (get_or s 0 0)) []) s ↔ IsAmong words s
by_letter_among words rows all each s = (
  λ h. (has-among words s).0 (among_passes (get_or rows (row_of (get_or s 0 0)) []) (has words) s (at_each (has words) rows (row_of (get_or s 0 0)) all) h),
  λ among. (has-among (get_or rows (row_of (get_or s 0 0)) []) s).0 (among_passes words (λ v. has (get_or rows (row_of (get_or v 0 0)) []) v) s each among),
)

-- A text's characters as units, one after the other.
use Rattle.std.proofs.Common.{◌≡◌, ℕ, zero, suc, ◌+◌, ◌<◌, ◌≤◌, List, [], ◌∷◌, ◌++◌, length, drop, get_or, IsUtf8, refl, sym, ap, subst, ◌∙◌, ⊎_elim, append_assoc, arith, length-append}
use Rattle.std.proofs.lemmas.Bool.{cases_lt}
use Rattle.std.proofs.lemmas.List.{append-nil, nil_from_length, drop_more, drop_all}
use Rattle.std.proofs.lemmas.Str.{chars-nil, chars_past_char, IsUtf8-past_char, length-encode, length-le-encodes, encodes-chars, len_utf8_bounds, len_utf8_ascii, chars-IsAscii, IsUtf8-from_ascii}
use Rattle.std.specs.Prelude.{encode_utf8}
use Rattle.std.specs.Char.{len_utf8}
use Rattle.std.specs.Str.{chars, encode_utf8_all, IsAscii}
use Rattle.cq_munch.specs.declared.unit.Unit.{Unit}
use Rattle.cq_munch.specs.Lexed.{placed, units_of, InOrder}
use Rattle.cq_munch.proofs.Orders.{InOrder-to}

-- the units so far, and the text that is left
pub record Decoded (text : List ℕ) (units : List Unit) (start : ℕ) (rest : List ℕ) : Type 0 where
  pub all : units ++ placed start (chars rest) ≡ units_of text
  pub utf8 : IsUtf8 rest
  pub length_is : start + length rest ≡ length text

pub decoded_none : (text : List ℕ) → IsUtf8 text → Decoded text [] 0 text
decoded_none text utf8 = record { all = refl; utf8 = utf8; length_is = omega arith }

pub decoded_more : (text : List ℕ) (units : List Unit) (start : ℕ) (rest after : List ℕ) (c : ℕ) → Decoded text units start rest → rest ≡ encode_utf8 c ++ after
    → Decoded text (units ++ record { ch = c; start = start; len = len_utf8 c } ∷ []) (start + len_utf8 c) after
decoded_more text units start rest after c so_far is =
    let size = length-encode c in
    let cut = ap length is ∙ length-append (encode_utf8 c) after in
    record {
      all = append_assoc units (record { ch = c; start = start; len = len_utf8 c } ∷ []) (placed (start + len_utf8 c) (chars after))
          ∙ ap (λ v. units ++ placed start v) (sym (chars_past_char rest after c so_far.utf8 is)) ∙ so_far.all;
      utf8 = IsUtf8-past_char rest after c so_far.utf8 is;
      length_is = omega (arith, so_far.length_is);
    }

pub decoded_all : (text : List ℕ) (units : List Unit) (start : ℕ) (rest : List ℕ) → Decoded text units start rest → length rest ≡ 0 → units ≡ units_of text
decoded_all text units start rest so_far none =
    sym (append-nil units) ∙ ap (λ v. units ++ placed start v) (sym chars-nil ∙ ap chars (sym (nil_from_length rest none))) ∙ so_far.all

-- a character's place fits
pub decoded_fits : (text : List ℕ) (units : List Unit) (start : ℕ) (rest after : List ℕ) (c : ℕ) → Decoded text units start rest → rest ≡ encode_utf8 c ++ after → start + len_utf8 c ≤ length text
decoded_fits text units start rest after c so_far is =
    let size = length-encode c in
    let cut = ap length is ∙ length-append (encode_utf8 c) after in
    omega (arith, so_far.length_is)

placed-InOrder : (from : ℕ) (cs : List ℕ) → InOrder from (placed from cs) (from + length (encode_utf8_all cs))
placed-InOrder from [] = omega arith
placed-InOrder from (c ∷ cs) =
    let size = length-encode c in
    let all = length-append (encode_utf8 c) (encode_utf8_all cs) in
    (omega arith, omega (arith, (len_utf8_bounds c).0), InOrder-to (from + len_utf8 c) (placed (from + len_utf8 c) cs) _ _ (omega arith) (placed-InOrder (from + len_utf8 c) cs))

length-placed : (from : ℕ) (cs : List ℕ) → length (placed from cs) ≡ length cs
length-placed from [] = refl
length-placed from (c ∷ cs) = let rest = length-placed (from + len_utf8 c) cs in omega arith

pub units_of-InOrder : (text : List ℕ) → IsUtf8 text → InOrder 0 (units_of text) (length text)
units_of-InOrder text utf8 =
    let all = ap length (encodes-chars text utf8) in
    InOrder-to 0 (units_of text) _ (length text) (omega arith) (placed-InOrder 0 (chars text))

pub length-units_of : (text : List ℕ) → IsUtf8 text → length (units_of text) ≤ length text
length-units_of text utf8 =
    let all = ap length (encodes-chars text utf8) in
    let as_many = length-placed 0 (chars text) in
    omega (arith, length-le-encodes (chars text))

pub decoded_pushed : (text : List ℕ) (units more : List Unit) (start size : ℕ) (rest after : List ℕ) (c : ℕ) → Decoded text units start rest → rest ≡ encode_utf8 c ++ after → size ≡ len_utf8 c
    → more ≡ units ++ record { ch = c; start = start; len = size } ∷ [] → Decoded text more (start + size) after
decoded_pushed text units more start size rest after c so_far is size_is more_is =
    subst (λ v. Decoded text v (start + size) after) (sym more_is)
    (subst (λ (v : ℕ). Decoded text (units ++ record { ch = c; start = start; len = v } ∷ []) (start + v) after) (sym size_is) (decoded_more text units start rest after c so_far is))

-- each byte was seen to be ASCII, as far as there are some
pub one_seen : (bytes : List ℕ) (i : ℕ) → ((k : ℕ) → k < i → get_or bytes k 0 < 128) → get_or bytes i 0 < 128 → (k : ℕ) → k < i + 1 → get_or bytes k 0 < 128
one_seen bytes i seen here k less =
    ⊎_elim
    (λ (before : k < i). seen k before)
    (λ (there : i ≤ k). let same : i ≡ k = omega (arith, less, there) in subst (λ j. get_or bytes j 0 < 128) same here)
    (cases_lt k i)

pub all_seen : (bytes : List ℕ) (i : ℕ) → length bytes ≤ i → ((k : ℕ) → k < i → get_or bytes k 0 < 128) → IsAscii bytes
all_seen bytes i end seen k =
    ⊎_elim
    (λ (before : k < i). seen k before)
    (λ (behind : i ≤ k). let none = get_or_past bytes k (omega (arith, end, behind)) in omega (arith, none))
    (cases_lt k i)
  where
    get_or_past : (xs : List ℕ) (j : ℕ) → length xs ≤ j → get_or xs j 0 ≡ 0
    get_or_past [] j past = refl
    get_or_past (x ∷ xs) zero past = absurd (omega arith)
    get_or_past (x ∷ xs) (suc j) past = get_or_past xs j (omega (arith, past))

-- a text of ASCII, of which each byte is a character
module _ (bytes : List ℕ) (ascii : IsAscii bytes) where
  pub ascii_none : placed 0 bytes ≡ units_of bytes
  ascii_none = ap (placed 0) (sym (chars-IsAscii bytes ascii))

  pub ascii_more : (units more : List Unit) (i : ℕ) → i < length bytes → units ++ placed i (drop i bytes) ≡ units_of bytes → more ≡ units ++ record { ch = get_or bytes i 0; start = i; len = 1 } ∷ []
      → more ++ placed (i + 1) (drop (i + 1) bytes) ≡ units_of bytes
  ascii_more units more i inside so_far is =
      let c = get_or bytes i 0 in
      let one : len_utf8 c ≡ 1 = len_utf8_ascii c (ascii i) in
      ap (λ v. v ++ placed (i + 1) (drop (i + 1) bytes)) is
      ∙ append_assoc units (record { ch = c; start = i; len = 1 } ∷ []) (placed (i + 1) (drop (i + 1) bytes))
      ∙ ap (λ (n : ℕ). units ++ record { ch = c; start = i; len = n } ∷ placed (i + n) (drop (i + 1) bytes)) (sym one)
      ∙ ap (λ v. units ++ placed i v) (sym (drop_more bytes i 0 inside)) ∙ so_far

  pub ascii_all : (units : List Unit) (i : ℕ) → length bytes ≤ i → units ++ placed i (drop i bytes) ≡ units_of bytes → units ≡ units_of bytes
  ascii_all units i end so_far = sym (append-nil units) ∙ ap (λ v. units ++ placed i v) (sym (drop_all i bytes end)) ∙ so_far

  pub ascii_in_order : (units : List Unit) → units ≡ units_of bytes → InOrder 0 units (length bytes)
  ascii_in_order units is = subst (λ v. InOrder 0 v (length bytes)) (sym is) (units_of-InOrder bytes (IsUtf8-from_ascii bytes ascii))

  pub ascii_short : (units : List Unit) → units ≡ units_of bytes → length units ≤ length bytes
  ascii_short units is = subst (λ v. length v ≤ length bytes) (sym is) (length-units_of bytes (IsUtf8-from_ascii bytes ascii))

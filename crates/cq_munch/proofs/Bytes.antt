-- Units of one byte each, and the bytes that spell them.
use Rattle.std.proofs.Common.{◌≡◌, ℕ, zero, suc, ◌+◌, ◌-◌, ◌<◌, ◌≤◌, List, [], ◌∷◌, ◌++◌, length, take, drop, get_or, IsUtf8, refl, sym, ap, subst, subst₂, ◌∙◌, append_assoc, arith, length-append}
use Rattle.std.proofs.lemmas.List.{drop_more, get_or_append_left, get_or-append_right}
use Rattle.std.proofs.lemmas.Str.{encodes-chars, length-encode}
use Rattle.std.specs.Prelude.{encode_utf8}
use Rattle.std.specs.Char.{len_utf8}
use Rattle.std.specs.Str.{chars, encode_utf8_all}
use Rattle.cq_munch.specs.Characters.{utf8_of}
use Rattle.cq_munch.specs.Lexed.{AreBytes, InOrder, end_of, placed, unit_at, units_of}
use Rattle.cq_munch.specs.declared.unit.Unit.{Unit}
use Rattle.cq_munch.proofs.Orders.{InOrder-ends, InOrder-long, InOrder-tight}

-- ---- the units of a text that isn't translated

only_one : (xs : List ℕ) → length xs ≡ 1 → xs ≡ get_or xs 0 0 ∷ []
only_one [] one = absurd (omega (arith, one))
only_one (x ∷ []) one = refl
only_one (x ∷ y ∷ xs) one = absurd (omega (arith, one))

-- a character of one byte, between others
one_byte : (c start : ℕ) (before after : List ℕ) → start ≡ length before → len_utf8 c ≡ 1 → encode_utf8 c ≡ get_or (before ++ (encode_utf8 c ++ after)) start 0 ∷ []
one_byte c start before after start_is one =
    let long : length (encode_utf8 c) ≡ 1 = length-encode c ∙ one in
    let there : get_or (before ++ (encode_utf8 c ++ after)) start 0 ≡ get_or (encode_utf8 c) 0 0 =
    get_or-append_right before (encode_utf8 c ++ after) start start 0 (sym start_is) (omega arith) ∙ ap (λ k. get_or (encode_utf8 c ++ after) k 0) (omega arith)
    ∙ get_or_append_left (encode_utf8 c) after 0 0 (omega (arith, long)) in
    only_one (encode_utf8 c) long ∙ ap (λ b. b ∷ []) (sym there)

placed-bytes : (before cs : List ℕ) (start : ℕ) → start ≡ length before → AreBytes (before ++ encode_utf8_all cs) (placed start cs)
placed-bytes before [] start start_is = tt
placed-bytes before (c ∷ cs) start start_is = (
  λ one. one_byte c start before (encode_utf8_all cs) start_is one,
  subst (λ bytes. AreBytes bytes (placed (start + len_utf8 c) cs)) (append_assoc before (encode_utf8 c) (encode_utf8_all cs))
      (placed-bytes (before ++ encode_utf8 c) cs (start + len_utf8 c) (let long = length-append before (encode_utf8 c) in let size = length-encode c in omega (arith, start_is, long, size))),
)

pub units_of-bytes : (text : List ℕ) → IsUtf8 text → AreBytes text (units_of text)
units_of-bytes text utf8 = subst (λ bytes. AreBytes bytes (units_of text)) (encodes-chars text utf8) (placed-bytes [] (chars text) 0 refl)

-- ---- some of them

pub AreBytes-take : (bytes : List ℕ) (n : ℕ) (units : List Unit) → AreBytes bytes units → AreBytes bytes (take n units)
AreBytes-take bytes zero units h = tt
AreBytes-take bytes (suc n) [] h = tt
AreBytes-take bytes (suc n) (u ∷ units) h = (h.0, AreBytes-take bytes n units h.1)

pub AreBytes-drop : (bytes : List ℕ) (n : ℕ) (units : List Unit) → AreBytes bytes units → AreBytes bytes (drop n units)
AreBytes-drop bytes zero units h = h
AreBytes-drop bytes (suc n) [] h = tt
AreBytes-drop bytes (suc n) (u ∷ units) h = AreBytes-drop bytes n units h.1

-- units with no more bytes than they are units are these bytes
spell : (bytes : List ℕ) (from n : ℕ) (units : List Unit) (to : ℕ) → n ≡ length units → to ≡ from + n → InOrder from units to → to ≤ length bytes → AreBytes bytes units → take n (drop from bytes) ≡ utf8_of units
spell bytes from zero [] to n_is to_is order within are = refl
spell bytes from (suc n) [] to n_is to_is order within are = absurd (omega (arith, n_is))
spell bytes from zero (u ∷ units) to n_is to_is order within are = absurd (omega (arith, n_is))
spell bytes from (suc n) (u ∷ units) to n_is to_is order within are =
    let long = InOrder-long (u.start + u.len) units to order.2 in
    let start_is : u.start ≡ from = omega (arith, n_is, to_is, order.0, order.1, long) in
    let len_is : u.len ≡ 1 = omega (arith, n_is, to_is, order.0, order.1, long) in
    let next : u.start + u.len ≡ from + 1 = omega (arith, start_is, len_is) in
    let rest : take n (drop (from + 1) bytes) ≡ utf8_of units =
    spell bytes (from + 1) n units to (omega (arith, n_is)) (omega (arith, to_is)) (subst (λ k. InOrder k units to) next order.2) within are.1 in
    ap (take (suc n)) (drop_more bytes from 0 (omega (arith, to_is, within)))
    ∙ ap (λ rest. get_or bytes from 0 ∷ rest) rest
    ∙ ap (λ k. get_or bytes k 0 ∷ utf8_of units) (sym start_is)
    ∙ ap (λ front. front ++ utf8_of units) (sym (are.0 len_is))

pub bytes_spell : (bytes : List ℕ) (units : List Unit) (start len : ℕ) → 0 < length units → InOrder 0 units (length bytes) → AreBytes bytes units → start ≡ (unit_at units 0).start → start + len ≡ end_of units → len ≡ length units
    → take (start + len - start) (drop start bytes) ≡ utf8_of units
bytes_spell bytes units start len some order are start_is end_is many =
    let n : start + len - start ≡ len = omega arith in
    let ends = InOrder-ends 0 units (length bytes) order some in
    ap (λ k. take k (drop start bytes)) n
    ∙ spell bytes start len units (start + len) many refl (subst₂ (λ from to. InOrder from units to) (sym start_is) (sym end_is) (InOrder-tight 0 units (length bytes) order some)) (omega (arith, end_is, ends.2)) are

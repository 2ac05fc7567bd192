-- Characters directly after a backslash, found in the bytes of a text.
use Rattle.std.proofs.Common.{◌≡◌, ℕ, zero, suc, ◌+◌, ◌<◌, ◌≤◌, Bool, true, false, cond, ◌&&◌, ◌||◌, ◌==◌, List, [], ◌∷◌, ◌++◌, length, get_or, take, drop, IsUtf8, refl, sym, ap, subst, ◌∙◌, arith}
use Rattle.std.specs.Prelude.{encode_utf8}
use Rattle.std.specs.Char.{len_utf8}
use Rattle.std.specs.Str.{chars, encode_utf8_all}
use Rattle.std.proofs.lemmas.Bool.{eq-eqb, eqb-true, false_from_ne_true, or_left, or_right}
use Rattle.std.proofs.lemmas.List.{drop_more, take-append-drop}
use Rattle.std.proofs.lemmas.Str.{IsCharBoundary-before_ascii, IsUtf8-drop, IsUtf8-take, chars-append, chars_past_char, encode_ascii, encodes-chars}
use Rattle.memchr.specs.Find.{Nowhere, OccursAt}
use Rattle.cq_munch.specs.Backslashes.{follows}
use Rattle.cq_munch.specs.Lexed.{placed, units_of}

abbrev NoPair : ℕ → List ℕ → Type 0
NoPair d bytes = (k : ℕ) → suc k < length bytes → get_or bytes k 0 ≡ 92 → get_or bytes (suc k) 0 ≡ d → ⊥

behind_one : (d x : ℕ) (bytes : List ℕ) → NoPair d (x ∷ bytes) → NoPair d bytes
behind_one d x bytes none k inside first second = none (suc k) (omega (arith, inside)) first second

behind_some : (d : ℕ) (xs bytes : List ℕ) → NoPair d (xs ++ bytes) → NoPair d bytes
behind_some d [] bytes none = none
behind_some d (x ∷ xs) bytes none = behind_some d xs bytes (behind_one d x (xs ++ bytes) none)

-- bytes with a backslash before them, or not
abbrev after : Bool → List ℕ → List ℕ
after b bytes = cond b (92 ∷ bytes) bytes

without : (d : ℕ) (b : Bool) (bytes : List ℕ) → NoPair d (after b bytes) → NoPair d bytes
without d true bytes none = behind_one d 92 bytes none
without d false bytes none = none

not_there : (d c : ℕ) (b : Bool) (bytes : List ℕ) → d < 128 → NoPair d (after b (encode_utf8 c ++ bytes)) → (b && (c == d)) ≡ false
not_there d c false bytes low none = refl
not_there d c true bytes low none =
    false_from_ne_true (c == d)
    (λ is.
    let spelled : encode_utf8 c ≡ d ∷ [] = ap encode_utf8 (eqb-true c d is) ∙ encode_ascii d low in
    let pair : NoPair d (92 ∷ d ∷ bytes) = subst (λ front. NoPair d (92 ∷ (front ++ bytes))) spelled none in
    pair 0 (omega arith) refl refl)

behind_character : (d c : ℕ) (bytes : List ℕ) (b : Bool) → (c == 92) ≡ b → NoPair d (encode_utf8 c ++ bytes) → NoPair d (after b bytes)
behind_character d c bytes true is none = subst (λ front. NoPair d (front ++ bytes)) (ap encode_utf8 (eqb-true c 92 is) ∙ encode_ascii 92 (omega arith)) none
behind_character d c bytes false is none = behind_some d (encode_utf8 c) bytes none

none_placed : (d : ℕ) → d < 128 → (b : Bool) (from : ℕ) (cs : List ℕ) → NoPair d (after b (encode_utf8_all cs)) → follows d b (placed from cs) ≡ false
none_placed d low b from [] none = refl
none_placed d low b from (c ∷ cs) none =
    let rest = encode_utf8_all cs in
    ap (λ here. here || follows d (c == 92) (placed (from + len_utf8 c) cs)) (not_there d c b rest low none)
    ∙ none_placed d low (c == 92) (from + len_utf8 c) cs (behind_character d c rest (c == 92) refl (without d b (encode_utf8 c ++ rest) none))

no_pair : (text : List ℕ) (d : ℕ) → Nowhere (OccursAt text (92 ∷ d ∷ [])) 0 (length text + 1) → NoPair d text
no_pair text d none k inside first second = none k (omega arith) (omega (arith, inside)) (record { fits = omega (arith, inside); reads = reads })
  where
    reads : (j : ℕ) → j < 2 → get_or text (k + j) 0 ≡ get_or (92 ∷ d ∷ []) j 0
    reads zero less = ap (λ i. get_or text i 0) (omega arith) ∙ first
    reads (suc zero) less = ap (λ i. get_or text i 0) (omega arith) ∙ second
    reads (suc (suc j)) less = absurd (omega (arith, less))

pub none_follows : (text : List ℕ) (d : ℕ) → IsUtf8 text → d < 128 → Nowhere (OccursAt text (92 ∷ d ∷ [])) 0 (length text + 1) → follows d false (units_of text) ≡ false
none_follows text d utf8 low none = none_placed d low false 0 (chars text) (subst (NoPair d) (sym (encodes-chars text utf8)) (no_pair text d none))

pair_placed : (d : ℕ) (b : Bool) (from : ℕ) (cs ds : List ℕ) → follows d b (placed from (cs ++ 92 ∷ d ∷ ds)) ≡ true
pair_placed d b from [] ds = or_right (b && (92 == d)) _ (or_left (d == d) _ (eq-eqb d d refl))
pair_placed d b from (c ∷ cs) ds = or_right (b && (c == d)) _ (pair_placed d (c == 92) (from + len_utf8 c) cs ds)

-- the characters from a place on at which one of ASCII stands
chars_from : (text : List ℕ) (k c : ℕ) → IsUtf8 text → k < length text → get_or text k 0 ≡ c → c < 128 → chars (drop k text) ≡ c ∷ chars (drop (k + 1) text)
chars_from text k c utf8 inside is low =
    let from : IsUtf8 (drop k text) = IsUtf8-drop text k utf8 (IsCharBoundary-before_ascii text k inside (subst (λ x. x < 128) (sym is) low)) in
    let one : drop k text ≡ c ∷ drop (k + 1) text = drop_more text k 0 inside ∙ ap (λ x. x ∷ drop (k + 1) text) is in
    chars_past_char (drop k text) (drop (k + 1) text) c from (one ∙ ap (λ front. front ++ drop (k + 1) text) (sym (encode_ascii c low)))

pub some_follows : (text : List ℕ) (d : ℕ) → IsUtf8 text → d < 128 → {k : ℕ} → OccursAt text (92 ∷ d ∷ []) k → follows d false (units_of text) ≡ true
some_follows text d utf8 low {k} at =
    let room : k + 2 ≤ length text = at.fits in
    let first : get_or text k 0 ≡ 92 = ap (λ i. get_or text i 0) (omega arith) ∙ at.reads 0 (omega arith) in
    let until : IsUtf8 (take k text) =
    IsUtf8-take text k utf8 (IsCharBoundary-before_ascii text k (omega (arith, room)) (subst (λ x. x < 128) (sym first) (omega arith))) in
    let rest : chars (drop k text) ≡ 92 ∷ d ∷ chars (drop (k + 1 + 1) text) =
    chars_from text k 92 utf8 (omega (arith, room)) first (omega arith)
    ∙ ap (λ later. 92 ∷ later) (chars_from text (k + 1) d utf8 (omega (arith, room)) (at.reads 1 (omega arith)) low) in
    let whole : chars text ≡ chars (take k text) ++ 92 ∷ d ∷ chars (drop (k + 1 + 1) text) =
    ap chars (sym (take-append-drop k text)) ∙ chars-append (take k text) (drop k text) until ∙ ap (λ later. chars (take k text) ++ later) rest in
    ap (λ cs. follows d false (placed 0 cs)) whole ∙ pair_placed d false 0 (chars (take k text)) (chars (drop (k + 1 + 1) text))

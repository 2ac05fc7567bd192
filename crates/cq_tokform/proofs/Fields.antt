-- What is read is spelled so, and what is spelled so is read: numbers, texts, and one field after another.
use Rattle.std.proofs.Common.{◌≡◌, ℕ, suc, ◌+◌, ◌^◌, ◌<◌, ◌≤◌, Bool, true, false, cond, ltb, List, [], ◌∷◌, ◌++◌, length, get_or, take, drop, Option, Some, None, Result, Ok, Err, refl, sym, ap, subst, ◌∙◌, append_assoc, arith, inl, inr}
use Rattle.std.specs.Int.{Width, w32, w64, byte_len, from_be_bytes, to_be_bytes}
use Rattle.std.specs.Str.{IsUtf8, is_utf8}
use Rattle.std.proofs.lemmas.Bool.{cases_lt, ltb-false, le-ltb}
use Rattle.std.proofs.lemmas.List.{take_at, drop_at, take-append-drop, length-append, length-take, get_or-drop, get_or-take, get_or_past}
use Rattle.std.proofs.lemmas.Nat.{be_bytes_4, be_bytes_8, from_be_bytes-to_be_bytes_4, from_be_bytes-to_be_bytes_8}
use Rattle.std.proofs.lemmas.Str.{IsUtf8-from_is_utf8, is_utf8-from_IsUtf8}
use Rattle.cq_tokform.specs.declared.unread.Unread.{Unread}
use Rattle.cq_tokform.specs.declared.unread.Unread.TheVariants as unread
use Rattle.cq_tokform.specs.Spelling.{text}
use Rattle.cq_tokform.specs.Sound.{IsSoundText}
use Rattle.cq_tokform.specs.Reading.{◌>>=◌, Gives, Reads, byte_at, number_at, text_at}

abbrev pub IsBytes : List ℕ → Type 0
IsBytes bytes = (i : ℕ) → get_or bytes i 0 < 256

pub IsBytes-drop : (n : ℕ) (bytes : List ℕ) → IsBytes bytes → IsBytes (drop n bytes)
IsBytes-drop n bytes h i = rw get_or-drop (h (n + i))

pub IsBytes-take : (n : ℕ) (bytes : List ℕ) → IsBytes bytes → IsBytes (take n bytes)
IsBytes-take n bytes h i =
    elim (cases_lt i n) [
      | inl lt ↦ rw (get_or-take n bytes i 0 lt) (h i)
      | inr le ↦ rw (get_or_past (take n bytes) i 0 (omega (arith, length-take n bytes))) (omega arith)
    ]

pub no_text : (bytes : List ℕ) → (IsUtf8 bytes → ⊥) → is_utf8 bytes ≡ false
no_text bytes h = go (is_utf8 bytes) refl
  where
    go : (b : Bool) → is_utf8 bytes ≡ b → b ≡ false
    go true e = absurd (h (IsUtf8-from_is_utf8 bytes e))
    go false e = refl

-- the value of a step that read something
pub bind_some : {A B : Type 0} (r : Option A) (f : A → Option B) (y : B) → (r >>= f) ≡ Some y → (x : A) × (r ≡ Some x) × (f x ≡ Some y)
bind_some (Some x) f y e = (x, refl, e)
bind_some None f y e = absurd cc

-- a test that was failed
pub unless_some : {A : Type 0} (b : Bool) (x : Option A) (y : A) → cond b None x ≡ Some y → (b ≡ false) × (x ≡ Some y)
unless_some true x y e = absurd cc
unless_some false x y e = (refl, e)

-- a test that was met
pub if_some : {A : Type 0} (b : Bool) (x : Option A) (y : A) → cond b x None ≡ Some y → (b ≡ true) × (x ≡ Some y)
if_some true x y e = (refl, e)
if_some false x y e = absurd cc

abbrev done : {A : Type 0} → A → Option A
done x = Some x

pub some_is : {A : Type 0} (x y : A) → done x ≡ done y → x ≡ y
some_is x y e = cc

-- what a reader took from the front
pub record Takes (bytes text rest : List ℕ) : Type 0 where
  pub parts : bytes ≡ text ++ rest
  pub rest_fits : IsBytes rest

pub Takes-then : (a x b y c : List ℕ) → Takes a x b → Takes b y c → Takes a (x ++ y) c
Takes-then a x b y c p q = record { parts = p.parts ∙ ap (λ (t : List ℕ). x ++ t) q.parts ∙ sym (append_assoc x y c); rest_fits = q.rest_fits }

-- a reader is right where it reads just what is sound and spelled so
pub record IsReader {A : Type 0} (spell : A → List ℕ) (IsSound : A → Type 0) (at : List ℕ → Option (A × List ℕ)) : Type 0 where
  pub takes : (bytes : List ℕ) (x : A × List ℕ) → IsBytes bytes → at bytes ≡ Some x → Takes bytes (spell x.0) x.1 × IsSound x.0
  pub again : (a : A) (rest : List ℕ) → IsSound a → at (spell a ++ rest) ≡ Some (a, rest)

-- what a right reader reads first, and what is read after it
pub after : {A Y : Type 0} (C : Type 0) (spell : A → List ℕ) (IsSound : A → Type 0) (at : List ℕ → Option (A × List ℕ)) (reader : IsReader spell IsSound at) (bytes : List ℕ) (k : A × List ℕ → Option Y) (x : Y)
    → IsBytes bytes → (at bytes >>= k) ≡ Some x → ((a : A) (rest : List ℕ) → Takes bytes (spell a) rest → IsSound a → k (a, rest) ≡ Some x → C) → C
after C spell IsSound at reader bytes k x fits e go =
    let found = bind_some (at bytes) k x e in
    let t = reader.takes bytes found.0 fits found.1 in
    go found.0.0 found.0.1 t.0 t.1 found.2

refused : {A : Type 0} (spell : A → List ℕ) (IsSound : A → Type 0) (at : List ℕ → Option (A × List ℕ)) → IsReader spell IsSound at
    → (bytes : List ℕ) → at bytes ≡ None → (a : A) (rest : List ℕ) → IsSound a → bytes ≡ spell a ++ rest → ⊥
refused spell IsSound at reader bytes none a rest sound e =
    let found = ap at e ∙ reader.again a rest sound in
    absurd cc

-- a function that gives what a right reader gives keeps its promise
pub reads : {A X : Type 0} (spell : A → List ℕ) (IsSound : A → Type 0) (at : List ℕ → Option (A × List ℕ)) (reader : IsReader spell IsSound at) (view : X → A × List ℕ) (bytes : List ℕ) (r : Result X Unread)
    → IsBytes bytes → Gives view r (at bytes) → Reads spell IsSound view bytes r
reads spell IsSound at reader view bytes (Ok x) fits given =
    let t = reader.takes bytes (view x) fits given in
    (t.1, t.0.parts)
reads spell IsSound at reader view bytes (Err unread.Refused) fits given = refused spell IsSound at reader bytes given
reads spell IsSound at reader view bytes (Err unread.Memory) fits given = tt

-- no spelling of a sound value begins another
pub one_form : {A : Type 0} (spell : A → List ℕ) (IsSound : A → Type 0) (at : List ℕ → Option (A × List ℕ)) (reader : IsReader spell IsSound at)
    (a b : A) (x y : List ℕ) → IsSound a → IsSound b → spell a ++ x ≡ spell b ++ y → (a ≡ b) × (x ≡ y)
one_form {A = A} spell IsSound at reader a b x y of also e =
    let same : done (a, x) ≡ done (b, y) = sym (reader.again a x of) ∙ ap at e ∙ reader.again b y also in
    let both = some_is (a, x) (b, y) same in
    (ap (λ (p : A × List ℕ). p.0) both, ap (λ (p : A × List ℕ). p.1) both)

-- ---- numbers

pub record IsWide (w : Width) (limit : ℕ) : Type 0 where
  pub len : (n : ℕ) → length (to_be_bytes w n) ≡ byte_len w
  pub back : (bytes : List ℕ) → length bytes ≡ byte_len w → IsBytes bytes → to_be_bytes w (from_be_bytes w bytes) ≡ bytes
  pub again : (n : ℕ) → n < limit → from_be_bytes w (to_be_bytes w n) ≡ n
  pub below : (bytes : List ℕ) → IsBytes bytes → from_be_bytes w bytes < limit

wide32 : IsWide w32 (2 ^ 32)
wide32 = record {
  len = λ n. refl;
  back = λ bytes len fits. be_bytes_4 bytes _ len fits refl;
  again = λ n lt. from_be_bytes-to_be_bytes_4 n lt;
  below = λ bytes fits. omega (arith, fits 0, fits 1, fits 2, fits 3);
}

wide64 : IsWide w64 (2 ^ 64)
wide64 = record {
  len = λ n. refl;
  back = λ bytes len fits. be_bytes_8 bytes _ len fits refl;
  again = λ n lt. from_be_bytes-to_be_bytes_8 n lt;
  below = λ bytes fits. omega (arith, fits 0, fits 1, fits 2, fits 3, fits 4, fits 5, fits 6, fits 7);
}

abbrev wide : Width → ℕ → List ℕ
wide w n = to_be_bytes w n

number_takes : (w : Width) (limit : ℕ) (wide : IsWide w limit) (bytes : List ℕ) (x : ℕ × List ℕ) → IsBytes bytes → number_at w bytes ≡ Some x → Takes bytes (to_be_bytes w x.0) x.1 × (x.0 < limit)
number_takes w limit wide bytes x fits e =
    let g = unless_some (ltb (length bytes) (byte_len w)) (Some (from_be_bytes w (take (byte_len w) bytes), drop (byte_len w) bytes)) x e in
    let long : byte_len w ≤ length bytes = ltb-false _ _ g.0 in
    let is = some_is (from_be_bytes w (take (byte_len w) bytes), drop (byte_len w) bytes) x g.1 in
    let front : to_be_bytes w (from_be_bytes w (take (byte_len w) bytes)) ≡ take (byte_len w) bytes = wide.back (take (byte_len w) bytes) (omega (arith, length-take (byte_len w) bytes)) (IsBytes-take (byte_len w) bytes fits) in
    subst (λ (y : ℕ × List ℕ). Takes bytes (to_be_bytes w y.0) y.1 × (y.0 < limit)) is
    (record { parts = rw front (sym (take-append-drop (byte_len w) bytes)); rest_fits = IsBytes-drop (byte_len w) bytes fits }, wide.below (take (byte_len w) bytes) (IsBytes-take (byte_len w) bytes fits))

number_again : (w : Width) (limit : ℕ) (wide : IsWide w limit) (n : ℕ) (rest : List ℕ) → n < limit → number_at w (to_be_bytes w n ++ rest) ≡ Some (n, rest)
number_again w limit wide n rest lt =
    let len = wide.len n in
    let long : ltb (length (to_be_bytes w n ++ rest)) (byte_len w) ≡ false = le-ltb _ _ (omega (arith, length-append (to_be_bytes w n) rest)) in
    rw (long, take_at (to_be_bytes w n) rest (byte_len w) len, drop_at (to_be_bytes w n) rest (byte_len w) len, wide.again n lt) refl

pub number32 : IsReader (λ (n : ℕ). to_be_bytes w32 n) (λ (n : ℕ). n < 2 ^ 32) (number_at w32)
number32 = record { takes = number_takes w32 (2 ^ 32) wide32; again = number_again w32 (2 ^ 32) wide32 }

pub number64 : IsReader (λ (n : ℕ). to_be_bytes w64 n) (λ (n : ℕ). n < 2 ^ 64) (number_at w64)
number64 = record { takes = number_takes w64 (2 ^ 64) wide64; again = number_again w64 (2 ^ 64) wide64 }

-- ---- single bytes

pub byte_takes : (bytes : List ℕ) (x : ℕ × List ℕ) → IsBytes bytes → byte_at bytes ≡ Some x → Takes bytes (x.0 ∷ []) x.1
byte_takes [] x fits e = absurd cc
byte_takes (b ∷ rest) x fits e =
    subst (λ (y : ℕ × List ℕ). Takes (b ∷ rest) (y.0 ∷ []) y.1) (some_is (b, rest) x e) (record { parts = refl; rest_fits = λ i. fits (suc i) })

-- ---- texts

text_takes : (bytes : List ℕ) (x : List ℕ × List ℕ) → IsBytes bytes → text_at bytes ≡ Some x → Takes bytes (text x.0) x.1 × IsSoundText x.0
unfolding text_at
text_takes bytes x fits e =
    let b = bind_some (number_at w32 bytes) (λ n. cond (ltb (length n.1) n.0) None (cond (is_utf8 (take n.0 n.1)) (Some (take n.0 n.1, drop n.0 n.1)) None)) x e in
    let n = b.0 in
    let t = number32.takes bytes n fits b.1 in
    let g = unless_some (ltb (length n.1) n.0) (cond (is_utf8 (take n.0 n.1)) (Some (take n.0 n.1, drop n.0 n.1)) None) x b.2 in
    let u = if_some (is_utf8 (take n.0 n.1)) (Some (take n.0 n.1, drop n.0 n.1)) x g.1 in
    let long : n.0 ≤ length n.1 = ltb-false _ _ g.0 in
    let len : length (take n.0 n.1) ≡ n.0 = omega (arith, length-take n.0 n.1) in
    let second : Takes n.1 (take n.0 n.1) (drop n.0 n.1) = record { parts = sym (take-append-drop n.0 n.1); rest_fits = IsBytes-drop n.0 n.1 t.0.rest_fits } in
    let both = Takes-then bytes (to_be_bytes w32 n.0) n.1 (take n.0 n.1) (drop n.0 n.1) t.0 second in
    let whole : Takes bytes (text (take n.0 n.1)) (drop n.0 n.1) = subst (λ (k : ℕ). Takes bytes (to_be_bytes w32 k ++ take n.0 n.1) (drop n.0 n.1)) (sym len) both in
    subst (λ (p : List ℕ × List ℕ). Takes bytes (text p.0) p.1 × IsSoundText p.0) (some_is (take n.0 n.1, drop n.0 n.1) x u.1)
    (whole, record { utf8 = IsUtf8-from_is_utf8 (take n.0 n.1) u.0; short = omega (arith, t.1, len) })

text_again : (bytes rest : List ℕ) → IsSoundText bytes → text_at (text bytes ++ rest) ≡ Some (bytes, rest)
unfolding text_at
text_again bytes rest sound =
    let long : ltb (length (bytes ++ rest)) (length bytes) ≡ false = le-ltb _ _ (omega (arith, length-append bytes rest)) in
    let utf8 = is_utf8-from_IsUtf8 bytes sound.utf8 in
    rw (number32.again (length bytes) (bytes ++ rest) sound.short, long, take_at bytes rest (length bytes) refl, drop_at bytes rest (length bytes) refl, utf8) refl

pub texts : IsReader text IsSoundText text_at
texts = record { takes = text_takes; again = text_again }

-- The element at the front of a text, row by row.
use Rattle.std.proofs.Common.{◌≡◌, ℕ, zero, suc, ◌≤◌, Option, Some, None, Bool, true, false, ◌&&◌, ◌==◌, not, cond, List, [], ◌∷◌, ◌⊎◌, inl, inr, length, take, refl, ap, ◌∙◌, ⊎_elim, arith}
use Rattle.std.specs.Prelude.{IfSome, IfNone, IsTrue, IsFalse, MatchBool}
use Rattle.std.proofs.lemmas.Bool.{and_parts, and_right, not-true, false_from_ne_true}
use Rattle.cq_base.proofs.Bools.{MatchBool-from_false, MatchBool-from_true}
use Rattle.cq_munch.specs.Longest.{IsLongest, LongestAt}
use Rattle.cq_lex_c.specs.Headers.{EndsAt, IsHeader, closes, has_header}

pub matched : (b : Bool) (P Q : Type 0) → MatchBool b P Q → ((b ≡ true) × P) ⊎ ((b ≡ false) × Q)
matched true P Q h = inl (refl, h)
matched false P Q h = inr (refl, h)

-- ---- header names

closing : (close : ℕ) (some : Bool) (s : List ℕ) (m : ℕ) → EndsAt close some (take m s) → closes close some s ≡ true
closing close some s zero h = absurd h
closing close some [] (suc m) h = absurd h
closing close some (c ∷ s) (suc m) h =
    ⊎_elim
    (λ end. ap (λ b. cond b some (not (c == 10) && closes close true s)) end.0 ∙ end.1.0)
    (λ on. ap (λ b. cond b some (not (c == 10) && closes close true s)) on.0 ∙ ap (λ b. not b && closes close true s) on.1.0 ∙ closing close true s m on.1.1)
    (matched (c == close) _ _ h)

pub header_there : (text : List ℕ) (m : ℕ) → IsHeader (take m text) → has_header text ≡ true
header_there text zero h = absurd h
header_there [] (suc m) h = absurd h
header_there (c ∷ s) (suc m) h =
    ⊎_elim
    (λ less. ap (λ b. cond b (closes 62 false s) ((c == 34) && closes 34 false s)) less.0 ∙ closing 62 false s m less.1)
    (λ on. ap (λ b. cond b (closes 62 false s) ((c == 34) && closes 34 false s)) on.0 ∙ ap (λ b. b && closes 34 false s) on.1.0 ∙ closing 34 false s m on.1.1)
    (matched (c == 60) _ _ h)

record Closed (close : ℕ) (some : Bool) (s : List ℕ) : Type 0 where
  len : ℕ
  within : len ≤ length s
  ends : EndsAt close some (take len s)

closed_more : (close : ℕ) (some : Bool) (c : ℕ) (s : List ℕ) → (closes close true s ≡ true → Closed close true s) → (b : Bool) → (c == close) ≡ b → cond b some (not (c == 10) && closes close true s) ≡ true → Closed close some (c ∷ s)
closed_more close some c s rest true e k = record { len = 1; within = omega arith; ends = MatchBool-from_true (c == close) (IsTrue some × _) _ e (k, refl) }
closed_more close some c s rest false e k =
    let more = rest (and_parts (not (c == 10)) _ k).1 in
    record { len = suc more.len; within = omega (arith, more.within); ends = MatchBool-from_false (c == close) _ _ e (not-true (c == 10) (and_parts _ _ k).0, more.ends) }

closed : (close : ℕ) (some : Bool) (s : List ℕ) → closes close some s ≡ true → Closed close some s
closed close some [] h = absurd (cc)
closed close some (c ∷ s) h = closed_more close some c s (closed close true s) (c == close) refl h

pub header_not : (text : List ℕ) → LongestAt IsHeader text None → has_header text ≡ true → ⊥
header_not [] none h = absurd (cc)
header_not (c ∷ s) none h = by (c == 60) refl h
  where
    by : (b : Bool) → (c == 60) ≡ b → cond b (closes 62 false s) ((c == 34) && closes 34 false s) ≡ true → ⊥
    by true e k = let rest = closed 62 false s k in none (suc rest.len) (omega arith) (omega (arith, rest.within)) (MatchBool-from_true (c == 60) _ _ e rest.ends)
    by false e k =
        let rest = closed 34 false s (and_parts (c == 34) _ k).1 in
        none (suc rest.len) (omega arith) (omega (arith, rest.within)) (MatchBool-from_false (c == 60) _ _ e ((and_parts _ _ k).0, rest.ends))

pub header_some : (mode : ℕ) (text : List ℕ) (r : Option ℕ) → mode ≡ 2 → LongestAt IsHeader text r → IfSome r (λ n. IsTrue ((mode == 2) && has_header text) × IsLongest IsHeader text n)
header_some mode text None is h = tt
header_some mode text (Some n) is h = (ap (λ m. (m == 2) && has_header text) is ∙ header_there text n h.spelled, h)

pub header_none : (mode : ℕ) (text : List ℕ) (r : Option ℕ) → LongestAt IsHeader text r → IfNone r (IsFalse ((mode == 2) && has_header text))
header_none mode text None h = and_right (mode == 2) (has_header text) (false_from_ne_true (has_header text) (header_not text h))
header_none mode text (Some n) h = tt

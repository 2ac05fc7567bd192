-- The header names of the scan are those that are enclosed.
use Rattle.std.proofs.Common.{◌≡◌, ◌⊎◌, ℕ, suc, ◌<◌, ◌==◌, Bool, true, false, MatchBool, List, [], ◌∷◌, ◌++◌, length, IsTrue, IsFalse, refl, sym, ap, ap₂, subst, inl, inr, arith}
use Rattle.std.specs.List.{AllByRecursion}
use Rattle.std.proofs.lemmas.Bool.{eqb-true, eq-eqb}
use Rattle.cq_lex_c.specs.Headers.{EndsAt, IsHeader}
use Rattle.cq_lex_c.specs.HeaderNames.{MayStand, IsEnclosed, HeaderNamesAreEnclosed}

-- characters and what closes after them, one or more where none stands before
abbrev HasBody : ℕ → Bool → List ℕ → Type 0
HasBody close some s = (body : List ℕ) × (s ≡ body ++ close ∷ []) × (IsTrue some ⊎ (0 < length body)) × AllByRecursion (MayStand close) body

-- what may follow a character
abbrev Follows : Bool → Bool → ℕ → ℕ → List ℕ → Type 0
Follows closed some close c s = MatchBool closed (IsTrue some × (s ≡ [])) (IsFalse (c == 10) × EndsAt close true s)

body_of : (close : ℕ) (some : Bool) (s : List ℕ) → EndsAt close some s → HasBody close some s
body_of close some [] h = absurd h
body_of close some (c ∷ s) h = by (c == close) refl h (λ k. body_of close true s k)
  where
    by : (b : Bool) → (c == close) ≡ b → Follows b some close c s → (EndsAt close true s → HasBody close true s) → HasBody close some (c ∷ s)
    by true e k next = ([], ap₂ (λ x xs. x ∷ xs) (eqb-true c close e) k.1, inl k.0, tt)
    by false e k next =
        let rest = next k.1 in
        let more : 0 < suc (length rest.0) = omega arith in
        (c ∷ rest.0, ap (λ xs. c ∷ xs) rest.1, inr more, ((k.0, e), rest.3))

one_or_more : (body : List ℕ) → (IsTrue false ⊎ (0 < length body)) → 0 < length body
one_or_more body (inl e) = absurd (cc)
one_or_more body (inr h) = h

enclosed_by : (c begin close : ℕ) (s : List ℕ) → (c == begin) ≡ true → HasBody close false s → IsEnclosed begin close (c ∷ s)
enclosed_by c begin close s e h = (h.0, ap₂ (λ x xs. x ∷ xs) (eqb-true c begin e) h.1, one_or_more h.0 h.2, h.3)

enclosed : (s : List ℕ) → IsHeader s → IsEnclosed 60 62 s ⊎ IsEnclosed 34 34 s
enclosed [] h = absurd h
enclosed (c ∷ s) h = by (c == 60) refl h
  where
    by : (b : Bool) → (c == 60) ≡ b → MatchBool b (EndsAt 62 false s) (IsTrue (c == 34) × EndsAt 34 false s) → IsEnclosed 60 62 (c ∷ s) ⊎ IsEnclosed 34 34 (c ∷ s)
    by true e k = inl (enclosed_by c 60 62 s e (body_of 62 false s k))
    by false e k = inr (enclosed_by c 34 34 s k.0 (body_of 34 false s k.1))

some_before : (some : Bool) → (IsTrue some ⊎ (0 < 0)) → IsTrue some
some_before some (inl e) = e
some_before some (inr h) = absurd (omega (arith, h))

ends : (close : ℕ) (some : Bool) (body : List ℕ) → (IsTrue some ⊎ (0 < length body)) → AllByRecursion (MayStand close) body → EndsAt close some (body ++ close ∷ [])
ends close some [] there all = subst (λ b. Follows b some close close []) (sym (eq-eqb close close refl)) (some_before some there, refl)
ends close some (c ∷ body) there all =
    subst (λ b. Follows b some close c (body ++ close ∷ [])) (sym all.0.1) (all.0.0, ends close true body (inl refl) all.1)

header_of : (s : List ℕ) → (IsEnclosed 60 62 s ⊎ IsEnclosed 34 34 s) → IsHeader s
header_of s (inl e) = subst IsHeader (sym e.1) (ends 62 false e.0 (inr e.2) e.3)
header_of s (inr e) = subst IsHeader (sym e.1) (refl, ends 34 false e.0 (inr e.2) e.3)

pub names_are_enclosed : HeaderNamesAreEnclosed
names_are_enclosed s = (enclosed s, header_of s)

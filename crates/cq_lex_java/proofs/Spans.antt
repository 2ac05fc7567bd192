-- Where units lie that stand one after the other, and how many belong to an escape.
use Rattle.std.proofs.Common.{◌≡◌, ℕ, zero, suc, ◌+◌, ◌-◌, ◌<◌, ◌≤◌, Option, Some, None, Bool, true, false, ◌&&◌, ◌==◌, nat_lt, List, [], ◌∷◌, length, drop, refl, ap, subst, ◌∙◌, arith, inl, inr, ⊎_elim, ◌⊎◌}
use Rattle.std.specs.Prelude.{if◌then◌else◌}
use Rattle.std.specs.Char.{digit_value}
use Rattle.std.proofs.lemmas.Bool.{ltb-true}
use Rattle.std.proofs.lemmas.Bool.Decides.{eqb_tells}
use Rattle.std.proofs.lemmas.Option.{same_Some}
use Rattle.std.proofs.lemmas.List.{drop_more, drop_all, length-drop}
use Rattle.cq_munch.specs.Lexed.{InOrder, unit_at}
use Rattle.cq_munch.specs.declared.unit.Unit.{Unit}
use Rattle.cq_munch.proofs.Orders.{InOrder-end}
use Rattle.cq_lex_java.specs.Escapes.{marks_of, four_digits, hex_value, escape_of, escape_at, scalar, joined, step_of, pair_of, by_scalar, by_escape, step_at, IsEscapeLong, IsStepWithin}
use Rattle.cq_lex_java.specs.declared.escape.Escape.{Escape}
use Rattle.cq_lex_java.specs.declared.escape.Escape.TheVariants as escapes

pub at_within : (units : List Unit) (k from to : ℕ) → k < length units → InOrder from units to → (from ≤ (unit_at units k).start) × ((unit_at units k).start + (unit_at units k).len ≤ to)
at_within [] k from to inside order = absurd (omega arith)
at_within (u ∷ us) zero from to inside order = (order.0, InOrder-end (u.start + u.len) us to order.2)
at_within (u ∷ us) (suc k) from to inside order =
    let rest = at_within us k (u.start + u.len) to (omega arith) order.2 in (omega (arith, rest.0, order.0), rest.1)

pub first_before : (units : List Unit) (k from to : ℕ) → k < length units → InOrder from units to → (unit_at units 0).start < (unit_at units k).start + (unit_at units k).len
first_before [] k from to inside order = absurd (omega arith)
first_before (u ∷ us) zero from to inside order = omega (arith, order.1)
first_before (u ∷ us) (suc k) from to inside order = let rest = at_within us k (u.start + u.len) to (omega arith) order.2 in omega (arith, rest.0, order.1, last_some us k (u.start + u.len) to (omega arith) order.2)
  where
    last_some : (vs : List Unit) (j a b : ℕ) → j < length vs → InOrder a vs b → 0 < (unit_at vs j).len
    last_some [] j a b h o = absurd (omega arith)
    last_some (v ∷ vs) zero a b h o = o.1
    last_some (v ∷ vs) (suc j) a b h o = last_some vs j (v.start + v.len) b (omega arith) o.2

-- two or more units are two bytes or more
pub two_bytes : (u : Unit) (us : List Unit) (k from to : ℕ) → suc k < length (u ∷ us) → InOrder from (u ∷ us) to → u.start + 1 < (unit_at (u ∷ us) (suc k)).start + (unit_at (u ∷ us) (suc k)).len
two_bytes u [] k from to inside order = absurd (omega arith)
two_bytes u (v ∷ us) k from to inside order =
    let next = first_before (v ∷ us) k (u.start + u.len) to (omega (arith, inside)) order.2 in
    omega (arith, next, order.1, order.2.0)

not_same : (a b : ℕ) → (a ≡ b → ⊥) → (a == b) ≡ false
not_same a b other = ⊎_elim (λ h. h.0) (λ h. absurd (other h.1)) (tells a b)
  where
    tells : (x y : ℕ) → ((x == y) ≡ false × (x ≡ y → ⊥)) ⊎ ((x == y) ≡ true × (x ≡ y))
    tells x y = ⊎_elim (λ h. inr h) (λ h. inl h) (eqb_tells x y)

-- ---- how many u stand there

pub marks-short : (us : List Unit) → marks_of us ≤ length us
marks-short [] = omega arith
marks-short (u ∷ us) = by (marks-short us) (u.ch == 117)
  where
    by : marks_of us ≤ length us → (b : Bool) → (if b then 1 + marks_of us else 0) ≤ length (u ∷ us)
    by rest true = omega (arith, rest)
    by rest false = omega arith

module _ (units : List Unit) (i marks : ℕ) (inside : i < length units) (so_far : marks + marks_of (drop i units) ≡ marks_of units) where
  here : marks_of (drop i units) ≡ (if (unit_at units i).ch == 117 then 1 + marks_of (drop (i + 1) units) else 0)
  here = ap marks_of (drop_more units i (record { ch = 0; start = 0; len = 0 }) inside)

  pub one_mark : (unit_at units i).ch ≡ 117 → (marks + 1) + marks_of (drop (i + 1) units) ≡ marks_of units
  one_mark is = let e = here ∙ ap (λ c. if c == 117 then 1 + marks_of (drop (i + 1) units) else 0) is in omega (arith, e, so_far)

  pub no_mark : ((unit_at units i).ch ≡ 117 → ⊥) → marks ≡ marks_of units
  no_mark other = let e = here ∙ ap (λ b. if b then 1 + marks_of (drop (i + 1) units) else 0) (not_same ((unit_at units i).ch) 117 other) in omega (arith, e, so_far)

pub all_marks : (units : List Unit) (i marks : ℕ) → length units ≤ i → marks + marks_of (drop i units) ≡ marks_of units → marks ≡ marks_of units
all_marks units i marks end so_far = let e = ap marks_of (drop_all i units end) in omega (arith, e, so_far)

-- ---- how many units an escape has

hex-small : (c v : ℕ) → hex_value c ≡ Some v → v < 16
hex-small c v h = by (nat_lt (digit_value c) 16) refl h
  where
    by : (b : Bool) → nat_lt (digit_value c) 16 ≡ b → (if b then Some (digit_value c) else None) ≡ Some v → v < 16
    by true e k = let small = ltb-true (digit_value c) 16 e in let same = same_Some (digit_value c) v k in omega (arith, small, same)
    by false e k = absurd (cc)

four-long : (us : List Unit) (v : ℕ) → four_digits us ≡ Some v → 4 ≤ length us
four-long [] v h = absurd (cc)
four-long (a ∷ []) v h = absurd (cc)
four-long (a ∷ b ∷ []) v h = absurd (cc)
four-long (a ∷ b ∷ c ∷ []) v h = absurd (cc)
four-long (a ∷ b ∷ c ∷ d ∷ us) v h = omega arith

pub escape-within : (us : List Unit) → IsEscapeLong (length us) (escape_at us)
escape-within [] = tt
escape-within (u ∷ us) = by ((u.ch == 92) && nat_lt 0 (marks_of us)) (four_digits (drop (marks_of us) us)) (four-long (drop (marks_of us) us))
  where
    by : (b : Bool) (r : Option ℕ) → ((v : ℕ) → r ≡ Some v → 4 ≤ length (drop (marks_of us) us)) → IsEscapeLong (length (u ∷ us)) (escape_of b (marks_of us) r)
    by false r long = tt
    by true None long = tt
    by true (Some v) long =
        let four = long v refl in
        let rest = length-drop (marks_of us) us in
        let marks = marks-short us in (omega arith, omega (arith, four, rest, marks))

made-within : (n len : ℕ) (r : Option ℕ) → 2 ≤ len → len ≤ n → IsStepWithin n (step_of r len)
made-within n len None some within = tt
made-within n len (Some ch) some within = (some, within)

pub pair-within : (n code len : ℕ) (next : Escape) → 2 ≤ len → len ≤ n → IsEscapeLong (n - len) next → IsStepWithin n (pair_of code len next)
pair-within n code len escapes.None some within h = tt
pair-within n code len escapes.Bad some within h = tt
pair-within n code len (escapes.Code low more) some within h = made-within n (len + more) (joined code low) (omega (arith, some)) (omega (arith, within, h.0, h.1))

scalar-within : (n code len : ℕ) (r : Option ℕ) (next : Escape) → 2 ≤ len → len ≤ n → IsEscapeLong (n - len) next → IsStepWithin n (by_scalar r code len next)
scalar-within n code len (Some ch) next some within h = (some, within)
scalar-within n code len None next some within h = pair-within n code len next some within h

by-within : (us : List Unit) (e : Escape) → IsEscapeLong (length us) e → IsStepWithin (length us) (by_escape e us)
by-within us escapes.None h = tt
by-within us escapes.Bad h = tt
by-within us (escapes.Code code len) h =
    scalar-within (length us) code len (scalar code) (escape_at (drop len us)) h.0 h.1 (subst (λ n. IsEscapeLong n (escape_at (drop len us))) (length-drop len us) (escape-within (drop len us)))

pub step-within : (us : List Unit) → IsStepWithin (length us) (step_at us)
step-within us = by-within us (escape_at us) (escape-within us)

-- The translation by a flag is that by the number of backslashes directly before.
use Rattle.std.proofs.Common.{◌≡◌, ℕ, zero, suc, ◌+◌, ◌-◌, ◌≤◌, Option, Some, None, Bool, true, false, not, ◌&&◌, ◌==◌, nat_lt, Result, List, [], ◌∷◌, drop, refl, sym, ap, subst, ◌∙◌, arith}
use Rattle.std.specs.Prelude.{if◌then◌else◌}
use Rattle.std.proofs.lemmas.Bool.{eqb-true}
use Rattle.std.proofs.lemmas.List.{get_or-drop}
use Rattle.cq_munch.specs.Lexed.{unit_at}
use Rattle.cq_munch.specs.declared.unit.Unit.{Unit}
use Rattle.cq_lex_java.specs.Eligible.{is_odd, read_behind, behind, counted, EscapesGoByCount}
use Rattle.cq_lex_java.specs.Escapes.{marks_of, hex_value, number_of, four_digits, escape_of, escape_at, scalar, joined, step_of, pair_of, by_scalar, by_escape, step_at}
use Rattle.cq_lex_java.specs.Translation.{spanning, before, len_of, by_step, read_at, translated}
use Rattle.cq_lex_java.specs.declared.escape.Escape.{Escape}
use Rattle.cq_lex_java.specs.declared.escape.Escape.TheVariants as escapes
use Rattle.cq_lex_java.specs.declared.escape.Step.{Step}
use Rattle.cq_lex_java.specs.declared.escape.Step.TheVariants as steps

-- ---- an escape ends with a digit

-- so many units, of which the last is no backslash
abbrev Ends : List Unit → ℕ → Type 0
Ends us len = (2 ≤ len) × (((unit_at us (len - 1)).ch == 92) ≡ false)

digit_is_other : (c v : ℕ) → hex_value c ≡ Some v → (c == 92) ≡ false
digit_is_other c v h = by (c == 92) refl
  where
    by : (b : Bool) → (c == 92) ≡ b → (c == 92) ≡ false
    by true e = let bad : ◌≡◌ {A = Option ℕ} None (Some v) = sym (ap hex_value (eqb-true c 92 e)) ∙ h in absurd (cc)
    by false e = e

fourth_is_other : (p q r s : Option ℕ) (c v : ℕ) → hex_value c ≡ s → number_of p q r s ≡ Some v → (c == 92) ≡ false
fourth_is_other None q r s c v is h = absurd (cc)
fourth_is_other (Some a) None r s c v is h = absurd (cc)
fourth_is_other (Some a) (Some b) None s c v is h = absurd (cc)
fourth_is_other (Some a) (Some b) (Some d) None c v is h = absurd (cc)
fourth_is_other (Some a) (Some b) (Some d) (Some e) c v is h = digit_is_other c e is

four_end : (us : List Unit) (v : ℕ) → four_digits us ≡ Some v → ((unit_at us 3).ch == 92) ≡ false
four_end [] v h = absurd (cc)
four_end (a ∷ []) v h = absurd (cc)
four_end (a ∷ b ∷ []) v h = absurd (cc)
four_end (a ∷ b ∷ c ∷ []) v h = absurd (cc)
four_end (a ∷ b ∷ c ∷ d ∷ us) v h = fourth_is_other (hex_value a.ch) (hex_value b.ch) (hex_value c.ch) (hex_value d.ch) d.ch v refl h

abbrev len_in : Escape → ℕ
len_in escapes.None = 0
len_in escapes.Bad = 0
len_in (escapes.Code code len) = len

escape_ends : (us : List Unit) (code len : ℕ) → escape_at us ≡ escapes.Code code len → Ends us len
escape_ends [] code len h = absurd (cc)
escape_ends (u ∷ us) code len h = by ((u.ch == 92) && nat_lt 0 (marks_of us)) (four_digits (drop (marks_of us) us)) (four_end (drop (marks_of us) us)) h
  where
    by : (b : Bool) (r : Option ℕ) → ((v : ℕ) → r ≡ Some v → ((unit_at (drop (marks_of us) us) 3).ch == 92) ≡ false) → escape_of b (marks_of us) r ≡ escapes.Code code len → Ends (u ∷ us) len
    by false r end h = absurd (cc)
    by true None end h = absurd (cc)
    by true (Some v) end h =
        let at : marks_of us + 5 - 1 ≡ suc (marks_of us + 3) = omega arith in
        let place : unit_at (u ∷ us) (marks_of us + 5 - 1) ≡ unit_at (drop (marks_of us) us) 3 = ap (unit_at (u ∷ us)) at ∙ sym (get_or-drop (marks_of us) us 3 (record { ch = 0; start = 0; len = 0 })) in
        let len_is : marks_of us + 5 ≡ len = ap len_in h in
        subst (Ends (u ∷ us)) len_is (omega arith, ap (λ (w : Unit). w.ch == 92) place ∙ end v refl)

two_end : (us : List Unit) (n more : ℕ) → Ends us n → Ends (drop n us) more → Ends us (n + more)
two_end us n more first second =
    let at : n + more - 1 ≡ n + (more - 1) = omega (arith, second.0) in
    let place : unit_at us (n + more - 1) ≡ unit_at (drop n us) (more - 1) = ap (unit_at us) at ∙ sym (get_or-drop n us (more - 1) (record { ch = 0; start = 0; len = 0 })) in
    (omega (arith, first.0), ap (λ (w : Unit). w.ch == 92) place ∙ second.1)

made_ends : (us : List Unit) (n len ch : ℕ) (r : Option ℕ) → Ends us n → step_of r n ≡ steps.One ch len → Ends us len
made_ends us n len ch None ends h = absurd (cc)
made_ends us n len ch (Some c) ends h = subst (Ends us) (ap len_of h) ends

pair_ends : (us : List Unit) (code n : ℕ) (next : Escape) (ch len : ℕ) → Ends us n → escape_at (drop n us) ≡ next → pair_of code n next ≡ steps.One ch len → Ends us len
pair_ends us code n escapes.None ch len ends is h = absurd (cc)
pair_ends us code n escapes.Bad ch len ends is h = absurd (cc)
pair_ends us code n (escapes.Code low more) ch len ends is h = made_ends us (n + more) len ch (joined code low) (two_end us n more ends (escape_ends (drop n us) low more is)) h

scalar_ends : (us : List Unit) (code n : ℕ) (r : Option ℕ) (next : Escape) (ch len : ℕ) → Ends us n → escape_at (drop n us) ≡ next → by_scalar r code n next ≡ steps.One ch len → Ends us len
scalar_ends us code n (Some c) next ch len ends is h = subst (Ends us) (ap len_of h) ends
scalar_ends us code n None next ch len ends is h = pair_ends us code n next ch len ends is h

step_ends : (us : List Unit) (e : Escape) (ch len : ℕ) → escape_at us ≡ e → by_escape e us ≡ steps.One ch len → Ends us len
step_ends us escapes.None ch len is h = absurd (cc)
step_ends us escapes.Bad ch len is h = absurd (cc)
step_ends us (escapes.Code code n) ch len is h = scalar_ends us code n (scalar code) (escape_at (drop n us)) ch len (escape_ends us code n is) refl h

read_ends : (odd : Bool) (us : List Unit) (ch len : ℕ) → (if odd then steps.Plain else step_at us) ≡ steps.One ch len → Ends us len
read_ends true us ch len h = absurd (cc)
read_ends false us ch len h = step_ends us (escape_at us) ch len refl h

-- ---- the flag and the count

-- what the flag says of the count, where so many units still belong to an escape
Meets : ℕ → ℕ → Bool → List Unit → Type 0
Meets zero n odd us = odd ≡ is_odd n
Meets (suc k) n odd us = (odd ≡ false) × (((unit_at us k).ch == 92) ≡ false)

odd_behind : (n : ℕ) (odd b : Bool) → odd ≡ is_odd n → (b && not odd) ≡ is_odd (if b then suc n else 0)
odd_behind n odd true is = ap not is
odd_behind n odd false is = refl

none_behind : (n : ℕ) (b : Bool) → b ≡ false → is_odd (if b then suc n else 0) ≡ false
none_behind n true h = absurd (cc)
none_behind n false h = refl

onward : (k n : ℕ) (odd : Bool) (u : Unit) (us : List Unit) → Meets (suc k) n odd (u ∷ us) → Meets k (behind n u) odd us
unfolding Meets
onward zero n odd u us m = m.0 ∙ sym (none_behind n (u.ch == 92) m.1)
onward (suc j) n odd u us m = (m.0, m.1)

past_escape : (n len : ℕ) (u : Unit) (us : List Unit) → Ends (u ∷ us) len → Meets (len - 1) (behind n u) false us
unfolding Meets
past_escape n zero u us ends = absurd (omega (arith, ends.0))
past_escape n (suc zero) u us ends = absurd (omega (arith, ends.0))
past_escape n (suc (suc k)) u us ends =
    let at : suc k ≡ suc (suc k) - 1 = omega arith in
    subst (λ (j : ℕ). Meets j (behind n u) false us) at (refl, ap (λ (j : ℕ). (unit_at (u ∷ us) j).ch == 92) at ∙ ends.1)

same_step : (step : Step) (u : Unit) (us : List Unit) (a b c d : Result (List Unit) ℕ) → a ≡ c → ((ch len : ℕ) → step ≡ steps.One ch len → b ≡ d) → by_step step u us a b ≡ by_step step u us c d
same_step steps.Plain u us a b c d p q = ap (before u) p
same_step steps.Fault u us a b c d p q = refl
same_step (steps.One ch len) u us a b c d p q = ap (before (spanning ch (u ∷ us) len)) (q ch len refl)

same : (skip n : ℕ) (odd : Bool) (us : List Unit) → Meets skip n odd us → translated skip odd us ≡ counted skip n us
unfolding translated counted Meets
same zero n odd [] m = refl
same (suc k) n odd [] m = refl
same (suc k) n odd (u ∷ us) m = same k (behind n u) odd us (onward k n odd u us m)
same zero n odd (u ∷ us) m =
    let step = read_behind n (u ∷ us) in
    ap (λ b. by_step (read_at b (u ∷ us)) u us (translated 0 ((u.ch == 92) && not odd) us) (translated (len_of (read_at b (u ∷ us)) - 1) false us)) m
    ∙ same_step step u us (translated 0 ((u.ch == 92) && not odd) us) (translated (len_of step - 1) false us) (counted 0 (behind n u) us) (counted (len_of step - 1) (behind n u) us)
    (same 0 (behind n u) ((u.ch == 92) && not odd) us (odd_behind n odd (u.ch == 92) m))
    (λ ch len is.
    same (len_of step - 1) (behind n u) false us
    (subst (λ l. Meets (l - 1) (behind n u) false us) (sym (ap len_of is)) (past_escape n len u us (read_ends (is_odd n) (u ∷ us) ch len is))))

pub by_count : EscapesGoByCount
unfolding Meets
by_count units = same 0 0 false units refl

-- The sign of a token tells what bracket it is.
use Rattle.std.proofs.Common.{◌≡◌, ℕ, ◌+◌, ◌<◌, Bool, true, false, cond, ◌==◌, ◌&&◌, ◌||◌, List, [], ◌∷◌, length, map, get_or, refl, sym, ap, ap₂, ◌∙◌, arith}
use Rattle.std.proofs.lemmas.Bool.{and_right, ne_eqb}
use Rattle.std.proofs.lemmas.List.{get_or-map, length-map}
use Rattle.std.specs.Str.{bytes_eq}
use Rattle.cq_base.specs.declared.lang.Lang.{Lang}
use Rattle.cq_base.specs.declared.token.Spelled.{Spelled}
use Rattle.cq_func.specs.declared.brackets.Kind.{Kind}
use Rattle.cq_func.specs.declared.brackets.Kind.TheVariants as kind
use Rattle.cq_func.specs.Brackets.{spelling_of, only_byte, sign_of, opens, closes, opens_with, closes_with}
use Rattle.cq_func.specs.Functions.{no_token}
use Rattle.cq_func.specs.Levels.{level}
use Rattle.cq_func.proofs.Counted.{level-more}

and_true : (b : Bool) → (b && true) ≡ b
and_true true = refl
and_true false = refl

one_byte : (s : List ℕ) (byte : ℕ) → (0 ≡ byte → ⊥) → (only_byte s == byte) ≡ bytes_eq s (byte ∷ [])
one_byte [] byte some = ne_eqb 0 byte some
one_byte (b ∷ []) byte some = sym (and_true (b == byte))
one_byte (b ∷ c ∷ s) byte some = ne_eqb 0 byte some ∙ sym (and_right (b == byte) false refl)

-- one of three
either : (a b c d e f : Bool) → a ≡ d → b ≡ e → c ≡ f → (a || (b || c)) ≡ (d || (e || f))
either a b c d e f first second third = ap₂ (λ x y. x || y) first (ap₂ (λ x y. x || y) second third)

module _ (l : Lang) (t : Spelled) where
  told : (byte : ℕ) → (0 ≡ byte → ⊥) → (sign_of l t == byte) ≡ bytes_eq (spelling_of l t.token.class t.text) (byte ∷ [])
  told byte some = one_byte (spelling_of l t.token.class t.text) byte some

  pub opens_told : (k : Kind) → opens_with k (sign_of l t) ≡ opens l k t
  opens_told kind.Round = told 40 (λ zero. absurd (omega arith))
  opens_told kind.Square = told 91 (λ zero. absurd (omega arith))
  opens_told kind.Curly = told 123 (λ zero. absurd (omega arith))
  opens_told kind.All = either _ _ _ _ _ _ (told 40 (λ zero. absurd (omega arith))) (told 91 (λ zero. absurd (omega arith))) (told 123 (λ zero. absurd (omega arith)))

  pub closes_told : (k : Kind) → closes_with k (sign_of l t) ≡ closes l k t
  closes_told kind.Round = told 41 (λ zero. absurd (omega arith))
  closes_told kind.Square = told 93 (λ zero. absurd (omega arith))
  closes_told kind.Curly = told 125 (λ zero. absurd (omega arith))
  closes_told kind.All = either _ _ _ _ _ _ (told 41 (λ zero. absurd (omega arith))) (told 93 (λ zero. absurd (omega arith))) (told 125 (λ zero. absurd (omega arith)))

-- one token more, by its sign
pub level_next : (l : Lang) (k : Kind) (ts : List Spelled) (signs : List ℕ) (at : ℕ) → signs ≡ map (sign_of l) ts → at < length ts
    → level l k ts (at + 1) + cond (closes_with k (get_or signs at 0)) 1 0 ≡ level l k ts at + cond (opens_with k (get_or signs at 0)) 1 0
level_next l k ts signs at are inside =
    let t : Spelled = get_or ts at no_token in
    let here : get_or signs at 0 ≡ sign_of l t = ap (λ v. get_or v at 0) are ∙ get_or-map (sign_of l) ts at no_token 0 inside in
    let closing : closes_with k (get_or signs at 0) ≡ closes l k t = ap (closes_with k) here ∙ closes_told l t k in
    let opening : opens_with k (get_or signs at 0) ≡ opens l k t = ap (opens_with k) here ∙ opens_told l t k in
    ap (λ b. level l k ts (at + 1) + cond b 1 0) closing ∙ level-more l k ts at no_token inside ∙ sym (ap (λ b. level l k ts at + cond b 1 0) opening)

pub as_many : (l : Lang) (ts : List Spelled) (signs : List ℕ) → signs ≡ map (sign_of l) ts → length signs ≡ length ts
as_many l ts signs are = ap length are ∙ length-map ts (sign_of l)

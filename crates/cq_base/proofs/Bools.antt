-- Tests and what follows from them, beside std's `lemmas.Bool`.
use Rattle.std.proofs.Common.{◌≡◌, Bool, true, false, not, ◌&&◌, ◌||◌, cond, refl}
use Rattle.std.specs.Prelude.{MatchBool}

-- of two tests of which one fails or the other holds, the other holds where the first does
pub or-implies : (a b : Bool) → (not a || b) ≡ true → a ≡ true → b ≡ true
or-implies true b h is = h
or-implies false b h is = absurd (cc)

pub or-true : (b : Bool) → (b || true) ≡ true
or-true true = refl
or-true false = refl

pub and-false : (b : Bool) → (b && false) ≡ false
and-false true = refl
and-false false = refl

pub cond-same : {A : Type 0} (b : Bool) (x : A) → cond b x x ≡ x
cond-same true x = refl
cond-same false x = refl

-- a match on a test, by the case that holds
pub MatchBool-from_true : (b : Bool) (P Q : Type 0) → b ≡ true → P → MatchBool b P Q
MatchBool-from_true true P Q h p = p
MatchBool-from_true false P Q h p = absurd (cc)

pub MatchBool-from_false : (b : Bool) (P Q : Type 0) → b ≡ false → Q → MatchBool b P Q
MatchBool-from_false true P Q h q = absurd (cc)
MatchBool-from_false false P Q h q = q

-- What Unicode escapes are read as: characters that are Unicode scalar values, or a fault within the text.
use Rattle.std.proofs.Common.{◌≡◌, ℕ, zero, suc, ◌+◌, ◌-◌, ◌*◌, ◌≤◌, Bool, true, false, not, ◌&&◌, ◌||◌, ◌==◌, nat_lt, nat_le, Option, Some, None, Result, Ok, Err, IfOk, IfErr, List, [], ◌∷◌, drop, refl, arith}
use Rattle.std.specs.Prelude.{if◌then◌else◌, ⊤}
use Rattle.std.specs.Char.{IsScalar}
use Rattle.std.specs.List.{AllByRecursion}
use Rattle.std.proofs.lemmas.Bool.Decides.{nat_tests}
use Rattle.cq_munch.specs.declared.unit.Unit.{Unit}
use Rattle.cq_munch.specs.Lexed.{InOrder}
use Rattle.cq_munch.proofs.Orders.{InOrder-end}
use Rattle.cq_lex_java.specs.declared.escape.Escape.{Escape}
use Rattle.cq_lex_java.specs.declared.escape.Escape.TheVariants as escapes
use Rattle.cq_lex_java.specs.declared.escape.Step.{Step}
use Rattle.cq_lex_java.specs.declared.escape.Step.TheVariants as steps
use Rattle.cq_lex_java.specs.Escapes.{scalar, joined, step_of, pair_of, by_scalar, by_escape, escape_at}
use Rattle.cq_lex_java.specs.Translation.{spanning, before, len_of, by_step, read_at, translated}

-- each character is a Unicode scalar value
abbrev pub AreScalars : List Unit → Type 0
AreScalars units = AllByRecursion (λ (u : Unit). IsScalar u.ch) units

-- a character, if there is one, and the character that a backslash is read as
abbrev IsScalarIf : Option ℕ → Type 0
IsScalarIf None = ⊤
IsScalarIf (Some ch) = IsScalar ch

abbrev IsStepScalar : Step → Type 0
IsStepScalar (steps.One ch len) = IsScalar ch
IsStepScalar steps.Plain = ⊤
IsStepScalar steps.Fault = ⊤

code-scalar : (code : ℕ) → (nat_lt code 55296 || (nat_lt 57343 code && nat_lt code 1114112)) ≡ true → IsScalar code
code-scalar code is = grind (arith, nat_tests)

if-scalar : (b : Bool) (code : ℕ) → (b ≡ true → IsScalar code) → IsScalarIf (if b then Some code else None)
if-scalar true code is = is refl
if-scalar false code is = tt

scalar-is : (code : ℕ) → IsScalarIf (scalar code)
scalar-is code = if-scalar (nat_lt code 55296 || (nat_lt 57343 code && nat_lt code 1114112)) code (code-scalar code)

if-joined : (b : Bool) (r : Option ℕ) → IsScalarIf r → IsScalarIf (if b then r else None)
if-joined true r is = is
if-joined false r is = tt

joined-is : (high low : ℕ) → IsScalarIf (joined high low)
joined-is high low =
    if-joined ((nat_le 55296 high && nat_lt high 56320) && (nat_le 56320 low && nat_lt low 57344)) (scalar (65536 + (high - 55296) * 1024 + (low - 56320)))
    (scalar-is (65536 + (high - 55296) * 1024 + (low - 56320)))

step-of : (r : Option ℕ) (len : ℕ) → IsScalarIf r → IsStepScalar (step_of r len)
step-of None len is = tt
step-of (Some ch) len is = is

pair-is : (high len : ℕ) (next : Escape) → IsStepScalar (pair_of high len next)
pair-is high len escapes.None = tt
pair-is high len escapes.Bad = tt
pair-is high len (escapes.Code low more) = step-of (joined high low) (len + more) (joined-is high low)

code-is : (r : Option ℕ) (code len : ℕ) (next : Escape) → IsScalarIf r → IsStepScalar (by_scalar r code len next)
code-is (Some ch) code len next is = is
code-is None code len next is = pair-is code len next

escape-is : (units : List Unit) (e : Escape) → IsStepScalar (by_escape e units)
escape-is units escapes.None = tt
escape-is units escapes.Bad = tt
escape-is units (escapes.Code code len) = code-is (scalar code) code len (escape_at (drop len units)) (scalar-is code)

read-is : (odd : Bool) (units : List Unit) → IsStepScalar (read_at odd units)
read-is true units = tt
read-is false units = escape-is units (escape_at units)

before-scalars : (u : Unit) (r : Result (List Unit) ℕ) → IsScalar u.ch → IfOk r AreScalars → IfOk (before u r) AreScalars
before-scalars u (Ok us) first rest = (first, rest)
before-scalars u (Err at) first rest = tt

step-scalars : (step : Step) (u : Unit) (us : List Unit) (plain behind : Result (List Unit) ℕ) → IsStepScalar step → IsScalar u.ch → IfOk plain AreScalars → IfOk behind AreScalars → IfOk (by_step step u us plain behind) AreScalars
step-scalars steps.Plain u us plain behind is first p b = before-scalars u plain first p
step-scalars steps.Fault u us plain behind is first p b = tt
step-scalars (steps.One ch len) u us plain behind is first p b = before-scalars (spanning ch (u ∷ us) len) behind is b

pub translated-scalars : (skip : ℕ) (odd : Bool) (us : List Unit) → AreScalars us → IfOk (translated skip odd us) AreScalars
unfolding translated
translated-scalars zero odd [] are = tt
translated-scalars (suc n) odd [] are = tt
translated-scalars (suc n) odd (u ∷ us) are = translated-scalars n odd us are.1
translated-scalars zero odd (u ∷ us) are =
    step-scalars (read_at odd (u ∷ us)) u us _ _ (read-is odd (u ∷ us)) are.0
    (translated-scalars 0 ((u.ch == 92) && not odd) us are.1)
    (translated-scalars (len_of (read_at odd (u ∷ us)) - 1) false us are.1)

before-fault : (to : ℕ) (u : Unit) (r : Result (List Unit) ℕ) → IfErr r (λ at. at ≤ to) → IfErr (before u r) (λ at. at ≤ to)
before-fault to u (Ok us) within = tt
before-fault to u (Err at) within = within

step-fault : (to : ℕ) (step : Step) (u : Unit) (us : List Unit) (plain behind : Result (List Unit) ℕ) → u.start ≤ to → IfErr plain (λ at. at ≤ to) → IfErr behind (λ at. at ≤ to) → IfErr (by_step step u us plain behind) (λ at. at ≤ to)
step-fault to steps.Plain u us plain behind low p b = before-fault to u plain p
step-fault to steps.Fault u us plain behind low p b = low
step-fault to (steps.One ch len) u us plain behind low p b = before-fault to (spanning ch (u ∷ us) len) behind b

pub translated-fault : (to skip : ℕ) (odd : Bool) (from : ℕ) (us : List Unit) → InOrder from us to → IfErr (translated skip odd us) (λ at. at ≤ to)
unfolding translated
translated-fault to zero odd from [] order = tt
translated-fault to (suc n) odd from [] order = tt
translated-fault to (suc n) odd from (u ∷ us) order = translated-fault to n odd (u.start + u.len) us order.2
translated-fault to zero odd from (u ∷ us) order =
    let end = InOrder-end (u.start + u.len) us to order.2 in
    step-fault to (read_at odd (u ∷ us)) u us _ _ (omega (arith, end))
    (translated-fault to 0 ((u.ch == 92) && not odd) (u.start + u.len) us order.2)
    (translated-fault to (len_of (read_at odd (u ∷ us)) - 1) false (u.start + u.len) us order.2)

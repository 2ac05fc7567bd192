-- What is open in a mode is a stack.
use Rattle.std.proofs.Common.{◌≡◌, ℕ, ◌+◌, ◌*◌, ◌/◌, ◌%◌, ◌<◌, if◌then◌else◌, List, [], ◌∷◌, refl, ap, ap₂, ◌∙◌, arith}
use Rattle.std.specs.Prelude.{IsTrue, IsFalse}
use Rattle.std.proofs.lemmas.Bool.{eq-eqb}
use Rattle.cq_lex_js.specs.Modes.{is_full, opened, closed, has_open}
use Rattle.cq_lex_js.specs.Stack.{number_of, mode_of, IsStack, WhatIsOpenIsAStack}

put_on : (ds : List ℕ) (d token : ℕ) → token < 4 → IsFalse (is_full (mode_of ds token)) → opened (mode_of ds token) d ≡ mode_of (d ∷ ds) 0
put_on ds d token small h =
    let same : (mode_of ds token / 4 * 4 + d) * 4 ≡ mode_of (d ∷ ds) 0 = omega (arith, small) in
    ap (λ full. if full then mode_of ds token else (mode_of ds token / 4 * 4 + d) * 4) h ∙ same

taken_off : (ds : List ℕ) (d token : ℕ) → d < 4 → token < 4 → closed (mode_of (d ∷ ds) token) ≡ mode_of ds 0
taken_off ds d token digit small = omega (arith, digit, small)

innermost : (ds : List ℕ) (d token : ℕ) → d < 4 → token < 4 → IsTrue (has_open (mode_of (d ∷ ds) token) d)
innermost ds d token digit small = eq-eqb (mode_of (d ∷ ds) token / 4 % 4) d (omega (arith, digit, small))

some : (d : ℕ) (ds : List ℕ) → IsStack (d ∷ ds) → 0 < number_of (d ∷ ds)
some d [] h = let more = h.0 in omega (arith, more)
some d (e ∷ ds) h = let rest = some e ds h.1 in omega (arith, rest)

is_digit : (d : ℕ) (ds : List ℕ) → IsStack (d ∷ ds) → d < 4
is_digit d [] h = h.1
is_digit d (e ∷ ds) h = h.0

below : (d : ℕ) (ds : List ℕ) → IsStack (d ∷ ds) → IsStack ds
below d [] h = tt
below d (e ∷ ds) h = h.1

one_number : (ds es : List ℕ) → IsStack ds → IsStack es → number_of ds ≡ number_of es → ds ≡ es
one_number [] [] h k same = refl
one_number [] (e ∷ es) h k same = let more = some e es k in absurd (omega (arith, same, more))
one_number (d ∷ ds) [] h k same = let more = some d ds h in absurd (omega (arith, same, more))
one_number (d ∷ ds) (e ∷ es) h k same =
    let small = is_digit d ds h in
    let other = is_digit e es k in
    let digits : d ≡ e = omega (arith, same, small, other) in
    let rest : number_of ds ≡ number_of es = omega (arith, same, small, other) in
    ap₂ (λ v vs. v ∷ vs) digits (one_number ds es (below d ds h) (below e es k) rest)

pub are_a_stack : WhatIsOpenIsAStack
are_a_stack = (put_on, taken_off, innermost, one_number)

-- Where no u stands directly after a backslash, nothing is translated.
use Rattle.std.proofs.Common.{◌≡◌, ◌+◌, nat_lt, Bool, true, false, not, ◌&&◌, ◌==◌, Ok, List, [], ◌∷◌, drop, refl, sym, ap, ◌∙◌}
use Rattle.std.specs.Prelude.{if◌then◌else◌}
use Rattle.std.proofs.lemmas.Bool.{or_parts}
use Rattle.cq_munch.specs.Backslashes.{follows}
use Rattle.cq_munch.specs.declared.unit.Unit.{Unit}
use Rattle.cq_lex_java.specs.Escapes.{marks_of, four_digits, escape_of, by_escape}
use Rattle.cq_lex_java.specs.Translation.{before, read_at, translated}
use Rattle.cq_lex_java.specs.declared.escape.Step.TheVariants as steps
use Rattle.cq_lex_java.proofs.Translating.{reading}

unmarked : (b : Bool) (us : List Unit) → follows 117 b us ≡ false → (b && nat_lt 0 (marks_of us)) ≡ false
unmarked false us h = refl
unmarked true [] h = refl
unmarked true (v ∷ us) h = ap (λ c. nat_lt 0 (if c then 1 + marks_of us else 0)) (or_parts (v.ch == 117) (follows 117 (v.ch == 92) us) h).0

reads_plain : (odd : Bool) (u : Unit) (us : List Unit) → ((u.ch == 92) && nat_lt 0 (marks_of us)) ≡ false → read_at odd (u ∷ us) ≡ steps.Plain
reads_plain true u us h = refl
reads_plain false u us h = ap (λ b. by_escape (escape_of b (marks_of us) (four_digits (drop (marks_of us) us))) (u ∷ us)) h

pub untranslated : (behind odd : Bool) (us : List Unit) → follows 117 behind us ≡ false → Ok us ≡ translated 0 odd us
unfolding translated
untranslated behind odd [] h = refl
untranslated behind odd (u ∷ us) h =
    let rest = (or_parts (behind && (u.ch == 117)) (follows 117 (u.ch == 92) us) h).1 in
    ap (before u) (untranslated (u.ch == 92) ((u.ch == 92) && not odd) us rest) ∙ sym (reading odd u us steps.Plain (reads_plain odd u us (unmarked (u.ch == 92) us rest)))

-- Where no line ends directly after a backslash, nothing is left out.
use Rattle.std.proofs.Common.{◌≡◌, ℕ, Bool, true, false, ◌&&◌, ◌==◌, List, [], ◌∷◌, refl, sym, ap, ◌∙◌}
use Rattle.std.specs.Prelude.{if◌then◌else◌}
use Rattle.std.proofs.lemmas.Bool.{or_parts}
use Rattle.cq_munch.specs.Backslashes.{follows}
use Rattle.cq_munch.specs.declared.unit.Unit.{Unit}
use Rattle.cq_lex_c.specs.Splices.{begins_with_lf, splice_len, spliced}
use Rattle.cq_lex_c.proofs.Leaving.{spliced_keep}

len_by : (slash feed return more : Bool) (two three none : ℕ) → (slash && feed) ≡ false → (slash && return) ≡ false → (if slash && feed then two else (if slash && (return && more) then three else none)) ≡ none
len_by false feed return more two three none h k = refl
len_by true true return more two three none h k = absurd (cc)
len_by true false true more two three none h k = absurd (cc)
len_by true false false more two three none h k = refl

none_begins : (u : Unit) (us : List Unit) → follows 10 (u.ch == 92) us ≡ false → follows 13 (u.ch == 92) us ≡ false → splice_len (u ∷ us) ≡ 0
none_begins u [] h k = refl
none_begins u (v ∷ us) h k =
    len_by (u.ch == 92) (v.ch == 10) (v.ch == 13) (begins_with_lf us) 2 3 0 (or_parts ((u.ch == 92) && (v.ch == 10)) (follows 10 (v.ch == 92) us) h).0 (or_parts ((u.ch == 92) && (v.ch == 13)) (follows 13 (v.ch == 92) us) k).0

pub none_spliced : (behind : Bool) (us : List Unit) → follows 10 behind us ≡ false → follows 13 behind us ≡ false → us ≡ spliced 0 us
unfolding spliced
none_spliced behind [] h k = refl
none_spliced behind (u ∷ us) h k =
    let feeds = (or_parts (behind && (u.ch == 10)) (follows 10 (u.ch == 92) us) h).1 in
    let returns = (or_parts (behind && (u.ch == 13)) (follows 13 (u.ch == 92) us) k).1 in
    ap (λ v. u ∷ v) (none_spliced (u.ch == 92) us feeds returns) ∙ sym (spliced_keep u us (none_begins u us feeds returns))

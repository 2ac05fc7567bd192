-- No spelling grows as it is made normal.
use Rattle.std.proofs.Common.{ℕ, ◌≤◌, ◌≡◌, Bool, true, false, if◌then◌else◌, List, [], ◌∷◌, length, codes, Decides, refl, ap, arith}
use Rattle.std.proofs.lemmas.List.Sums.{sum_by-cons}
use Rattle.std.proofs.lemmas.Slice.Eq.{bytes_eq-Decides}
use Rattle.cq_base.specs.declared.settings.Settings.{Settings}
use Rattle.cq_base.specs.declared.lang.Lang.{Lang}
use Rattle.cq_base.specs.declared.lang.Lang.TheVariants as lang
use Rattle.cq_base.specs.declared.norm.Norm.{Norm}
use Rattle.cq_base.specs.declared.token.Class.{Class}
use Rattle.cq_base.specs.declared.token.Class.TheVariants as class
use Rattle.cq_base.specs.declared.token.Spelled.{Spelled}
use Rattle.cq_normal.specs.Normal.{undigraphed, punctuation, unless_ignored, normal_text, norm_of, normal, AreNoLonger}

-- what stands for a word is no longer than the word
by_test : (b : Bool) (text word short other : List ℕ) → Decides b (text ≡ word) → length short ≤ length word → length other ≤ length text
    → length (if b then short else other) ≤ length text
by_test true text word short other is shorter rest = let same = ap length (is.0 refl) in omega (arith, same, shorter)
by_test false text word short other is shorter rest = rest

undigraphed-short : (text : List ℕ) → length (undigraphed text) ≤ length text
undigraphed-short text =
    by_test _ text (codes "<:") _ _ (bytes_eq-Decides text (codes "<:")) (omega arith)
    (by_test _ text (codes ":>") _ _ (bytes_eq-Decides text (codes ":>")) (omega arith)
    (by_test _ text (codes "<%") _ _ (bytes_eq-Decides text (codes "<%")) (omega arith)
    (by_test _ text (codes "%>") _ _ (bytes_eq-Decides text (codes "%>")) (omega arith)
    (by_test _ text (codes "%:") _ _ (bytes_eq-Decides text (codes "%:")) (omega arith)
    (by_test _ text (codes "%:%:") _ _ (bytes_eq-Decides text (codes "%:%:")) (omega arith) (omega arith))))))

punctuation-short : (l : Lang) (text : List ℕ) → length (punctuation l text) ≤ length text
punctuation-short lang.Any text = omega arith
punctuation-short lang.Go text = omega arith
punctuation-short lang.C text = undigraphed-short text
punctuation-short lang.Java text = omega arith
punctuation-short lang.Js text = omega arith
punctuation-short lang.Ts text = omega arith

ignored-short : (ignored : Bool) (text : List ℕ) → length (unless_ignored ignored text) ≤ length text
ignored-short true text = omega arith
ignored-short false text = omega arith

text-short : (settings : Settings) (l : Lang) (c : Class) (text : List ℕ) → length (normal_text settings l c text) ≤ length text
text-short settings l class.Ident text = ignored-short settings.ignore_ids text
text-short settings l class.Word text = omega arith
text-short settings l class.Literal text = ignored-short settings.ignore_lits text
text-short settings l class.Punct text = punctuation-short l text

pub normal-short : (settings : Settings) (l : Lang) (tokens : List Spelled) → AreNoLonger tokens (normal settings l tokens)
normal-short settings l [] = omega arith
normal-short settings l (s ∷ tokens) =
    let one = text-short settings l s.token.class s.text in
    let rest = normal-short settings l tokens in
    let spelled = sum_by-cons (λ (t : Spelled). length t.text) s tokens in
    let normed = sum_by-cons (λ (n : Norm). length n.text) (norm_of settings l s) (normal settings l tokens) in
    omega (arith, one, rest, spelled, normed)

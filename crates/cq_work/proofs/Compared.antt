-- Tokens as they are compared are spelled in UTF-8, and have no spelling where their class is ignored.
use Rattle.std.proofs.Common.{◌≡◌, ℕ, Bool, true, false, if◌then◌else◌, List, [], ◌∷◌, map, codes, refl, ap, arith}
use Rattle.std.specs.List.{AllByRecursion}
use Rattle.std.specs.Str.{bytes_eq}
use Rattle.cq_base.specs.declared.lang.Lang.{Lang}
use Rattle.cq_base.specs.declared.lang.Lang.TheVariants as lang
use Rattle.cq_base.specs.declared.norm.Norm.{Norm}
use Rattle.cq_base.specs.declared.settings.Settings.{Settings}
use Rattle.cq_base.specs.declared.token.Class.{Class}
use Rattle.cq_base.specs.declared.token.Class.TheVariants as class
use Rattle.cq_base.specs.declared.token.Spelled.{Spelled}
use Rattle.cq_base.specs.declared.token.Token.{Token}
use Rattle.cq_normal.specs.Kept.{spans_of}
use Rattle.cq_normal.specs.Normal.{undigraphed, punctuation, unless_ignored, normal_text, normal}
use Rattle.cq_work.specs.Bounds.{is_ignored, IsWithin, IsSpelling, IsCompared}
use Rattle.cq_work.proofs.Scalars.{empty-spelling, one-spelling, two-spelling}
use Rattle.cq_work.proofs.Standing.{IsPlaced}

spelling_if : (b : Bool) (x y : List ℕ) → IsSpelling x → IsSpelling y → IsSpelling (if b then x else y)
spelling_if true x y is also = is
spelling_if false x y is also = also

undigraphed-spelling : (text : List ℕ) → IsSpelling text → IsSpelling (undigraphed text)
undigraphed-spelling text is =
    spelling_if (bytes_eq text (codes "<:")) _ _ (one-spelling 91 (omega arith) refl)
    (spelling_if (bytes_eq text (codes ":>")) _ _ (one-spelling 93 (omega arith) refl)
    (spelling_if (bytes_eq text (codes "<%")) _ _ (one-spelling 123 (omega arith) refl)
    (spelling_if (bytes_eq text (codes "%>")) _ _ (one-spelling 125 (omega arith) refl)
    (spelling_if (bytes_eq text (codes "%:")) _ _ (one-spelling 35 (omega arith) refl)
    (spelling_if (bytes_eq text (codes "%:%:")) _ _ (two-spelling 35 35 (omega arith) (omega arith) refl refl) is)))))

punctuation-spelling : (l : Lang) (text : List ℕ) → IsSpelling text → IsSpelling (punctuation l text)
punctuation-spelling lang.Any text is = is
punctuation-spelling lang.Go text is = is
punctuation-spelling lang.C text is = undigraphed-spelling text is
punctuation-spelling lang.Java text is = is
punctuation-spelling lang.Js text is = is
punctuation-spelling lang.Ts text is = is

normal-spelling : (settings : Settings) (l : Lang) (c : Class) (text : List ℕ) → IsSpelling text → IsSpelling (normal_text settings l c text)
normal-spelling settings l class.Ident text is = spelling_if settings.ignore_ids [] text empty-spelling is
normal-spelling settings l class.Word text is = is
normal-spelling settings l class.Literal text is = spelling_if settings.ignore_lits [] text empty-spelling is
normal-spelling settings l class.Punct text is = punctuation-spelling l text is

ignored-empty : (settings : Settings) (l : Lang) (c : Class) (text : List ℕ) → is_ignored settings c ≡ true → normal_text settings l c text ≡ []
ignored-empty settings l class.Ident text is = ap (λ b. unless_ignored b text) is
ignored-empty settings l class.Word text is = absurd (cc)
ignored-empty settings l class.Literal text is = ap (λ b. unless_ignored b text) is
ignored-empty settings l class.Punct text is = absurd (cc)

pub compared : (settings : Settings) (l : Lang) (most lines : ℕ) (tokens : List Spelled) → AllByRecursion (IsPlaced most lines) tokens → AllByRecursion (IsCompared settings l) (normal settings l tokens)
compared settings l most lines [] placed = tt
compared settings l most lines (s ∷ tokens) placed = (
  record {
    lang = refl;
    text = normal-spelling settings l s.token.class s.text placed.0.text;
    ignored = ignored-empty settings l s.token.class s.text;
  },
  compared settings l most lines tokens placed.1,
)

pub places : (most lines : ℕ) (tokens : List Spelled) → AllByRecursion (IsPlaced most lines) tokens → AllByRecursion (IsWithin most lines) (spans_of tokens)
places most lines [] placed = tt
places most lines (s ∷ tokens) placed = (placed.0.place, places most lines tokens placed.1)

-- a token is of the same class as it is compared
pub same_classes : (settings : Settings) (l : Lang) (tokens : List Spelled) → map (λ (t : Token). t.class) (spans_of tokens) ≡ map (λ (n : Norm). n.class) (normal settings l tokens)
same_classes settings l [] = refl
same_classes settings l (s ∷ tokens) = ap (λ (cs : List Class). s.token.class ∷ cs) (same_classes settings l tokens)

-- Tokens as they are compared.
use Rattle.std.specs.Prelude.{ℕ, ◌≤◌, List, [], length, map, sum_by, Bool, if◌then◌else◌, codes}
use Rattle.std.specs.Str.{bytes_eq}
use Rattle.cq_base.specs.declared.settings.Settings.{Settings}
use Rattle.cq_base.specs.declared.lang.Lang.{Lang}
use Rattle.cq_base.specs.declared.lang.Lang.TheVariants as lang
use Rattle.cq_base.specs.declared.norm.Norm.{Norm}
use Rattle.cq_base.specs.declared.token.Class.{Class}
use Rattle.cq_base.specs.declared.token.Class.TheVariants as class
use Rattle.cq_base.specs.declared.token.Spelled.{Spelled}

-- a digraph of C has the spelling that it stands for (C11 6.4.6)
abbrev pub undigraphed : List ℕ → List ℕ
undigraphed text =
    if bytes_eq text (codes "<:") then codes "["
    else (if bytes_eq text (codes ":>") then codes "]"
    else (if bytes_eq text (codes "<%") then codes "{"
    else (if bytes_eq text (codes "%>") then codes "}"
    else (if bytes_eq text (codes "%:") then codes "#"
    else (if bytes_eq text (codes "%:%:") then codes "##"
    else text)))))

abbrev pub punctuation : Lang → List ℕ → List ℕ
punctuation lang.Any text = text
punctuation lang.Go text = text
punctuation lang.C text = undigraphed text
punctuation lang.Java text = text
punctuation lang.Js text = text
punctuation lang.Ts text = text

-- no spelling if the class is ignored
abbrev pub unless_ignored : Bool → List ℕ → List ℕ
unless_ignored ignored text = if ignored then [] else text

-- reserved words are never ignored
abbrev pub normal_text : Settings → Lang → Class → List ℕ → List ℕ
normal_text settings l class.Ident text = unless_ignored settings.ignore_ids text
normal_text settings l class.Word text = text
normal_text settings l class.Literal text = unless_ignored settings.ignore_lits text
normal_text settings l class.Punct text = punctuation l text

-- language, class and text
abbrev pub norm_of : Settings → Lang → Spelled → Norm
norm_of settings l s = record { lang = l; class = s.token.class; text = normal_text settings l s.token.class s.text }

-- token by token
abbrev pub normal : Settings → Lang → List Spelled → List Norm
normal settings l tokens = map (norm_of settings l) tokens

-- the spellings that are compared have no more bytes together than the tokens' own
abbrev pub AreNoLonger : List Spelled → List Norm → Type 0
AreNoLonger tokens norms = sum_by (λ n. length n.text) norms ≤ sum_by (λ s. length s.text) tokens

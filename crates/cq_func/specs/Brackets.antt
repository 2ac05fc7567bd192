-- Spellings of tokens, and brackets and their partners. A place of a token counts from 0. For a place that does not exist
-- the number of tokens is given, where there is no token.
use Rattle.std.specs.Prelude.{ℕ, ◌+◌, ◌-◌, ◌==◌, ◌||◌, ◌&&◌, nat_lt, Bool, false, Option, Some, None, List, [], ◌∷◌, length, take, drop, slice_get, count_by, codes}
use Rattle.std.specs.Str.{bytes_eq}
use Rattle.cq_base.specs.declared.lang.Lang.{Lang}
use Rattle.cq_base.specs.declared.token.Class.{Class}
use Rattle.cq_base.specs.declared.token.Class.TheVariants as class
use Rattle.cq_base.specs.declared.token.Spelled.{Spelled}
use Rattle.cq_normal.specs.Normal.{punctuation}
use Rattle.cq_func.specs.declared.brackets.Kind.{Kind}
use Rattle.cq_func.specs.declared.brackets.Kind.TheVariants as kind
use Rattle.cq_func.specs.Places.{place_above}

-- ---- spellings

-- as tokens are compared if nothing is ignored: a digraph of C has the spelling that it stands for
abbrev pub spelling_of : Lang → Class → List ℕ → List ℕ
spelling_of l class.Ident text = text
spelling_of l class.Word text = text
spelling_of l class.Literal text = text
spelling_of l class.Punct text = punctuation l text

abbrev pub is_spelled : Lang → List ℕ → Spelled → Bool
is_spelled l word t = bytes_eq (spelling_of l t.token.class t.text) word

abbrev pub holds : (Spelled → Bool) → Option Spelled → Bool
holds test None = false
holds test (Some t) = test t

-- there is a token at the place, and it is spelled so
abbrev pub stands : Lang → List Spelled → ℕ → List ℕ → Bool
stands l ts at word = holds (is_spelled l word) (slice_get ts at)

-- there is a token before the place, and it is spelled so
abbrev pub stands_before : Lang → List Spelled → ℕ → List ℕ → Bool
stands_before l ts at word = nat_lt 0 at && stands l ts (at - 1) word

-- ---- brackets

-- of each of the three kinds, or of all three together
abbrev pub opens : Lang → Kind → Spelled → Bool
opens l kind.Round t = is_spelled l (codes "(") t
opens l kind.Square t = is_spelled l (codes "[") t
opens l kind.Curly t = is_spelled l (codes "{") t
opens l kind.All t = is_spelled l (codes "(") t || (is_spelled l (codes "[") t || is_spelled l (codes "{") t)

abbrev pub closes : Lang → Kind → Spelled → Bool
closes l kind.Round t = is_spelled l (codes ")") t
closes l kind.Square t = is_spelled l (codes "]") t
closes l kind.Curly t = is_spelled l (codes "}") t
closes l kind.All t = is_spelled l (codes ")") t || (is_spelled l (codes "]") t || is_spelled l (codes "}") t)

-- The sign of a token: the byte of its spelling if it has only one, else 0. It identifies brackets.
abbrev pub only_byte : List ℕ → ℕ
only_byte [] = 0
only_byte (b ∷ []) = b
only_byte (b ∷ c ∷ s) = 0

abbrev pub sign_of : Lang → Spelled → ℕ
sign_of l t = only_byte (spelling_of l t.token.class t.text)

-- the same by the sign
abbrev pub opens_with : Kind → ℕ → Bool
opens_with kind.Round b = b == 40
opens_with kind.Square b = b == 91
opens_with kind.Curly b = b == 123
opens_with kind.All b = (b == 40) || ((b == 91) || (b == 123))

abbrev pub closes_with : Kind → ℕ → Bool
closes_with kind.Round b = b == 41
closes_with kind.Square b = b == 93
closes_with kind.Curly b = b == 125
closes_with kind.All b = (b == 41) || ((b == 93) || (b == 125))

-- they hold equally many openings and closings
abbrev pub are_even : Lang → Kind → List Spelled → Bool
are_even l k ts = count_by (opens l k) ts == count_by (closes l k) ts

-- the tokens before a place, those from `i` to `j`, and those between `i` and `j`
abbrev pub before : List Spelled → ℕ → List Spelled
before ts at = take at ts

abbrev pub from_to : List Spelled → ℕ → ℕ → List Spelled
from_to ts i j = take (j + 1 - i) (drop i ts)

abbrev pub between : List Spelled → ℕ → ℕ → List Spelled
between ts i j = take (j - (i + 1)) (drop (i + 1) ts)

-- The partner of a bracket that opens: the least place above it such that the tokens from the one to the other hold equally
-- many openings and closings of its kind.
unfoldable pub partner : Lang → Kind → List Spelled → ℕ → ℕ
partner l k ts at = place_above (λ j. are_even l k (from_to ts at j)) at (length ts)

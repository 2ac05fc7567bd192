-- Identifiers and keywords (JLS 3.8, 3.9). Contextual keywords are identifiers.
use Rattle.std.specs.Prelude.{ℕ, Bool, ◌||◌, ◌==◌, List, [], ◌∷◌, codes}
use Rattle.cq_munch.specs.Pattern.{Pattern, among, many, ◌▸◌}
use Rattle.cq_munch.specs.Characters.{seen_as}
use Rattle.unicode_ident.specs.Ident.{is_xid_start, is_xid_continue}

-- the keywords, and the literals true, false and null
abbrev pub keywords : List (List ℕ)
keywords = codes "abstract" ∷ codes "assert" ∷ codes "boolean" ∷ codes "break" ∷ codes "byte" ∷ codes "case" ∷ codes "catch" ∷ codes "char" ∷ codes "class" ∷ codes "const" ∷ codes "continue" ∷ codes "default" ∷ codes "do" ∷ codes "double" ∷ codes "else" ∷ codes "enum" ∷ codes "extends" ∷ codes "final" ∷ codes "finally" ∷ codes "float" ∷ codes "for" ∷ codes "goto" ∷ codes "if" ∷ codes "implements" ∷ codes "import" ∷ codes "instanceof" ∷ codes "int" ∷ codes "interface" ∷ codes "long" ∷ codes "native" ∷ codes "new" ∷ codes "package" ∷ codes "private" ∷ codes "protected" ∷ codes "public" ∷ codes "return" ∷ codes "short" ∷ codes "static" ∷ codes "strictfp" ∷ codes "super" ∷ codes "switch" ∷ codes "synchronized" ∷ codes "this" ∷ codes "throw" ∷ codes "throws" ∷ codes "transient" ∷ codes "try" ∷ codes "void" ∷ codes "volatile" ∷ codes "while" ∷ codes "_" ∷ codes "true" ∷ codes "false" ∷ codes "null" ∷ []

-- XID_Start (UAX #31), an underscore and a dollar sign
unfoldable pub begins_identifier : ℕ → Bool
begins_identifier c = (is_xid_start c || (c == 95)) || (c == 36)

-- XID_Continue, which the underscore is, and a dollar sign
unfoldable pub continues_identifier : ℕ → Bool
continues_identifier c = is_xid_continue c || (c == 36)

-- how patterns see a character
abbrev pub stood : ℕ → ℕ
stood c = seen_as begins_identifier continues_identifier c

-- letters, an underscore and a dollar sign, and past ASCII what begins an identifier
abbrev pub letter : Pattern
letter = among ((65, 90) ∷ (97, 122) ∷ (95, 95) ∷ (36, 36) ∷ (128, 128) ∷ [])

-- and digits, and past ASCII what continues an identifier
abbrev pub continuing : Pattern
continuing = among ((65, 90) ∷ (97, 122) ∷ (48, 57) ∷ (95, 95) ∷ (36, 36) ∷ (128, 129) ∷ [])

unfoldable pub identifier : Pattern
identifier = letter ▸ many continuing

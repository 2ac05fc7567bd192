-- Modes: what the token before means for a slash, and what is open: substitutions of templates, elements of JSX, and braces inside
-- these. In the place of the goal symbols of ECMA-262 clause 12, which need a parser, stands a rule by the token before.
use Rattle.std.specs.Prelude.{ℕ, Bool, not, ◌+◌, ◌*◌, ◌/◌, ◌%◌, ◌^◌, ◌-◌, ◌&&◌, ◌||◌, ◌==◌, nat_lt, if◌then◌else◌, List, length, slice_index_or, codes}
use Rattle.std.specs.Str.{bytes_eq}
use Rattle.cq_base.specs.declared.token.Class.{Class}
use Rattle.cq_base.specs.declared.token.Class.TheVariants.{Ident, Word, Literal, Punct}
use Rattle.cq_munch.specs.Table.{starts}
use Rattle.cq_munch.specs.declared.element.Spell.{Spell}
use Rattle.cq_munch.specs.declared.element.Spell.TheVariants.{Blank, Comment, Token}

-- A mode is four times a stack, and what the token before was: 0 if an operand may follow, or before the first token, 1 for the end of
-- an operand, 2 for a point before a property's name, 3 for a slash in a tag.
abbrev pub with_token : ℕ → ℕ → ℕ
with_token mode token = mode / 4 * 4 + token

-- a slash begins a regular expression, and a less-than sign an element
abbrev pub expects_operand : ℕ → Bool
expects_operand mode = not (mode % 4 == 1)

-- a name is a property's, also if it is spelled as a reserved word
abbrev pub is_after_point : ℕ → Bool
is_after_point mode = mode % 4 == 2

-- The stack is a number, whose digits by 4 are what is open, the innermost last: 1 for a substitution, 2 for an element's children, 3
-- for a tag, and 0 for a brace inside one of these. Outside them it is 0, also after a brace.
abbrev pub is_full : ℕ → Bool
is_full mode = not (nat_lt mode (2 ^ 60))

abbrev pub opened : ℕ → ℕ → ℕ
opened mode digit = if is_full mode then mode else (mode / 4 * 4 + digit) * 4

abbrev pub closed : ℕ → ℕ
closed mode = mode / 16 * 4

abbrev pub has_open : ℕ → ℕ → Bool
has_open mode digit = mode / 4 % 4 == digit

-- a closing brace ends a substitution
abbrev pub ends_substitution : ℕ → Bool
ends_substitution mode = has_open mode 1

abbrev pub is_among_children : ℕ → Bool
is_among_children mode = has_open mode 2

abbrev pub is_in_tag : ℕ → Bool
is_in_tag mode = has_open mode 3

abbrev pub is_in_element : ℕ → Bool
is_in_element mode = is_among_children mode || is_in_tag mode

-- an element is an operand, unless it is another's child or an attribute
abbrev pub after_element : ℕ → ℕ
after_element mode = if is_in_element (closed mode) then closed mode else with_token (closed mode) 1

-- the tag ends, and its element's children begin
abbrev pub after_tag : ℕ → ℕ
after_tag mode = closed mode * 4 + 2 * 4

abbrev pub is : List ℕ → List ℕ → Bool
is word s = bytes_eq word s

-- reserved words that end an operand
abbrev pub ends_operand : List ℕ → Bool
ends_operand s = is (codes "this") s || (is (codes "super") s || (is (codes "null") s || (is (codes "true") s || is (codes "false") s)))

-- only a template begins with a backquote or a brace, or ends with a brace
abbrev pub after_literal : ℕ → List ℕ → ℕ
after_literal mode s =
    if slice_index_or s (length s - 1) 0 == 123
    then (if starts (λ c. c == 96) s then opened mode 1 else with_token mode 0)
    else (if starts (λ c. c == 125) s then with_token (closed mode) 1 else with_token mode 1)

-- a closing brace counts as the end of a block
abbrev pub after_punctuator : ℕ → List ℕ → ℕ
after_punctuator mode s =
    if is (codes "{") s then opened mode 0
    else if is (codes "}") s then closed mode
    else if is (codes ")") s || (is (codes "]") s || (is (codes "++") s || is (codes "--") s)) then with_token mode 1
    else if is (codes ".") s || is (codes "?.") s then with_token mode 2
    else if is (codes "<") s && expects_operand mode then opened mode 3
    else with_token mode 0

abbrev pub after_child : ℕ → Class → List ℕ → ℕ
after_child mode Literal s = with_token mode 0
after_child mode Punct s =
    if is (codes "{") s then opened mode 0
    else if is (codes "<") s then opened mode 3
    else after_element mode
after_child mode class s = mode

abbrev pub after_tag_token : ℕ → Class → List ℕ → ℕ
after_tag_token mode Punct s =
    if is (codes "{") s then opened mode 0
    else if is (codes "<") s then opened mode 3
    else if is (codes "/") s then with_token mode 3
    else if is (codes ">") s then (if mode % 4 == 3 then after_element mode else after_tag mode)
    else with_token mode 0
after_tag_token mode class s = with_token mode 0

abbrev pub after_token : ℕ → Class → List ℕ → ℕ
after_token mode Ident s = with_token mode 1
after_token mode Word s = with_token mode (if ends_operand s then 1 else 0)
after_token mode Literal s = after_literal mode s
after_token mode Punct s = after_punctuator mode s

abbrev pub after_any : ℕ → Class → List ℕ → ℕ
after_any mode class s =
    if is_among_children mode then after_child mode class s
    else if is_in_tag mode then after_tag_token mode class s
    else after_token mode class s

-- the mode after an element of the language
abbrev pub mode_behind : ℕ → Spell → List ℕ → ℕ
mode_behind mode Blank s = mode
mode_behind mode Comment s = mode
mode_behind mode (Token class) s = after_any mode class s

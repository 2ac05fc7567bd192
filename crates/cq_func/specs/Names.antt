-- Which tokens are names of functions, and which braces are their bodies, language by language.
use Rattle.std.specs.Prelude.{ℕ, ◌+◌, ◌-◌, ◌==◌, ◌||◌, ◌&&◌, not, nat_lt, Bool, true, false, Option, Some, None, List, length, slice_get, codes, if◌then◌else◌}
use Rattle.cq_base.specs.declared.lang.Lang.{Lang}
use Rattle.cq_base.specs.declared.lang.Lang.TheVariants as lang
use Rattle.cq_base.specs.declared.token.Class.{Class}
use Rattle.cq_base.specs.declared.token.Class.TheVariants as class
use Rattle.cq_base.specs.declared.token.Spelled.{Spelled}
use Rattle.cq_func.specs.declared.brackets.Kind.TheVariants as kind
use Rattle.cq_func.specs.declared.found.Found.{Found}
use Rattle.cq_func.specs.declared.ts.Types.{Types}
use Rattle.cq_func.specs.declared.ts.Types.TheVariants as types
use Rattle.cq_func.specs.Places.{place_below, place_above}
use Rattle.cq_func.specs.Brackets.{stands, stands_before, holds, are_even, before, between, partner}

abbrev pub is_ident : Class → Bool
is_ident class.Ident = true
is_ident class.Word = false
is_ident class.Literal = false
is_ident class.Punct = false

-- there is an identifier at the place
abbrev pub is_name : List Spelled → ℕ → Bool
is_name ts at = holds (λ t. is_ident t.token.class) (slice_get ts at)

-- an identifier, and directly after it a parenthesis that opens
abbrev pub is_called : Lang → List Spelled → ℕ → Bool
is_called l ts name = is_name ts name && stands l ts (name + 1) (codes "(")

-- a function of this name, if the body's `{` is at this place and has a partner
abbrev pub with_body : Lang → List Spelled → ℕ → ℕ → Option Found
with_body l ts name brace =
    if stands l ts brace (codes "{") && nat_lt (partner l kind.Curly ts brace) (length ts)
    then Some (record { name = name; brace = brace; close = partner l kind.Curly ts brace })
    else None

-- ---- Java

-- a use of a name that is not a method: after `new`, a dot, a comma or `@`, or that of a record
abbrev pub is_no_method : List Spelled → ℕ → Bool
is_no_method ts name =
    stands_before lang.Java ts name (codes "new") || (stands_before lang.Java ts name (codes ".")
    || (stands_before lang.Java ts name (codes ",") || (stands_before lang.Java ts name (codes "@")
    || (is_name ts (name - 1) && stands_before lang.Java ts name (codes "record")))))

-- what cannot be among the types after `throws`
abbrev pub ends_throws : List Spelled → ℕ → Bool
ends_throws ts at =
    stands lang.Java ts at (codes "{") || (stands lang.Java ts at (codes "}") || (stands lang.Java ts at (codes ";")
    || (stands lang.Java ts at (codes "(") || stands lang.Java ts at (codes ")"))))

-- after `throws` at this place and at least one token more
abbrev pub behind_throws : List Spelled → ℕ → ℕ
behind_throws ts at =
    let end = place_above (ends_throws ts) at (length ts) in
    if nat_lt (at + 1) end then end else length ts

-- where the body is to begin, after the parenthesis that closes at this place
abbrev pub java_open : List Spelled → ℕ → ℕ
java_open ts close = if stands lang.Java ts (close + 1) (codes "throws") then behind_throws ts (close + 1) else close + 1

abbrev pub java_function : List Spelled → ℕ → Option Found
java_function ts name =
    if is_called lang.Java ts name && not (is_no_method ts name)
    then with_body lang.Java ts name (java_open ts (partner lang.Java kind.Round ts (name + 1)))
    else None

-- ---- C

-- outside of all braces
abbrev pub c_function : List Spelled → ℕ → Option Found
c_function ts name =
    if is_called lang.C ts name && are_even lang.C kind.Curly (before ts name)
    then with_body lang.C ts name (partner lang.C kind.Round ts (name + 1) + 1)
    else None

-- ---- Go

-- a declaration begins: at the first token or after a semicolon, if equally many brackets are closed and opened
abbrev pub go_begins : List Spelled → ℕ → Bool
go_begins ts at =
    stands lang.Go ts at (codes "func") && ((at == 0 || stands_before lang.Go ts at (codes ";")) && are_even lang.Go kind.All (before ts at))

-- where the name of that declaration is, after its receiver if it has one
abbrev pub go_name : List Spelled → ℕ → ℕ
go_name ts at =
    if go_begins ts at
    then (if is_name ts (at + 1) then at + 1
    else (if stands lang.Go ts (at + 1) (codes "(") then partner lang.Go kind.Round ts (at + 1) + 1 else length ts))
    else length ts

-- the `func` whose name is at this place
unfoldable pub go_func : List Spelled → ℕ → ℕ
go_func ts name = place_below (λ at. go_name ts at == name) (length ts)

abbrev pub go_is_named : List Spelled → ℕ → Bool
go_is_named ts name = is_name ts name && nat_lt (go_func ts name) (length ts)

-- where the parameters begin, after the type parameters if there are some
abbrev pub go_parameters : List Spelled → ℕ → ℕ
go_parameters ts name =
    if stands lang.Go ts (name + 1) (codes "[") then partner lang.Go kind.Square ts (name + 1) + 1 else name + 1

-- the semicolon that ends the declaration whose parameters close at this place
unfoldable pub go_end : List Spelled → ℕ → ℕ
go_end ts close = place_above (λ q. stands lang.Go ts q (codes ";") && are_even lang.Go kind.All (between ts close q)) close (length ts)

-- the brace whose partner is at this place
unfoldable pub go_open : List Spelled → ℕ → ℕ
go_open ts close = place_below (λ b. stands lang.Go ts b (codes "{") && (partner lang.Go kind.Curly ts b == close)) (length ts)

-- the braces of a type
abbrev pub is_type : List Spelled → ℕ → Bool
is_type ts brace = stands_before lang.Go ts brace (codes "interface") || stands_before lang.Go ts brace (codes "struct")

-- after the parenthesis that closes at this place, the braces directly before the semicolon that ends the declaration
abbrev pub go_body : List Spelled → ℕ → ℕ → Option Found
go_body ts name close =
    let end = go_end ts close in
    let brace = go_open ts (end - 1) in
    if nat_lt end (length ts) && (nat_lt close brace && (nat_lt brace (length ts) && not (is_type ts brace)))
    then Some (record { name = name; brace = brace; close = end - 1 })
    else None

abbrev pub go_function : List Spelled → ℕ → Option Found
go_function ts name =
    let first = go_parameters ts name in
    let close = partner lang.Go kind.Round ts first in
    if go_is_named ts name && (stands lang.Go ts first (codes "(") && nat_lt close (length ts))
    then go_body ts name close
    else None

-- ---- JavaScript, and what TypeScript has as well

-- a use of a name that is not a method: after `new`, `extends` or a point
abbrev pub is_used : Lang → List Spelled → ℕ → Bool
is_used l ts name =
    stands_before l ts name (codes "new") || (stands_before l ts name (codes "extends")
    || (stands_before l ts name (codes ".") || stands_before l ts name (codes "?.")))

-- a declaration or a method, if the name is directly before a parenthesis
abbrev pub js_declared : List Spelled → ℕ → Option Found
js_declared ts name = if is_used lang.Js ts name then None else with_body lang.Js ts name (partner lang.Js kind.Round ts (name + 1) + 1)

-- a name that is given a value: directly before an equals sign or a colon
abbrev pub is_given : Lang → List Spelled → ℕ → Bool
is_given l ts name = is_name ts name && (stands l ts (name + 1) (codes "=") || stands l ts (name + 1) (codes ":"))

-- the next place, if this word is here
abbrev pub past : Lang → List ℕ → List Spelled → ℕ → ℕ
past l word ts at = if stands l ts at word then at + 1 else at

abbrev pub is_expression : Lang → List Spelled → ℕ → Bool
is_expression l ts at = stands l ts at (codes "function")

-- where the parameters begin of a function that begins at this place: after `function` and maybe `*`, or here
abbrev pub expressed : Lang → List Spelled → ℕ → ℕ
expressed l ts at = if is_expression l ts at then past l (codes "*") ts (at + 1) else at

-- where its body is to begin, after its parameters: there, or after an arrow if there was no `function`
abbrev pub arrow_open : Lang → List Spelled → ℕ → ℕ → ℕ
arrow_open l ts at behind =
    if is_expression l ts at then behind
    else (if stands l ts behind (codes "=>") then behind + 1 else length ts)

-- a function that is the value of the name, maybe after `async`
abbrev pub js_value : List Spelled → ℕ → Option Found
js_value ts name =
    let at = past lang.Js (codes "async") ts (name + 2) in
    let first = expressed lang.Js ts at in
    if stands lang.Js ts first (codes "(")
    then with_body lang.Js ts name (arrow_open lang.Js ts at (partner lang.Js kind.Round ts first + 1))
    else None

abbrev pub js_function : List Spelled → ℕ → Option Found
js_function ts name =
    if is_called lang.Js ts name then js_declared ts name
    else (if is_given lang.Js ts name then js_value ts name else None)

-- ---- TypeScript

-- what no type has here outside brackets of its own
abbrev pub ends_any : List Spelled → ℕ → Bool
ends_any ts at =
    stands lang.Ts ts at (codes "(") || (stands lang.Ts ts at (codes ")") || (stands lang.Ts ts at (codes "{")
    || (stands lang.Ts ts at (codes "}") || stands lang.Ts ts at (codes ";"))))

-- what ends a list of a type's parameters, the type of a result, and that of a value
abbrev pub ends_type : Types → List Spelled → ℕ → Bool
ends_type types.Parameters ts at =
    stands lang.Ts ts at (codes "<") || ends_any ts at
ends_type types.Result ts at =
    stands lang.Ts ts at (codes "=>") || ends_any ts at
ends_type types.Value ts at =
    stands lang.Ts ts at (codes "=") || (stands lang.Ts ts at (codes ":") || (stands lang.Ts ts at (codes ",") || ends_any ts at))

-- the first of these after the place
abbrev pub type_end : Types → List Spelled → ℕ → ℕ
type_end which ts at = place_above (ends_type which ts) at (length ts)

-- where the parameters begin: at this place, or after those of a type
abbrev pub typed_parameters : List Spelled → ℕ → ℕ
typed_parameters ts at =
    if stands lang.Ts ts at (codes "<")
    then (if stands_before lang.Ts ts (type_end types.Parameters ts at) (codes ">") then type_end types.Parameters ts at else length ts)
    else at

-- after a colon at this place and a type of at least one token, or this place
abbrev pub behind_result : List Spelled → ℕ → ℕ
behind_result ts at =
    if stands lang.Ts ts at (codes ":")
    then (if nat_lt (at + 1) (type_end types.Result ts at) then type_end types.Result ts at else length ts)
    else at

-- a name that is not used there
abbrev pub is_own : List Spelled → ℕ → Bool
is_own ts name = is_name ts name && not (is_used lang.Ts ts name)

abbrev pub ts_declared : List Spelled → ℕ → Option Found
ts_declared ts name =
    let first = typed_parameters ts (name + 1) in
    let brace = behind_result ts (partner lang.Ts kind.Round ts first + 1) in
    if is_own ts name
    then (if stands lang.Ts ts first (codes "(") then with_body lang.Ts ts name brace else None)
    else None

-- where a value of the name begins, after a colon and its type, an equals sign, or a colon
abbrev pub value_place : List Spelled → ℕ → ℕ
value_place ts name =
    if stands lang.Ts ts (name + 1) (codes ":")
    then (if stands lang.Ts ts (type_end types.Value ts (name + 1)) (codes "=") then type_end types.Value ts (name + 1) + 1 else name + 2)
    else name + 2

-- the last name of a value's type: before an equals sign, and after a colon or a sign that joins types
abbrev pub is_type_name : List Spelled → ℕ → Bool
is_type_name ts name =
    stands lang.Ts ts (name + 1) (codes "=")
    && (stands_before lang.Ts ts name (codes ":") || (stands_before lang.Ts ts name (codes "|") || stands_before lang.Ts ts name (codes "&")))

abbrev pub ts_value : List Spelled → ℕ → Option Found
ts_value ts name =
    let at = past lang.Ts (codes "async") ts (value_place ts name) in
    let first = typed_parameters ts (expressed lang.Ts ts at) in
    let brace = arrow_open lang.Ts ts at (behind_result ts (partner lang.Ts kind.Round ts first + 1)) in
    if is_type_name ts name then None
    else (if stands lang.Ts ts first (codes "(") then with_body lang.Ts ts name brace else None)

abbrev pub ts_function : List Spelled → ℕ → Option Found
ts_function ts name = if is_given lang.Ts ts name then ts_value ts name else ts_declared ts name

-- ---- all languages

-- the function whose name is at this place, if there is one
abbrev pub function_at : Lang → List Spelled → ℕ → Option Found
function_at lang.Any ts name = None
function_at lang.Go ts name = go_function ts name
function_at lang.C ts name = c_function ts name
function_at lang.Java ts name = java_function ts name
function_at lang.Js ts name = js_function ts name
function_at lang.Ts ts name = ts_function ts name

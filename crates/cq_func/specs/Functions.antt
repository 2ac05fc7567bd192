-- The functions of a file, with their lines and their complexity.
use Rattle.std.specs.Prelude.{ℕ, ◌+◌, ◌&&◌, not, nat_lt, nat_le, Bool, List, [], ◌∷◌, length, map, count_by, slice_index_or}
use Rattle.std.specs.Option.{option_to_list}
use Rattle.std.specs.List.{flat_map, list_any, range_with_len}
use Rattle.cq_base.specs.declared.lang.Lang.{Lang}
use Rattle.cq_base.specs.declared.token.Class.TheVariants.{Punct}
use Rattle.cq_base.specs.declared.token.Spelled.{Spelled}
use Rattle.cq_measures.specs.Decisions.{is_decision}
use Rattle.cq_func.specs.declared.found.Found.{Found}
use Rattle.cq_func.specs.declared.function.Function.{Function}
use Rattle.cq_func.specs.Names.{function_at}

-- by the places of their names
abbrev pub found : Lang → List Spelled → List Found
found l ts = flat_map (λ at. option_to_list (function_at l ts at)) (range_with_len 0 (length ts))

-- ---- complexity

abbrev pub no_token : Spelled
no_token = record { token = record { class = Punct; start = 0; len = 0; first_line = 0; last_line = 0 }; text = [] }

abbrev pub token_at : List Spelled → ℕ → Spelled
token_at ts at = slice_index_or ts at no_token

-- the spelling directly before a place, or none
abbrev pub text_before : List Spelled → ℕ → List ℕ
text_before ts at = (slice_index_or (no_token ∷ ts) at no_token).text

abbrev pub decides : Lang → List Spelled → ℕ → Bool
decides l ts at = is_decision l (text_before ts at) (token_at ts at)

-- The body has the token at this place: it reaches from after its `{` to its `}`. Neither of these decides.
abbrev pub has : Found → ℕ → Bool
has f at = nat_lt f.brace at && nat_le at f.close

-- the body of `g` is one inside that of `f`
abbrev pub is_inside : Found → Found → Bool
is_inside f g = nat_lt f.brace g.brace && nat_lt g.close f.close

-- it is in the body of `f`, and in no body of another function inside it
abbrev pub is_own : List Found → Found → ℕ → Bool
is_own fs f at = has f at && not (list_any (λ g. is_inside f g && has g at) fs)

-- how many decisions are its own
abbrev pub own_decisions : Lang → List Spelled → List Found → Found → ℕ
own_decisions l ts fs f = count_by (λ at. decides l ts at && is_own fs f at) (range_with_len 0 (length ts))

-- ---- what is listed

-- a function with this many decisions of its own: its complexity is 1 more
abbrev pub described : List Spelled → Found → ℕ → Function
described ts f own =
    record {
      name = (token_at ts f.name).text;
      first = (token_at ts f.name).token.first_line;
      last = (token_at ts f.close).token.last_line;
      complexity = 1 + own;
    }

abbrev pub function_of : Lang → List Spelled → List Found → Found → Function
function_of l ts fs f = described ts f (own_decisions l ts fs f)

abbrev pub functions : Lang → List Spelled → List Function
functions l ts = map (function_of l ts (found l ts)) (found l ts)

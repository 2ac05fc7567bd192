-- How many functions a text has.
use Rattle.std.proofs.Common.{◌≤◌, Option, Some, None, List, [], ◌∷◌, length, arith, length-append}
use Rattle.std.specs.Option.{option_to_list}
use Rattle.std.specs.List.{flat_map, range_with_len}
use Rattle.std.proofs.lemmas.List.{length-map}
use Rattle.std.proofs.lemmas.List.FromFn.{length-range_with_len}
use Rattle.cq_base.specs.declared.lang.Lang.{Lang}
use Rattle.cq_base.specs.declared.token.Spelled.{Spelled}
use Rattle.cq_func.specs.Functions.{found, functions, function_of}
use Rattle.cq_func.specs.Names.{function_at}

one_most : {X : Type 0} (o : Option X) → length (option_to_list o) ≤ 1
one_most None = omega arith
one_most (Some x) = omega arith

found_most : {X Y : Type 0} (f : X → Option Y) (xs : List X) → length (flat_map (λ x. option_to_list (f x)) xs) ≤ length xs
found_most f [] = omega arith
found_most f (x ∷ xs) =
    let both = length-append (option_to_list (f x)) (flat_map (λ y. option_to_list (f y)) xs) in
    let one = one_most (f x) in
    let rest = found_most f xs in
    omega (arith, both, one, rest)

-- no more functions than tokens
pub few_functions : (l : Lang) (ts : List Spelled) → length (functions l ts) ≤ length ts
few_functions l ts =
    let told = length-map (found l ts) (function_of l ts (found l ts)) in
    let most = found_most (λ at. function_at l ts at) (range_with_len 0 (length ts)) in
    let many = length-range_with_len 0 (length ts) in
    omega (arith, told, most, many)

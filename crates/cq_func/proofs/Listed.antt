-- The lists of what is found, and of what is told of it.
use Rattle.std.proofs.Common.{◌≡◌, ℕ, ◌+◌, ◌<◌, Option, None, List, [], ◌∷◌, ◌++◌, length, get_or, map, take, refl, sym, ap, ◌∙◌}
use Rattle.std.specs.Prelude.{Result, Ok, Err, IfOk}
use Rattle.std.specs.Option.{option_to_list}
use Rattle.std.specs.List.{flat_map, range_with_len}
use Rattle.std.proofs.lemmas.List.{map_more}
use Rattle.cq_base.proofs.Lists.{same_default}
use Rattle.cq_base.specs.declared.lang.Lang.{Lang}
use Rattle.cq_base.specs.declared.token.Spelled.{Spelled}
use Rattle.cq_func.specs.declared.found.Found.{Found}
use Rattle.cq_func.specs.declared.function.Function.{Function}
use Rattle.cq_func.specs.Functions.{found, described, function_of, no_token}
use Rattle.cq_func.specs.Walks.{AreBodies, AreOwn}
use Rattle.cq_func.proofs.Bodies.{bodies, found_next}

-- one place more, by what stands there
pub kept_more : (f : ℕ → Option Found) (n : ℕ) (kept : List Found) (one : Option Found) → kept ≡ flat_map (λ at. option_to_list (f at)) (range_with_len 0 n) → one ≡ f n
    → kept ++ option_to_list one ≡ flat_map (λ at. option_to_list (f at)) (range_with_len 0 (n + 1))
kept_more f n kept one so_far is =
    ap (λ xs. xs ++ option_to_list one) so_far
    ∙ ap (λ o. flat_map (λ at. option_to_list (f at)) (range_with_len 0 n) ++ option_to_list o) is
    ∙ sym (found_next f n)

pub none_found : (xs : List ℕ) → flat_map (λ at. option_to_list {X = Found} None) xs ≡ []
none_found [] = refl
none_found (x ∷ xs) = none_found xs

abbrev pub nothing : Found
nothing = record { name = 0; brace = 0; close = 0 }

pub found_bodies : (l : Lang) (ts : List Spelled) → AreBodies (length ts) (found l ts)
found_bodies l ts = bodies l ts no_token

-- one function more is told
pub told_more : (l : Lang) (ts : List Spelled) (fs : List Found) (own : List ℕ) (at : ℕ) (told : List Function) (one : Function) → at < length fs → AreOwn l ts fs (length ts) own
    → told ≡ map (function_of l ts fs) (take at fs) → one ≡ described ts (get_or fs at nothing) (get_or own (get_or fs at nothing).brace 0)
    → told ++ one ∷ [] ≡ map (function_of l ts fs) (take (at + 1) fs)
told_more l ts fs own at told one inside are so_far is =
    let f = get_or fs at nothing in
    let count = are.each f (at, inside, same_default fs at nothing inside) in
    ap (λ xs. xs ++ one ∷ []) so_far
    ∙ ap (λ x. map (function_of l ts fs) (take at fs) ++ x ∷ []) (is ∙ ap (described ts f) count)
    ∙ sym (map_more (function_of l ts fs) fs at nothing inside)

-- what an answer has where it is `Ok`, made weaker
pub if_ok : {T E : Type 0} {P Q : T → Type 0} → ((x : T) → P x → Q x) → (r : Result T E) → IfOk r P → IfOk r Q
if_ok weaker (Ok x) holds = weaker x holds
if_ok weaker (Err e) holds = holds

pub is_described : (ts : List Spelled) (f : Found) (m n : ℕ) (one : Function) → one ≡ described ts f m → m ≡ n → one ≡ described ts f n
is_described ts f m n one is same = is ∙ ap (described ts f) same

-- The functions of tokens that stand in order lie within their lines, and are named by a token.
use Rattle.std.proofs.Common.{ℕ, ◌+◌, ◌<◌, ◌≤◌, List, length, get_or, map, arith}
use Rattle.std.specs.Prelude.{◌&&◌}
use Rattle.std.specs.List.{AllByRecursion, range_with_len}
use Rattle.std.proofs.lemmas.List.Elements.{All-from_recursion, All-get_or, All-map, recursion_from_All}
use Rattle.std.proofs.lemmas.List.FromFn.{length-range_with_len}
use Rattle.std.proofs.lemmas.List.Sums.{count_by-le-length}
use Rattle.cq_base.proofs.Lists.{All-from_contains}
use Rattle.cq_base.specs.declared.lang.Lang.{Lang}
use Rattle.cq_base.specs.declared.token.Spelled.{Spelled}
use Rattle.cq_func.specs.Functions.{found, functions, function_of, own_decisions, decides, is_own, token_at, no_token}
use Rattle.cq_func.proofs.Bodies.{bodies, found-are}
use Rattle.cq_work.specs.Bounds.{IsFunctionWithin}
use Rattle.cq_work.proofs.Standing.{Stand, IsPlaced, each_placed, lines_rise}

module _ (most lines from : ℕ) (tokens : List Spelled) (stand : Stand most lines from tokens) (few : length tokens ≤ 262144) (l : Lang) where
  token_placed : (at : ℕ) → at < length tokens → IsPlaced most lines (get_or tokens at no_token)
  token_placed at inside = All-get_or (IsPlaced most lines) tokens at no_token inside (All-from_recursion (IsPlaced most lines) tokens (each_placed most lines from tokens stand))

  -- a name and an end after it, with no more decisions than tokens
  one_within : (name close own : ℕ) → name ≤ close → close < length tokens → own ≤ length tokens
      → IsFunctionWithin lines (record { name = (token_at tokens name).text; first = (token_at tokens name).token.first_line; last = (token_at tokens close).token.last_line; complexity = 1 + own })
  one_within name close own ordered closed decided =
      let named = token_placed name (omega (arith, ordered, closed)) in
      let ended = token_placed close closed in
      record {
        name = named.text;
        first = named.place.first;
        in_order = lines_rise most lines from tokens name close no_token stand ordered closed;
        last = ended.place.last;
        complexity = omega (arith, decided, few);
      }

  pub functions_within : AllByRecursion (IsFunctionWithin lines) (functions l tokens)
  functions_within =
      let fs = found l tokens in
      let are = bodies l tokens no_token in
      let many = length-range_with_len 0 (length tokens) in
      recursion_from_All (IsFunctionWithin lines) (map (function_of l tokens fs) fs)
      (All-map (IsFunctionWithin lines) (function_of l tokens fs) fs
      (All-from_contains (λ f. IsFunctionWithin lines (function_of l tokens fs f)) fs
      (λ f among.
      let here = found-are l tokens f among in
      let begun = here.begun in
      let ordered = are.ordered f among in
      let own = count_by-le-length (λ at. decides l tokens at && is_own fs f at) (range_with_len 0 (length tokens)) in
      one_within f.name f.close (own_decisions l tokens fs f) (omega (arith, begun, ordered)) here.pair.within (omega (arith, own, many)))))

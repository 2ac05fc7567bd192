use Rattle.std.proofs.Common.{◌≡◌, length}
use Rattle.std.specs.List.{list_all}
use Rattle.json.specs.Lex.{tokens}
use Rattle.cq_request.specs.Valued.{token_fits}
use Rattle.cq_request.proofs.skipping.check_numbers.Given as goal

abbrev pub invariant-tokens : goal.invariant-tokens
invariant-tokens l = list_all token_fits (tokens l.text) ≡ list_all token_fits l.reader

abbrev pub decreases-tokens : goal.decreases-tokens
decreases-tokens l = length l.reader

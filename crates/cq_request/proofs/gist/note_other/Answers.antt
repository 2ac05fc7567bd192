use Rattle.std.proofs.Common.{rules, ◌≡◌, false, option_map, string_bytes, subst}
use Rattle.cq_request.specs.Valued.{IsLeast}
use Rattle.cq_request.proofs.Least.{least_left}
use Rattle.cq_request.proofs.gist.note_other.Goals as goal

pub returns-then-not-is_least-clause-other : goal.returns-then-not-is_least-clause-other
returns-then-not-is_least-clause-other c =
    let other = option_map string_bytes c.args.gist.now.other in
    let no : c.is_least.result ≡ false = search rules in
    least_left c.args.key.now other (subst (IsLeast c.args.key.now other) no c.is_least.ensures)

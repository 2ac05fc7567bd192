use Rattle.std.proofs.Common.{refl}
use Rattle.cq_request.proofs.Objects.{line_not_utf8}
use Rattle.cq_request.proofs.gist.line_gist.Goals as goal

pub returns-in-Err-clause-refused : goal.returns-in-Err-clause-refused
returns-in-Err-clause-refused c = (refl, line_not_utf8 c.args.line.now c.in-Err.ensures.cases.0)

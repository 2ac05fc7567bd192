use Rattle.std.proofs.Common.{◌≡◌, true, false, refl}
use Rattle.cq_request.proofs.Spelling.{spelled_ok, spelled_none}
use Rattle.cq_request.proofs.reading.parsed.Goals as goal

pub returns-in-Ok-clause-spelled : goal.returns-in-Ok-clause-spelled
returns-in-Ok-clause-spelled c = spelled_ok c.args.line.now _ c.in-Ok.ensures.ok.0 c.in-Ok.ensures.ok.1

pub returns-else-is_memory-clause-refused : goal.returns-else-is_memory-clause-refused
returns-else-is_memory-clause-refused c = (refl, spelled_none c.args.line.now (c.in-Err.ensures.err (λ m. let bad : false ≡ true = c.if-is_memory.ensures.1 m in cc)))

use Rattle.std.proofs.Common.{[]}
use Rattle.cq_kept.proofs.changes.Changes.new.Given as goal

abbrev pub ghost-of : goal.ghost-of
ghost-of g a = []

use Rattle.std.proofs.Common.{◌<◌}
use Rattle.cq_clones.specs.Lists.{AreAllInOrder}
use Rattle.cq_clones.specs.Groups.{IsBefore, IsPlace}
use Rattle.cq_tokens.specs.Parts.{tokens_in}
use Rattle.cq_scan.proofs.occurrences.all_places.Given as goal

abbrev pub invariant-loop-file : goal.invariant-loop-file
invariant-loop-file g l = AreAllInOrder IsBefore (λ z. IsPlace (tokens_in l.files) z × (z.file < l.file)) l.all.items

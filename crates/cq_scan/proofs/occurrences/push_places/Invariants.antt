use Rattle.cq_clones.specs.Lists.{AreAllInOrder}
use Rattle.cq_clones.specs.Groups.{IsBefore, IsPlace}
use Rattle.cq_tokens.specs.Parts.{tokens_in}
use Rattle.cq_scan.proofs.Places.{Upto}
use Rattle.cq_scan.proofs.occurrences.push_places.Given as goal

abbrev pub invariant-loop-at : goal.invariant-loop-at
invariant-loop-at g l = AreAllInOrder IsBefore (Upto (IsPlace (tokens_in l.files)) l.initial.all.items l.file l.at) l.all.items

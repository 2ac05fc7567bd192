use Rattle.std.proofs.Common.{take}
use Rattle.std.specs.Prelude.{Contains}
use Rattle.cq_clones.specs.Lists.{AreAllInOrder}
use Rattle.cq_clones.specs.Groups.{IsBefore, StandsAt, word_at}
use Rattle.cq_tokens.specs.Parts.{tokens_in}
use Rattle.cq_scan.proofs.occurrences.occurrences.Given as goal

abbrev pub invariant-loop-z : goal.invariant-loop-z
invariant-loop-z g l =
    AreAllInOrder IsBefore (λ z. Contains (take l.z-index l.places) z × StandsAt (tokens_in l.files) (word_at (tokens_in l.files) l.p l.n) z) l.found.items

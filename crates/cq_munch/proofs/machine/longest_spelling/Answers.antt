use Rattle.cq_munch.proofs.Front.{scanned_none}
use Rattle.cq_munch.proofs.machine.longest_spelling.Goals as goal

pub longest_spelling_from-requires : goal.longest_spelling_from-requires
longest_spelling_from-requires g c = scanned_none _ _

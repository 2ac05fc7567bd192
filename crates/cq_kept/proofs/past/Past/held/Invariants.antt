use Rattle.cq_kept.proofs.past.Past.held.Given as goal

abbrev pub ghost-of : goal.ghost-of
ghost-of g a = g.slots

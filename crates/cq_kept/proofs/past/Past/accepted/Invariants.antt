use Rattle.cq_kept.proofs.past.Past.accepted.Given as goal

abbrev pub ghost-of : goal.ghost-of
ghost-of g a = g.slots

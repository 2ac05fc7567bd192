use Rattle.cq_kept.proofs.original.Original.again.Given as goal

abbrev pub ghost-of : goal.ghost-of
ghost-of g a = g.bytes

use Rattle.cq_kept.proofs.original.Original.of_text.Given as goal

abbrev pub ghost-of : goal.ghost-of
ghost-of g a = g.bytes

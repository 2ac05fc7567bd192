use Rattle.cq_program.proofs.logged.serve_logged.Given as goal

abbrev pub ghosts-kept : goal.ghosts-kept
ghosts-kept g a = record { name = a.blank.name; parts = a.blank.parts }

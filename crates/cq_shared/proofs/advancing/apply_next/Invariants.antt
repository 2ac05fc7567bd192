use Rattle.cq_shared.proofs.advancing.apply_next.Given as goal

abbrev pub ghosts-apply_counted : goal.ghosts-apply_counted
ghosts-apply_counted g a = record { name = a.blank.name; parts = a.blank.parts }

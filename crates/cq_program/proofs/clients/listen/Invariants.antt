use Rattle.cq_program.proofs.clients.listen.Given as goal

abbrev pub ghosts-serve_clients : goal.ghosts-serve_clients
ghosts-serve_clients g a = record { name = a.blank.name; parts = a.blank.parts }

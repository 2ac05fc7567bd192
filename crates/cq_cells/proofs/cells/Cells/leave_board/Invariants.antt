use Rattle.cq_cells.proofs.cells.Cells.leave_board.Given as goal

abbrev pub ghosts-note : goal.ghosts-note
ghosts-note g a = record { event = g.event }

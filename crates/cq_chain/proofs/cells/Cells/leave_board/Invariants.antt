use Rattle.cq_chain.proofs.cells.Cells.leave_board.Given as goal

abbrev pub ghost-leave_board : goal.ghost-leave_board
ghost-leave_board g a = g.event

use Rattle.std.proofs.Common.{None}
use Rattle.cq_part_cases.proofs.telling.how_often.Given as goal

abbrev pub ghost-leave_board : goal.ghost-leave_board
ghost-leave_board g a = None

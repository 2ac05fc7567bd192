use Rattle.std.proofs.Common.{Some}
use Rattle.std.specs.Prelude.{slice_index}
use Rattle.cq_part_cases.proofs.telling.add.Given as goal

abbrev pub ghost-leave_board : goal.ghost-leave_board
ghost-leave_board g a = Some record { by = slice_index a.pass.now.callers 0; after = 0 }

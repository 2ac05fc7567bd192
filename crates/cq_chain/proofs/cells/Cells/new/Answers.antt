use Rattle.std.proofs.Common.{ap}
use Rattle.cq_base.specs.declared.settings.Settings.{Settings}
use Rattle.cq_chain.proofs.Passing.{none_lawful, first_board, first_shards}
use Rattle.cq_chain.proofs.cells.Cells.new.Goals as goal

pub new-requires-clause-lawful : goal.new-requires-clause-lawful
new-requires-clause-lawful g c = none_lawful _

pub new-requires-clause-board : goal.new-requires-clause-board
new-requires-clause-board g c = first_board _ c.args.board c.settings.ensures c.callers.ensures c.requires.board

pub new-requires-clause-shards : goal.new-requires-clause-shards
new-requires-clause-shards g c = first_shards g.W.Indexed.keys_in g.W.Indexed.IsWorkOf _ c.args.board.settings.shards c.args.shards.items (ap (λ (z : Settings). z.shards) c.settings.ensures) c.requires.shards

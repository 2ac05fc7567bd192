use Rattle.cq_base.proofs.Tables.{read_back}
use Rattle.cq_base.proofs.laws.tables_are_read_back.Goals as goal

pub returns : goal.returns
returns c = read_back

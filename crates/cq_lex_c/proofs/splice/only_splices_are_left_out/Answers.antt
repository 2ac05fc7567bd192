use Rattle.cq_lex_c.proofs.Staying.{only_splices}
use Rattle.cq_lex_c.proofs.splice.only_splices_are_left_out.Goals as goal

pub returns : goal.returns
returns c = only_splices

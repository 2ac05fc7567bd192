use Rattle.cq_lex_c.proofs.HeaderNames.{names_are_enclosed}
use Rattle.cq_lex_c.proofs.header.header_names_are_enclosed.Goals as goal

pub returns : goal.returns
returns c = names_are_enclosed

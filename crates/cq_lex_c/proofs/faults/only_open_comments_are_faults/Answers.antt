use Rattle.cq_munch.specs.Lexed.{units_of}
use Rattle.cq_lex_c.specs.Splices.{spliced}
use Rattle.cq_lex_c.proofs.OpenComments.{open_comment}
use Rattle.cq_lex_c.proofs.faults.only_open_comments_are_faults.Goals as goal

pub returns : goal.returns
returns c = λ bytes byte h. open_comment (spliced 0 (units_of bytes)) byte h

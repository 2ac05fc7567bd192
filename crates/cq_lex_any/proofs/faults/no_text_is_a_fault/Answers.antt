use Rattle.cq_munch.specs.Lexed.{units_of}
use Rattle.cq_lex_any.proofs.Everywhere.{no_end}
use Rattle.cq_lex_any.proofs.faults.no_text_is_a_fault.Goals as goal

pub returns : goal.returns
returns c = λ bytes byte h. no_end (units_of bytes) byte h

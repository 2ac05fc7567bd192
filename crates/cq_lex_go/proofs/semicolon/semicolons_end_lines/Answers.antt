use Rattle.cq_lex_go.proofs.FinalTokens.{end_lines}
use Rattle.cq_lex_go.proofs.semicolon.semicolons_end_lines.Goals as goal

pub returns : goal.returns
returns c = end_lines

use Rattle.std.proofs.Common.{map, refl}
use Rattle.cq_munch.proofs.Reserved.{by_letter_among}
use Rattle.cq_lex_java.specs.Java.{others}
use Rattle.cq_lex_java.specs.OneKind.{is_scanner}
use Rattle.cq_lex_java.specs.Words.{identifier, keywords}
use Rattle.cq_lex_java.specs.declared.words.TheConstants.{RESERVED}
use Rattle.cq_lex_java.proofs.element.element.Goals as goal

pub returns : goal.returns
returns c =
    c.named_found.ensures identifier keywords others is_scanner (λ s. by_letter_among keywords (map (λ row. map (λ w. w.now) row.now) RESERVED) refl refl s)

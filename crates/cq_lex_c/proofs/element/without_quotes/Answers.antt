use Rattle.std.proofs.Common.{map, refl}
use Rattle.cq_munch.proofs.Reserved.{by_letter_among}
use Rattle.cq_lex_c.specs.C.{no_names}
use Rattle.cq_lex_c.specs.Identifiers.{identifier, keywords}
use Rattle.cq_lex_c.specs.OneKind.{is_scanner}
use Rattle.cq_lex_c.specs.declared.identifier.TheConstants.{RESERVED}
use Rattle.cq_lex_c.proofs.element.without_quotes.Goals as goal

pub returns : goal.returns
returns c =
    c.named_found.ensures identifier keywords no_names is_scanner (λ s. by_letter_among keywords (map (λ row. map (λ w. w.now) row.now) RESERVED) refl refl s)

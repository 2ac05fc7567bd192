use Rattle.std.proofs.Common.{map, refl}
use Rattle.cq_munch.proofs.Reserved.{by_letter_among}
use Rattle.cq_lex_js.specs.JavaScript.{others}
use Rattle.cq_lex_js.specs.Names.{name, keywords}
use Rattle.cq_lex_js.specs.OneKind.{is_scanner}
use Rattle.cq_lex_js.specs.declared.words.TheConstants.{RESERVED}
use Rattle.cq_lex_js.proofs.element.element.Goals as goal

pub returns : goal.returns
returns c = c.named_found.ensures name keywords others is_scanner (λ s. by_letter_among keywords (map (λ row. map (λ w. w.now) row.now) RESERVED) refl refl s)

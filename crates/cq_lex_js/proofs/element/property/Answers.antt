use Rattle.std.proofs.Common.{[], refl}
use Rattle.cq_munch.proofs.Reserved.{by_letter_among}
use Rattle.cq_lex_js.specs.JavaScript.{others}
use Rattle.cq_lex_js.specs.Names.{name}
use Rattle.cq_lex_js.specs.OneKind.{is_property_scanner}
use Rattle.cq_lex_js.proofs.element.property.Goals as goal

pub returns : goal.returns
returns c = c.named_found.ensures name [] others is_property_scanner (λ s. by_letter_among [] [] refl refl s)

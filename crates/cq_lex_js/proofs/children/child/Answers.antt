use Rattle.std.proofs.Common.{refl}
use Rattle.cq_lex_js.specs.OneKind.{children_fit}
use Rattle.cq_lex_js.specs.ChildrenScanner.{scanned, texts}
use Rattle.cq_lex_js.proofs.children.child.Goals as goal

pub returns : goal.returns
returns c = c.longest_seen.ensures scanned texts (refl, children_fit)

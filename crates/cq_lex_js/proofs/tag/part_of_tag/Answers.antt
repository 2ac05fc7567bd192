use Rattle.std.proofs.Common.{refl}
use Rattle.cq_lex_js.specs.OneKind.{tag_fits}
use Rattle.cq_lex_js.specs.TagScanner.{scanned, texts}
use Rattle.cq_lex_js.proofs.tag.part_of_tag.Goals as goal

pub returns : goal.returns
returns c = c.longest_seen.ensures scanned texts (refl, tag_fits)

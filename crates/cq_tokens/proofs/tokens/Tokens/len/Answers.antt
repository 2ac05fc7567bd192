use Rattle.std.proofs.Common.{◌∙◌, ap, sym, length}
use Rattle.cq_tokens.proofs.Texts.{as_many}
use Rattle.cq_tokens.proofs.tokens.Tokens.len.Goals as goal

pub returns : goal.returns
returns g c = c.len.ensures ∙ c.self.inside.packed.marks.ok.0 ∙ sym (as_many 0 c.self.inside.packed.marks.items c.self.inside.packed.bytes.items) ∙ ap length c.self.view_is

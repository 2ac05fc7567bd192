use Rattle.std.proofs.Common.{◌∙◌}
use Rattle.cq_kept.proofs.original.Original.of_text.Goals as goal

pub returns : goal.returns
returns g c = c.of.ensures ∙ c.requires

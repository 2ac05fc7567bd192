use Rattle.std.proofs.Common.{◌∙◌}
use Rattle.cq_kept.proofs.original.Original.again.Goals as goal

pub returns : goal.returns
returns g c = c.of.ensures ∙ c.requires

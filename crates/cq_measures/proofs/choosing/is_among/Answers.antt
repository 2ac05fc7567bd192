use Rattle.std.proofs.Common.{◌∙◌}
use Rattle.cq_measures.proofs.Chosen.{among}
use Rattle.cq_measures.proofs.choosing.is_among.Goals as goal

pub returns : goal.returns
returns c = c.is_ok.ensures.value ∙ among c.args.chosen.now c.args.file c.binary_search.result c.binary_search.ensures.position c.requires

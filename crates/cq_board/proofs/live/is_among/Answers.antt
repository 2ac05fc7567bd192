use Rattle.std.proofs.Common.{◌∙◌}
use Rattle.cq_board.proofs.Numbers.{among}
use Rattle.cq_board.proofs.live.is_among.Goals as goal

pub returns : goal.returns
returns c = c.is_ok.ensures.value ∙ among c.args.gone.now c.args.number c.binary_search.result c.binary_search.ensures.position c.requires

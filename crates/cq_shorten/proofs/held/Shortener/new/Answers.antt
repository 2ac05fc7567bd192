use Rattle.cq_shorten.proofs.Deciding.{nothing_taken}
use Rattle.cq_shorten.proofs.held.Shortener.new.Goals as goal

pub returns : goal.returns
returns c = nothing_taken c.args.settings.now _ c.new.ensures

use Rattle.std.proofs.Common.{◌∙◌}
use Rattle.cq_kept.proofs.Places.{there_is}
use Rattle.cq_kept.proofs.presence.Presence.has.Goals as goal

pub returns : goal.returns
returns c changes floor is = c.contains_key.ensures ∙ there_is changes floor c.args.self.now is c.args.file.now

use Rattle.std.proofs.Common.{rules}
use Rattle.cq_make.proofs.Texts.{put_sound}
use Rattle.cq_make.proofs.generator.put_of.Goals as goal

pub returns-clause-sound : goal.returns-clause-sound
returns-clause-sound c = let sound = put_sound c.args.number c.args.file in search rules

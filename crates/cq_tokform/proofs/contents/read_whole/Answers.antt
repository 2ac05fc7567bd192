use Rattle.std.proofs.Common.{arith}
use Rattle.cq_tokform.specs.Spelling.{whole, listed}
use Rattle.cq_tokform.specs.Sound.{IsSoundWhole}
use Rattle.cq_tokform.specs.Reading.{whole_at}
use Rattle.cq_tokform.proofs.Fields.{reads}
use Rattle.cq_tokform.proofs.Wholes.{wholes}
use Rattle.cq_tokform.proofs.contents.read_whole.Goals as goal

pub returns : goal.returns
returns c = record { reads = reads (whole c.args.settings.now) (IsSoundWhole c.args.settings.now) (whole_at c.args.settings.now) (wholes c.args.settings.now) (λ x. (listed x.0, x.1.now)) c.args.bytes.now c.whole_of.result (λ i. omega (arith, c.type_inv.bytes i)) c.whole_of.ensures }

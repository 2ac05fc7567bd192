use Rattle.std.proofs.Common.{refl, inl}
use Rattle.cq_shared.proofs.Calling.{stays}
use Rattle.cq_shared.proofs.shared.Shared.accept.Goals as goal

pub returns-clause-refused : goal.returns-clause-refused
returns-clause-refused g c = stays c.args.self.now c.args.pass.now c.args.pass.now _ c.requires.of refl refl refl refl (inl refl)

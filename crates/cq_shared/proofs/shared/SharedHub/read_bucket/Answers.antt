use Rattle.std.proofs.Common.{sym, subst₂}
use Rattle.cq_hub.specs.Views.{IsOpen}
use Rattle.cq_shared.specs.SharedPasses.{settings_of, state_of}
use Rattle.cq_shared.proofs.Calling.{extends}
use Rattle.cq_shared.proofs.shared.SharedHub.read_bucket.Goals as goal

pub read_bucket-requires : goal.read_bucket-requires
read_bucket-requires g c = let r = c.requires.viewing in record { of = r.2.is; viewing = subst₂ (λ n l. IsOpen (g.W.Indexed.IsWorkOf (settings_of c.args.self.now)) (state_of c.args.self.now l) n c.args.view.now) (sym r.2.caller) (sym r.2.seen) r.3 }

pub returns-clause-reads : goal.returns-clause-reads
returns-clause-reads g c = extends _ _ _ _ _ _ c.read_bucket.ensures.reads

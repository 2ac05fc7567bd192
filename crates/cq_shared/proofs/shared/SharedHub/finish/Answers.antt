use Rattle.std.proofs.Common.{sym, subst}
use Rattle.std.specs.Arc.{arc_value}
use Rattle.cq_history.specs.Changes.{IsWorkFor}
use Rattle.cq_history.specs.State.{slot_of, IsAccepted}
use Rattle.cq_shared.specs.SharedPasses.{settings_of, state_of}
use Rattle.cq_shared.proofs.Calling.{extends}
use Rattle.cq_shared.proofs.shared.SharedHub.finish.Goals as goal

pub finish-requires : goal.finish-requires
finish-requires g c = let r = c.requires.work in record {
  of = r.2.is;
  accepted = subst (λ l. IsAccepted (state_of c.args.self.now l) c.args.change) (sym r.2.seen) r.3.0;
  work = subst (λ l. IsWorkFor (g.W.Indexed.IsWorkOf (settings_of c.args.self.now)) (slot_of (state_of c.args.self.now l) c.args.change).change (arc_value c.args.work)) (sym r.2.seen) r.3.1;
}

pub returns-clause-done : goal.returns-clause-done
returns-clause-done g c = λ same. extends _ _ _ _ _ _ (c.finish.ensures.done same)

pub returns-clause-already : goal.returns-clause-already
returns-clause-already g c = λ same. extends _ _ _ _ _ _ (c.finish.ensures.already same)

use Rattle.std.proofs.Common.{ap, subst, ◌∙◌}
use Rattle.std.specs.Prelude.{IfOk}
use Rattle.std.proofs.lemmas.Bool.{false≢true}
use Rattle.cq_history.specs.Changes.{is_put}
use Rattle.cq_history.specs.State.{Slot, is_done}
use Rattle.cq_board.proofs.Works.{text_there}
use Rattle.cq_base.specs.declared.change.Change.{Change}
use Rattle.cq_board.specs.Answers.{IsJobOf}
use Rattle.cq_board.proofs.undone.job_at.Goals as goal

pub job_of-requires : goal.job_of-requires
job_of-requires g c = record {
  put = ap (λ (s : Slot). is_put s.change) c.in-Some.ensures.slot ∙ c.requires.put;
  text = text_there (g.W.Indexed.IsWorkOf c.args.changes.now.settings) c.in-Some.kept.now (ap is_done c.in-Some.ensures.slot ∙ c.requires.undone) c.in-Some.ensures.work;
}

pub returns-clause-job : goal.returns-clause-job
returns-clause-job g c =
    subst (λ (d : Change). IfOk c.job_of.result (IsJobOf d)) (ap (λ (s : Slot). s.change) c.in-Some.ensures.slot) c.job_of.ensures.job

pub unreachable-requires : goal.unreachable-requires
unreachable-requires g c = absurd (false≢true (c.in-None.ensures.some.1 c.requires.held))

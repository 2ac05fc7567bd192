-- The works of the changes that jobs are of.
use Rattle.std.proofs.Common.{◌≡◌, ℕ, List, subst}
use Rattle.std.specs.Arc.{arc_value}
use Rattle.cq_base.specs.declared.lang.Lang.{Lang}
use Rattle.cq_base.specs.declared.change.Change.{Change}
use Rattle.cq_base.specs.declared.change.Change.TheVariants.{Put, Drop, Gate}
use Rattle.cq_history.specs.Changes.{IsWorkFor}
use Rattle.cq_history.specs.State.{State, slot_of}
use Rattle.cq_board.specs.Answers.{IsJob, IsJobOf}
use Rattle.cq_board.specs.declared.answers.Job.{Job}

module _ {W : Type 0} (IsWork : Lang → List ℕ → W → Type 0) where
  work_of_change : (change : Change) (j : Job) (w : W) → IsJobOf change j → IsWork j.lang (arc_value j.text) w → IsWorkFor IsWork change w
  work_of_change (Put project path lang text) j w job is = subst (λ l. IsWork l text w) job.0 (subst (λ t. IsWork j.lang t w) job.1 is)
  work_of_change (Drop project path) j w job is = absurd job
  work_of_change (Gate project conditions) j w job is = absurd job

  -- the work of a job's text is that of its change
  pub job_work : (s : State) (r : ℕ) (j : Job) (w : W) → j.change ≡ r → IsJob s j → IsWork j.lang (arc_value j.text) w → IsWorkFor IsWork (slot_of s r).change w
  job_work s r j w same is work = subst (λ n. IsWorkFor IsWork (slot_of s n).change w) same (work_of_change (slot_of s j.change).change j w is work)

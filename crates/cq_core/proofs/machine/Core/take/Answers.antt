use Rattle.std.proofs.Common.{◌≡◌, Ok, refl, ap, ◌∙◌, subst, inl, inr, arith}
use Rattle.std.specs.Prelude.{IfSome, MatchOption}
use Rattle.cq_board.specs.Stands as board
use Rattle.cq_board.specs.declared.answers.Job.{Job}
use Rattle.cq_history.specs.Core.{Adds}
use Rattle.cq_history.specs.State.{first_free, IsAccepted}
use Rattle.cq_history.specs.declared.event.Event.TheVariants as event
use Rattle.cq_core.specs.declared.step.Outcome.TheVariants as outcome
use Rattle.cq_core.specs.Cores.{CoreState}
use Rattle.cq_core.specs.Steps.{IsStepped, Done-if}
use Rattle.cq_core.proofs.Stepping.{core, keeps_on, keeps_same, steps_on, stays, allowed_of}
use Rattle.cq_shard.specs.Shard.{HasWindow}
use Rattle.cq_core.proofs.machine.Core.take.Goals as goal
use Rattle.cq_core.proofs.machine.Core.take.Goals.{in-Some, in-None}

pub invariant_of-self-2 : goal.invariant_of-self-2
invariant_of-self-2 g c =
    elim c.match-branch-2.branch [
      | in-Some w ↦ keeps_on (HasWindow g.W.Indexed.keys_in g.W.Indexed.IsWorkOf) c.it_stands_on.ensures g.W.Indexed.IsWorkOf c.self.inside.board c.take.new.self c.self.inside.shards.items c.self.inside.views.items c.self.invariant (event.Took c.args.by w.in-Some.job.change) (subst (λ o. IfSome o (λ (j : Job). board.Adds (event.Took c.args.by j.change) c.self.inside.board c.take.new.self)) w.in-Some.is c.in_ok-job.ensures.taken) (λ k is. tt) refl
      | in-None w ↦ keeps_same (HasWindow g.W.Indexed.keys_in g.W.Indexed.IsWorkOf) g.W.Indexed.IsWorkOf c.self.inside.board c.take.new.self c.self.inside.shards.items c.self.inside.views.items (subst (λ o. MatchOption o (c.take.new.self ≡ c.self.inside.board) (λ _. IsAccepted c.self.inside.board.state (first_free c.self.inside.board.state))) w.in-None.is c.in_ok-job.ensures.unchanged) c.self.invariant
    ]

pub returns-clause-outcome : goal.returns-clause-outcome
returns-clause-outcome g c =
    elim c.match-branch-2.branch [
      | in-Some w ↦ rw w.result-is
          (subst (λ (x : CoreState). Done-if (IsAccepted x.board.state (first_free x.board.state)) (outcome.Value (first_free x.board.state)) outcome.NoJob (outcome.Value w.in-Some.job.change)) c.self.view_is
          (inl ((subst (λ o. MatchOption o (c.take.new.self ≡ c.self.inside.board) (λ _. IsAccepted c.self.inside.board.state (first_free c.self.inside.board.state))) w.in-Some.is c.in_ok-job.ensures.unchanged), ap outcome.Value (allowed_of (HasWindow g.W.Indexed.keys_in g.W.Indexed.IsWorkOf) c.it_stands_on.ensures g.W.Indexed.IsWorkOf c.self.inside.board c.take.new.self c.self.inside.shards.items c.self.inside.views.items c.self.invariant (event.Took c.args.by w.in-Some.job.change) (subst (λ o. IfSome o (λ (j : Job). board.Adds (event.Took c.args.by j.change) c.self.inside.board c.take.new.self)) w.in-Some.is c.in_ok-job.ensures.taken)).1.0)))
      | in-None w ↦ rw w.result-is
          (subst (λ (x : CoreState). Done-if (IsAccepted x.board.state (first_free x.board.state)) (outcome.Value (first_free x.board.state)) outcome.NoJob outcome.NoJob) c.self.view_is
          (inr (λ accepted. let past = c.take.ensures.none (c.in_ok-job.was ∙ ap Ok w.in-None.is) in omega (arith, accepted.1, past), refl)))
    ]

pub returns-clause-steps : goal.returns-clause-steps
returns-clause-steps g c =
    elim c.match-branch-2.branch [
      | in-Some w ↦ rw w.result-is
          (subst (λ (x : CoreState). IsStepped (HasWindow g.W.Indexed.keys_in g.W.Indexed.IsWorkOf x.board.settings) (Adds (event.Took c.args.by (first_free x.board.state))) x (core c.take.new.self c.self.inside.shards.items) (outcome.Value w.in-Some.job.change)) c.self.view_is
          (subst (λ r. IsStepped (HasWindow g.W.Indexed.keys_in g.W.Indexed.IsWorkOf c.self.inside.board.settings) (Adds (event.Took c.args.by r)) (core c.self.inside.board c.self.inside.shards.items) (core c.take.new.self c.self.inside.shards.items) (outcome.Value w.in-Some.job.change)) (allowed_of (HasWindow g.W.Indexed.keys_in g.W.Indexed.IsWorkOf) c.it_stands_on.ensures g.W.Indexed.IsWorkOf c.self.inside.board c.take.new.self c.self.inside.shards.items c.self.inside.views.items c.self.invariant (event.Took c.args.by w.in-Some.job.change) (subst (λ o. IfSome o (λ (j : Job). board.Adds (event.Took c.args.by j.change) c.self.inside.board c.take.new.self)) w.in-Some.is c.in_ok-job.ensures.taken)).1.0
          (steps_on (HasWindow g.W.Indexed.keys_in g.W.Indexed.IsWorkOf) c.it_stands_on.ensures g.W.Indexed.IsWorkOf c.self.inside.board c.take.new.self c.self.inside.shards.items c.self.inside.views.items c.self.invariant (event.Took c.args.by w.in-Some.job.change) (subst (λ o. IfSome o (λ (j : Job). board.Adds (event.Took c.args.by j.change) c.self.inside.board c.take.new.self)) w.in-Some.is c.in_ok-job.ensures.taken) (λ k is. tt) (outcome.Value w.in-Some.job.change) tt)))
      | in-None w ↦ rw w.result-is
          (subst (λ (x : CoreState). IsStepped (HasWindow g.W.Indexed.keys_in g.W.Indexed.IsWorkOf x.board.settings) (Adds (event.Took c.args.by (first_free x.board.state))) x (core c.take.new.self c.self.inside.shards.items) outcome.NoJob) c.self.view_is
          (stays (HasWindow g.W.Indexed.keys_in g.W.Indexed.IsWorkOf c.self.inside.board.settings) (Adds (event.Took c.args.by (first_free c.self.inside.board.state))) c.self.inside.board c.take.new.self c.self.inside.shards.items outcome.NoJob (λ h. h) (subst (λ o. MatchOption o (c.take.new.self ≡ c.self.inside.board) (λ _. IsAccepted c.self.inside.board.state (first_free c.self.inside.board.state))) w.in-None.is c.in_ok-job.ensures.unchanged)))
    ]

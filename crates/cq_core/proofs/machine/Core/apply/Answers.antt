use Rattle.std.proofs.Common.{ℕ, ◌+◌, ◌<◌, List, length, set, Option, refl, sym, ap, ◌∙◌, subst, inr, arith}
use Rattle.std.specs.Prelude.{option_copied}
use Rattle.cq_board.specs.Stands as board
use Rattle.cq_history.specs.Core.{stepped}
use Rattle.cq_history.specs.Core.Step.{Applies}
use Rattle.cq_history.specs.State.{changes_in}
use Rattle.cq_shard.specs.Shard.{Contents, HasWindow, brought}
use Rattle.cq_board.proofs.Turning.{always_err}
use Rattle.cq_core.specs.declared.step.Outcome.TheVariants as outcome
use Rattle.cq_core.specs.Cores.{CoreState, AreNumbered}
use Rattle.cq_core.specs.Steps.{IsStepped, HasNext, Counts, CountsSome}
use Rattle.cq_core.specs.declared.step.Step.TheVariants as step
use Rattle.cq_core.proofs.Applying.{floor_passed, HasApplied, IsNextOf, next_of, has_next, stands_applied, takes_applied}
use Rattle.cq_core.proofs.Stepping.{core}
use Rattle.cq_core.proofs.machine.Core.apply.Given as Given
use Rattle.cq_core.proofs.machine.Core.apply.Goals as goal

-- the next change, where the shard applies it, and where memory is refused
next_here : (g : Given.Over) (c : goal.Joined-work-2 g) → IsNextOf g.W.Indexed.IsWorkOf c.self.inside.board c.self.inside.shards.items c.args.shard c.applied-applied.result c.index_mut-shard.result.now (option_copied c.lent.result)
next_here g c =
    next_of g.W.Indexed.IsWorkOf c.self.inside.board c.self.inside.shards.items c.args.shard c.applied-applied.result c.index.result.now c.index_mut-shard.result.now c.in_ok-work.work (option_copied c.lent.result) c.self.invariant.0.1.numbered
    (subst (λ (x : CoreState). c.args.shard < x.board.settings.shards) (sym c.self.view_is) c.requires) c.index.ensures c.index_mut-shard.ensures.value c.applied-applied.ensures
    (floor_passed (HasWindow g.W.Indexed.keys_in g.W.Indexed.IsWorkOf c.self.inside.board.settings) c.self.inside.board c.self.inside.shards.items c.self.invariant.0.0 c.self.invariant.0.1 c.args.shard c.index.result.now
    (let mine = subst (λ (x : CoreState). c.args.shard < x.board.settings.shards) (sym c.self.view_is) c.requires in let all = c.self.invariant.0.1.numbered.number_is in omega (arith, mine, all)) c.index.ensures)
    (let e = c.ready.ensures in omega (arith, e, c.if-applied-ready.false)) c.in_ok-work.ensures.some c.in_ok-work.ensures.work c.lent.ensures

next_there : (g : Given.Over) (c : goal.Joined-work g) → IsNextOf g.W.Indexed.IsWorkOf c.self.inside.board c.self.inside.shards.items c.args.shard c.applied-applied.result c.index_mut-shard.result.now (option_copied c.lent.result)
next_there g c =
    next_of g.W.Indexed.IsWorkOf c.self.inside.board c.self.inside.shards.items c.args.shard c.applied-applied.result c.index.result.now c.index_mut-shard.result.now c.in_ok-work.work (option_copied c.lent.result) c.self.invariant.0.1.numbered
    (subst (λ (x : CoreState). c.args.shard < x.board.settings.shards) (sym c.self.view_is) c.requires) c.index.ensures c.index_mut-shard.ensures.value c.applied-applied.ensures
    (floor_passed (HasWindow g.W.Indexed.keys_in g.W.Indexed.IsWorkOf c.self.inside.board.settings) c.self.inside.board c.self.inside.shards.items c.self.invariant.0.0 c.self.invariant.0.1 c.args.shard c.index.result.now
    (let mine = subst (λ (x : CoreState). c.args.shard < x.board.settings.shards) (sym c.self.view_is) c.requires in let all = c.self.invariant.0.1.numbered.number_is in omega (arith, mine, all)) c.index.ensures)
    (let e = c.ready.ensures in omega (arith, e, c.if-applied-ready.false)) c.in_ok-work.ensures.some c.in_ok-work.ensures.work c.lent.ensures

applied_here : (g : Given.Over) (c : goal.Joined-work-2 g) → HasApplied (HasWindow g.W.Indexed.keys_in g.W.Indexed.IsWorkOf c.self.inside.board.settings) c.self.inside.board c.self.inside.shards.items c.args.shard c.index_mut-shard.result.now c.apply.new.self
applied_here g c =
    let b = c.self.inside.board in
    record {
      within = (next_here g c).within;
      read = c.index_mut-shard.ensures.value;
      next = omega (arith, (next_here g c).below, (next_here g c).same);
      applied = c.in_ok-apply.ensures.applied ∙ ap (λ n. n + 1) (next_here g c).same;
      number = c.in_ok-apply.ensures.kept.0;
      numbers = c.in_ok-apply.ensures.kept.1;
      floor = c.in_ok-apply.ensures.kept.2;
      stands = λ was. c.in_ok-apply.ensures.stands b.settings (changes_in b.state) was (next_here g c).work;
    }

pub invariant_of-self-2 : goal.invariant_of-self-2
invariant_of-self-2 g c =
    let b = c.self.inside.board in
    let stands = stands_applied (HasWindow g.W.Indexed.keys_in g.W.Indexed.IsWorkOf b.settings) b c.self.inside.shards.items c.args.shard c.index_mut-shard.result.now c.apply.new.self (applied_here g c) c.self.invariant.0.0 c.self.invariant.0.1 in
    ((stepped c.self.invariant.0.0 (Applies c.args.shard), stands), c.self.invariant.1)

pub returns-clause-steps : goal.returns-clause-steps
returns-clause-steps g c =
    let b = c.self.inside.board in
    let takes = takes_applied (HasWindow g.W.Indexed.keys_in g.W.Indexed.IsWorkOf b.settings) b c.self.inside.shards.items c.args.shard c.index_mut-shard.result.now c.apply.new.self (applied_here g c) in
    subst (λ (x : CoreState). IsStepped (HasWindow g.W.Indexed.keys_in g.W.Indexed.IsWorkOf x.board.settings) (Applies c.args.shard) x (core b (set c.self.inside.shards.items c.args.shard c.apply.new.self)) (outcome.Value (c.applied-applied.result + 1))) c.self.view_is
    (record { settings = refl; callers = refl; done = λ _. takes; not_done = λ not. absurd (not tt) })

-- what the change brings the shard
brings : (g : Given.Over) (b : board.BoardState) (shards : List Contents) (i applied : ℕ) (old : Contents) (lent : Option g.row.W.Denot) → AreNumbered b.settings.shards shards → IsNextOf g.W.Indexed.IsWorkOf b shards i applied old lent → HasNext g.W.Indexed.keys_in g.W.Indexed.IsWorkOf (core b shards) i (length (brought g.W.Indexed.keys_in (applied + 1) old.shard old.shards lent))
brings g b shards i applied old lent numbered is = has_next g.W.Indexed.keys_in g.W.Indexed.IsWorkOf b shards i (applied + 1) old lent numbered is.within is.read (ap (λ n. n + 1) is.same) is.work

pub returns-clause-counts : goal.returns-clause-counts
returns-clause-counts g c =
    subst (λ (x : CoreState). Counts g.W.Indexed.keys_in g.W.Indexed.IsWorkOf x (step.Apply c.args.shard) (outcome.Value (c.applied-applied.result + 1)) c.args.steps.now c.apply.new.steps) c.self.view_is
    ((λ _. (_, brings g c.self.inside.board c.self.inside.shards.items c.args.shard c.applied-applied.result c.index_mut-shard.result.now (option_copied c.lent.result) c.self.invariant.0.1.numbered (next_here g c), c.in_ok-apply.ensures.steps)), λ not. absurd (not tt))

-- what a refused application has counted
pub returns-in_err-apply-clause-some : goal.returns-in_err-apply-clause-some
returns-in_err-apply-clause-some g c =
    always_err c.from_residual-in_err-apply.result
    (subst (λ (x : CoreState). CountsSome g.W.Indexed.keys_in g.W.Indexed.IsWorkOf x (step.Apply c.args.shard) c.args.steps.now c.apply.new.steps) c.self.view_is
    (inr (_, brings g c.self.inside.board c.self.inside.shards.items c.args.shard c.applied-applied.result c.index_mut-shard.result.now (option_copied c.lent.result) c.self.invariant.0.1.numbered (next_there g c), c.in_err-apply.ensures.most)))

use Rattle.std.proofs.Common.{◌<◌, length, set, refl, sym, ap, ◌∙◌, subst, arith}
use Rattle.std.specs.List.Sorted.{IsStrictlyIncreasing}
use Rattle.cq_history.specs.Core.{stepped}
use Rattle.cq_history.specs.Core.Step.{Sweeps}
use Rattle.cq_shard.specs.Shard.{HasWindow, AreKnown, swept}
use Rattle.cq_core.specs.declared.step.Outcome.TheVariants as outcome
use Rattle.cq_core.specs.Cores.{CoreState}
use Rattle.cq_core.specs.Steps.{IsStepped}
use Rattle.cq_core.proofs.Stepping.{core}
use Rattle.cq_core.proofs.Sweeping.{low, high, known, stands_swept, takes_there, takes_swept}
use Rattle.cq_core.proofs.machine.Core.sweep.Goals as goal

pub returns-then-reached-floor-clause-steps : goal.returns-then-reached-floor-clause-steps
returns-then-reached-floor-clause-steps g c =
    let b = c.self.inside.board in
    let shards = c.self.inside.shards.items in
    let mine : c.args.shard < b.settings.shards = subst (λ (x : CoreState). c.args.shard < x.board.settings.shards) (sym c.self.view_is) c.requires in
    let within : c.args.shard < length shards = omega (arith, mine, c.self.invariant.0.1.numbered.number_is) in
    let takes = takes_there (HasWindow g.W.Indexed.keys_in g.W.Indexed.IsWorkOf b.settings) b shards c.args.shard c.index.result.now within c.index.ensures (omega (arith, c.if-reached-floor.true, c.floor-floor.ensures, c.floor-reached.ensures)) in
    subst (λ (x : CoreState). IsStepped (HasWindow g.W.Indexed.keys_in g.W.Indexed.IsWorkOf x.board.settings) (Sweeps c.args.shard x.board.state.floor) x x outcome.Ok) c.self.view_is
    (record { settings = refl; callers = refl; done = λ _. takes; not_done = λ not. absurd (not tt) })

pub sweep-requires : goal.sweep-requires
sweep-requires g c =
    let b = c.self.inside.board in
    let shards = c.self.inside.shards.items in
    let mine : c.args.shard < b.settings.shards = subst (λ (x : CoreState). c.args.shard < x.board.settings.shards) (sym c.self.view_is) c.requires in
    let within : c.args.shard < length shards = omega (arith, mine, c.self.invariant.0.1.numbered.number_is) in
    let old = c.index_mut-shard.result.now in
    record {
      low = (let n = low (HasWindow g.W.Indexed.keys_in g.W.Indexed.IsWorkOf b.settings) b shards c.args.shard old within c.index_mut-shard.ensures.value c.self.invariant.0.0 c.self.invariant.0.1 in omega (arith, n, c.floor-floor.ensures));
      high = (let n = high (HasWindow g.W.Indexed.keys_in g.W.Indexed.IsWorkOf b.settings) b shards c.args.shard old within c.index_mut-shard.ensures.value c.self.invariant.0.0 c.self.invariant.0.1 in omega (arith, n, c.floor-floor.ensures));
      rising = subst IsStrictlyIncreasing (sym c.numbers.ensures) c.in_ok-keep.ensures.rising;
      known = subst (λ ns. AreKnown ns old) (sym c.numbers.ensures)
          (known (HasWindow g.W.Indexed.keys_in g.W.Indexed.IsWorkOf b.settings) b shards c.args.shard old within c.index_mut-shard.ensures.value c.self.invariant.0.0 c.self.invariant.0.1 (c.it_knows_what_is_kept.ensures b.settings) c.in_ok-keep.keep c.in_ok-keep.ensures);
    }

pub invariant_of-self : goal.invariant_of-self
invariant_of-self g c =
    let b = c.self.inside.board in
    let shards = c.self.inside.shards.items in
    let mine : c.args.shard < b.settings.shards = subst (λ (x : CoreState). c.args.shard < x.board.settings.shards) (sym c.self.view_is) c.requires in
    let within : c.args.shard < length shards = omega (arith, mine, c.self.invariant.0.1.numbered.number_is) in
    let old = c.index_mut-shard.result.now in
    let keep = c.in_ok-keep.keep in
    let is = c.sweep.ensures ∙ ap (λ f. swept f c.numbers.result.now old) c.floor-floor.ensures ∙ ap (λ ns. swept b.state.floor ns old) c.numbers.ensures in
    let stands = stands_swept (HasWindow g.W.Indexed.keys_in g.W.Indexed.IsWorkOf b.settings) b shards c.args.shard old within c.index_mut-shard.ensures.value (c.it_stands_swept.ensures b.settings) keep c.sweep.new.self c.in_ok-keep.ensures is c.self.invariant.0.0 c.self.invariant.0.1 in
    ((stepped c.self.invariant.0.0 (Sweeps c.args.shard b.state.floor), stands), c.self.invariant.1)

pub returns-clause-steps : goal.returns-clause-steps
returns-clause-steps g c =
    let b = c.self.inside.board in
    let shards = c.self.inside.shards.items in
    let mine : c.args.shard < b.settings.shards = subst (λ (x : CoreState). c.args.shard < x.board.settings.shards) (sym c.self.view_is) c.requires in
    let within : c.args.shard < length shards = omega (arith, mine, c.self.invariant.0.1.numbered.number_is) in
    let old = c.index_mut-shard.result.now in
    let keep = c.in_ok-keep.keep in
    let is = c.sweep.ensures ∙ ap (λ f. swept f c.numbers.result.now old) c.floor-floor.ensures ∙ ap (λ ns. swept b.state.floor ns old) c.numbers.ensures in
    let takes = takes_swept (HasWindow g.W.Indexed.keys_in g.W.Indexed.IsWorkOf b.settings) b shards c.args.shard old within c.index_mut-shard.ensures.value (c.it_stands_swept.ensures b.settings) keep c.sweep.new.self c.in_ok-keep.ensures is in
    subst (λ (x : CoreState). IsStepped (HasWindow g.W.Indexed.keys_in g.W.Indexed.IsWorkOf x.board.settings) (Sweeps c.args.shard x.board.state.floor) x (core b (set shards c.args.shard c.sweep.new.self)) outcome.Ok) c.self.view_is
    (record { settings = refl; callers = refl; done = λ _. takes; not_done = λ not. absurd (not tt) })

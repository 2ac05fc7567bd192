use Rattle.std.proofs.Common.{◌+◌, ◌-◌, ◌<◌, ◌≤◌, ◌++◌, ◌∷◌, [], length, get_or, None, Option, Global, refl, sym, ap, ◌∙◌, subst, arith}
use Rattle.std.specs.declared.sync.Arc.{Arc}
use Rattle.cq_history.specs.State.{accepted, ready}
use Rattle.cq_shard.specs.Shard.{HasWindow}
use Rattle.cq_shared.specs.Advancing.{AreWorksFrom}
use Rattle.cq_shared.specs.SharedPasses.{cells_of, settings_of, state_of}
use Rattle.cq_shared.proofs.Applying.{slice_is, its_work, within_accepted, same_step, steps}
use Rattle.cq_shared.proofs.shared.Shared.apply_one.Goals as goal

pub leave_shard-requires : goal.leave_shard-requires
leave_shard-requires g c =
    let e = c.enter_shard-shard.ensures in
    let hub = c.args.self.now in
    record {
      of = e.of;
      shard = c.requires.number;
      step = record { was = c.enter_shard-shard.result; hand = e.hand; step = same_step (HasWindow g.W.Indexed.keys_in g.W.Indexed.IsWorkOf (settings_of hub)) (cells_of hub).about c.enter_shard-shard.new.pass.seen c.enter_shard-shard.result };
    }

pub leave_shard-requires-2-clause-step : goal.leave_shard-requires-2-clause-step
leave_shard-requires-2-clause-step g c =
    let hub = c.args.self.now in
    let e = c.enter_shard-shard.ensures in
    let x = c.enter_shard-shard.result in
    let seen = c.enter_shard-shard.new.pass.seen in
    let done = c.apply_next-done.ensures in
    let works = c.args.works.now.items in
    let d : Option (Arc g.row.W.Denot Global) = None in
    let low : c.args.base ≤ x.applied = let a = c.requires.base.1 in let b = e.published in omega (arith, a, b) in
    let high : x.applied < c.args.to = let a = c.applied-applied.ensures in let b = c.if-applied-to.false in omega (arith, a, b) in
    let most : x.applied + 1 ≤ ready (state_of hub seen) = subst (λ l. x.applied + 1 ≤ ready (state_of hub l)) (sym e.seen) (let r = c.requires.done in omega (arith, r, high)) in
    let are = subst (λ l. AreWorksFrom g.W.Indexed.keys_in (g.W.Indexed.IsWorkOf (settings_of hub)) (accepted l) c.args.base c.args.to works) (sym e.seen) c.requires.works in
    let a = c.applied-applied.result in
    let lt : a - c.args.base < length c.deref.result.now = let same = ap length c.deref.ensures.value in let n = c.requires.works.number in let at = c.applied-applied.ensures in omega (arith, same, n, at, low, high) in
    let slice =
    slice_is c.deref.result.now (a - c.args.base) (a - c.args.base + 1) d refl lt ∙ ap (λ xs. get_or xs (a - c.args.base) d ∷ []) c.deref.ensures.value ∙ ap (λ n. get_or works (n - c.args.base) d ∷ []) c.applied-applied.ensures in
    let near : x.applied < length (accepted seen) = let n = within_accepted (cells_of hub).about seen (x.applied + 1) most in omega (arith, n) in
    record {
      was = x;
      hand = e.hand;
      step = steps (HasWindow g.W.Indexed.keys_in g.W.Indexed.IsWorkOf (settings_of hub)) (cells_of hub).about seen c.apply_next-done.result x c.apply_next-done.new.shard most done.applied done.kept done.same
          (λ later was. done.stands (settings_of hub) (accepted seen ++ later) was
          (its_work g.W.Indexed.keys_in (g.W.Indexed.IsWorkOf (settings_of hub)) (accepted seen) c.args.base c.args.to x.applied works _ are low high d slice later near));
    }

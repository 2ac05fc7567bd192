use Rattle.std.proofs.Common.{sym, ap, ◌∙◌, subst, arith}
use Rattle.cq_history.specs.Gone.{AreKeptPuts}
use Rattle.cq_history.specs.State.{accepted}
use Rattle.cq_shared.specs.SharedPasses.{state_of}
use Rattle.cq_shared.proofs.shared.Shared.sweep_shards.Goals as goal

pub sweep_shard-requires : goal.sweep_shard-requires
sweep_shard-requires g c =
    let hub = c.args.self.now in
    let inv = c.shards.invariant in
    record {
      of = inv.of;
      number = (let n = c.requires.of.shards in let lt = c.shards-test.true in omega (arith, n, lt));
      floor = c.requires.floor ∙ ap (λ l. (state_of hub l).floor) (sym inv.seen);
      keep = subst (λ l. AreKeptPuts (accepted l) c.args.floor c.args.keep.now) (sym inv.seen) c.requires.keep;
    }

use Rattle.std.proofs.Common.{◌≡◌, sym, ap, ◌∙◌, subst, arith}
use Rattle.cq_history.specs.Gone.{AreKeptPuts}
use Rattle.cq_history.specs.State.{accepted}
use Rattle.cq_history.proofs.Bounds.{in_order}
use Rattle.cq_shard.specs.Shard.{HasWindow}
use Rattle.cq_shared.specs.SharedPasses.{cells_of, settings_of, state_of}
use Rattle.cq_shared.proofs.SweptShards.{kept_on, swept_step}
use Rattle.cq_shared.proofs.shared.Shared.sweep_shard.Goals as goal

pub sweep_to-requires : goal.sweep_to-requires
sweep_to-requires g c =
    let hub = c.args.self.now in
    let p = c.args.pass.now in
    let about = (cells_of hub).about in
    let order = in_order about.settings about.callers p.seen c.requires.of.of.law.lawful in
    let low = order.floor in
    let at = c.requires.floor in
    let published = c.enter_shard-shard.ensures.published in
    let found = c.enter_shard-shard.ensures.shard in
    record {
      applied = omega (arith, low, at, published);
      kept = record {
        settings = about.settings;
        changes = accepted found.log;
        stands = found.is.stands;
        kept = kept_on (HasWindow g.W.Indexed.keys_in g.W.Indexed.IsWorkOf about.settings) about p.seen c.requires.of.of.law c.args.floor c.args.keep.now found.log c.requires.floor c.requires.keep found.begins;
      };
    }

pub leave_shard-requires : goal.leave_shard-requires
leave_shard-requires g c =
    let hub = c.args.self.now in
    let e = c.enter_shard-shard.ensures in
    let seen = c.enter_shard-shard.new.pass.seen in
    let floor : c.args.floor ≡ (state_of hub seen).floor = c.requires.floor ∙ ap (λ l. (state_of hub l).floor) (sym e.seen) in
    let keep = subst (λ l. AreKeptPuts (accepted l) c.args.floor c.args.keep.now) (sym e.seen) c.requires.keep in
    record {
      of = e.of;
      shard = c.requires.number;
      step = record { was = c.enter_shard-shard.result; hand = e.hand; step = swept_step (HasWindow g.W.Indexed.keys_in g.W.Indexed.IsWorkOf (settings_of hub)) (cells_of hub).about seen e.of.law c.args.floor c.args.keep.now c.enter_shard-shard.result c.sweep_to.new.shard floor keep c.sweep_to.ensures };
    }

use Rattle.std.proofs.Common.{◌<◌, ◌∙◌, sym, subst}
use Rattle.cq_shard.specs.Shard.{HasWindow}
use Rattle.cq_chain.specs.Passes as chain
use Rattle.cq_chain.specs.Passes.{BoardCells}
use Rattle.cq_shared.proofs.Applying.{same_step}
use Rattle.cq_part_cases.proofs.sweeping.look.Goals as goal

pub enter_shard-shard-requires : goal.enter_shard-shard-requires
enter_shard-shard-requires g c = record {
  of = subst (λ (k : BoardCells). chain.IsPassOf k c.args.pass.now) (sym c.cells.ensures) c.requires.of.of;
  free = c.requires.of.free;
  shard = subst (λ (k : BoardCells). c.args.number < k.about.settings.shards) (sym c.cells.ensures) c.requires.number;
}

pub leave_shard-requires : goal.leave_shard-requires
leave_shard-requires g c =
    let e = c.enter_shard-shard.ensures in
    let cells = c.cells-2.result.now in
    record {
      of = subst (λ (k : BoardCells). chain.IsPassOf k c.enter_shard-shard.new.pass) (c.cells.ensures ∙ sym c.cells-2.ensures) e.of;
      shard = subst (λ (k : BoardCells). c.args.number < k.about.settings.shards) (sym c.cells-2.ensures) c.requires.number;
      step = record { was = c.enter_shard-shard.result; hand = e.hand; step = same_step (HasWindow g.W.Indexed.keys_in g.W.Indexed.IsWorkOf cells.about.settings) cells.about c.enter_shard-shard.new.pass.seen c.enter_shard-shard.result };
    }

pub returns : goal.returns
returns g c =
    let l = c.leave_shard.ensures in
    record { of = record { of = subst (λ (k : BoardCells). chain.IsPassOf k c.leave_shard.new.pass) c.cells-2.ensures l.of; free = l.free; shards = c.requires.of.shards; some_shard = c.requires.of.some_shard } }

pub returns-in_err-entries : goal.returns-in_err-entries
returns-in_err-entries g c =
    let l = c.leave_shard.ensures in
    record { of = record { of = subst (λ (k : BoardCells). chain.IsPassOf k c.leave_shard.new.pass) c.cells-2.ensures l.of; free = l.free; shards = c.requires.of.shards; some_shard = c.requires.of.some_shard } }

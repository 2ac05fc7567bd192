use Rattle.std.proofs.Common.{◌<◌, length, sym, ap, ◌∙◌, subst}
use Rattle.std.specs.List.Sorted.{IsStrictlyIncreasing}
use Rattle.cq_core.specs.Cores.{CoreState}
use Rattle.cq_core.specs.Readings.{AreRead, AreWorked}
use Rattle.cq_core.proofs.Stepping.{view_at}
use Rattle.cq_core.proofs.ReadEntries.{entries_read, files_worked}
use Rattle.cq_shard.specs.Shard.{HasWindow}
use Rattle.cq_core.proofs.machine.Core.read.Goals as goal

pub bucket-requires : goal.bucket-requires
bucket-requires g c =
    let there = subst (λ (x : CoreState). c.args.by < length x.board.state.views) (sym c.self.view_is) c.requires.caller in
    let view = view_at (g.W.Indexed.IsWorkOf c.self.inside.board.settings) c.self.inside.board.state c.self.inside.views.items c.self.invariant.1 c.args.by c.index.result.now c.in-Some.view there c.index.ensures c.in-Some.is in
    record { rising = subst IsStrictlyIncreasing (sym (c.live.ensures ∙ ap (λ l. l.live) c.deref.ensures)) view.0.numbers.rising }

pub returns-in_ok-bucket-in-Some-clause-entries : goal.returns-in_ok-bucket-in-Some-clause-entries
returns-in_ok-bucket-in-Some-clause-entries g c =
    let b = c.self.inside.board in
    let there = subst (λ (x : CoreState). c.args.by < length x.board.state.views) (sym c.self.view_is) c.requires.caller in
    let shard = subst (λ (x : CoreState). c.args.shard < x.board.settings.shards) (sym c.self.view_is) c.requires.shard in
    let view = view_at (g.W.Indexed.IsWorkOf b.settings) b.state c.self.inside.views.items c.self.invariant.1 c.args.by c.index.result.now c.in-Some.view there c.index.ensures c.in-Some.is in
    subst (λ (x : CoreState). AreRead g.W.Indexed.keys_in g.W.Indexed.IsWorkOf x c.args.by c.args.shard c.args.key c.in_ok-bucket-in-Some.bucket.items) c.self.view_is
    (entries_read (g.W.Indexed.IsWorkOf b.settings) (HasWindow g.W.Indexed.keys_in g.W.Indexed.IsWorkOf b.settings) b c.self.inside.shards.items c.self.invariant.0.0 c.self.invariant.0.1 c.args.by c.args.shard c.args.key c.index-in-Some.result.now shard c.index-in-Some.ensures c.in-Some.view view c.live.result.now (c.live.ensures ∙ ap (λ l. l.live) c.deref.ensures) c.in_ok-bucket-in-Some.bucket.items
    (c.shards_have_the_entries.ensures b.settings) c.in_ok-bucket-in-Some.ensures)

pub returns-in_ok-bucket-in-Some-clause-worked : goal.returns-in_ok-bucket-in-Some-clause-worked
returns-in_ok-bucket-in-Some-clause-worked g c =
    let b = c.self.inside.board in
    let there = subst (λ (x : CoreState). c.args.by < length x.board.state.views) (sym c.self.view_is) c.requires.caller in
    let view = view_at (g.W.Indexed.IsWorkOf b.settings) b.state c.self.inside.views.items c.self.invariant.1 c.args.by c.index.result.now c.in-Some.view there c.index.ensures c.in-Some.is in
    subst (λ (x : CoreState). AreWorked (g.W.Indexed.IsWorkOf x.board.settings) x c.args.by) c.self.view_is
    (files_worked (g.W.Indexed.IsWorkOf b.settings) b c.self.inside.shards.items c.args.by c.in-Some.view view)

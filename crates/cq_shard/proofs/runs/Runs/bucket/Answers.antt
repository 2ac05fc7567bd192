use Rattle.std.proofs.Common.{◌≡◌, ◌++◌, ◌∙◌, Contains, List, filter, sym, ap, subst, subst₂, arith}
use Rattle.std.specs.Prelude.{All}
use Rattle.std.proofs.lemmas.List.{append-nil, drop_all}
use Rattle.cq_base.specs.declared.entry.Entry.{Entry}
use Rattle.cq_clones.specs.Lists.{AreAllInOrder}
use Rattle.cq_clones.specs.Windows.{EntryBefore}
use Rattle.cq_shard.specs.Shard.{is_asked}
use Rattle.cq_shard.specs.Runs.{IsRun, entries_in}
use Rattle.cq_shard.proofs.Entries.{asked_in_order}
use Rattle.cq_shard.proofs.Gathering.{runs_by_key}
use Rattle.cq_shard.proofs.runs.Runs.bucket.Goals as goal

pub find-requires-clause-sorted : goal.find-requires-clause-sorted
find-requires-clause-sorted c =
    let all : All IsRun c.deref-run-items.result.now = subst (All IsRun) (sym c.deref-run-items.ensures.value) c.self.invariant.sorted in
    subst IsRun (sym c.run-item.is) (all c.loop-run.run-index c.run-item.result c.loop-run-test.true)

pub returns : goal.returns
returns c =
    let key = c.args.key in
    let live = c.args.live.now in
    let runs = c.self.inside.runs.items in
    let bucket = c.loop-run.bucket.items in
    let past = c.loop-run-test.false in
    let is : bucket ≡ filter (is_asked key live) (entries_in runs) =
    sym (append-nil bucket)
    ∙ ap (λ (rs : List (List Entry)). bucket ++ filter (is_asked key live) (entries_in rs)) (sym (drop_all c.loop-run.run-index c.deref-run-items.result.now (omega (arith, past))))
    ∙ c.loop-run.invariant
    ∙ ap (λ (rs : List (List Entry)). filter (is_asked key live) (entries_in rs)) c.deref-run-items.ensures.value in
    subst₂ (λ (es all : List Entry). AreAllInOrder EntryBefore (λ e. (e.key ≡ key) × Contains live e.change × Contains all e) es) (sym is) c.self.view_is
    (asked_in_order key live (entries_in runs) (runs_by_key runs c.self.invariant))

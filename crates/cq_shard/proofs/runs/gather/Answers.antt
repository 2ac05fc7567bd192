use Rattle.std.proofs.Common.{List, sym, subst, subst₂, arith}
use Rattle.cq_base.specs.declared.entry.Entry.{Entry}
use Rattle.cq_shard.specs.Runs.{IsRun, IsMerged, Precedes}
use Rattle.cq_shard.proofs.Gathering.{gathering_first, to_merge, gathering_next}
use Rattle.cq_shard.proofs.runs.gather.Goals as goal

pub merging-init : goal.merging-init
merging-init c = record { kept = omega arith; runs = gathering_first c.args.runs.now c.args.rows.items c.requires }

pub merged-requires-clause-earlier : goal.merged-requires-clause-earlier
merged-requires-clause-earlier c =
    let last = c.index-runs-kept-in-merging in
    subst IsRun (sym last.is) (to_merge c.args.runs.now c.args.rows.items c.merging.kept last.result c.merging.rows.items c.merging-test.true c.merging.invariant.kept c.merging.invariant.runs).0

pub merged-requires-clause-later : goal.merged-requires-clause-later
merged-requires-clause-later c =
    subst IsRun (sym c.deref.ensures.value)
    (to_merge c.args.runs.now c.args.rows.items c.merging.kept c.merging.rows.items c.merging.rows.items c.merging-test.true c.merging.invariant.kept c.merging.invariant.runs).1

pub merged-requires-clause-follows : goal.merged-requires-clause-follows
merged-requires-clause-follows c =
    let last = c.index-runs-kept-in-merging in
    subst₂ Precedes (sym last.is) (sym c.deref.ensures.value)
    (to_merge c.args.runs.now c.args.rows.items c.merging.kept last.result c.merging.rows.items c.merging-test.true c.merging.invariant.kept c.merging.invariant.runs).2

pub merging-preserved : goal.merging-preserved
merging-preserved c =
    let last = c.index-runs-kept-in-merging in
    let kept = c.merging.invariant.kept in
    record {
      kept = omega (arith, kept);
      runs = gathering_next c.args.runs.now c.args.rows.items c.merging.kept last.result c.merging.rows.items c.merging-test.true c.merging.invariant.kept c.merging.invariant.runs c.in_ok-rows.rows.items
          (subst₂ (λ (run rows : List Entry). IsMerged run rows c.in_ok-rows.rows.items) last.is c.deref.ensures.value c.in_ok-rows.ensures);
    }

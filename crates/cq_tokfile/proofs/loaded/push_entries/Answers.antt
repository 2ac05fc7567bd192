use Rattle.std.proofs.Common.{get_or, refl}
use Rattle.cq_base.specs.declared.entry.Entry.{Entry}
use Rattle.cq_tokfile.proofs.Indexing.{pushed_none, pushed_more, pushed_all}
use Rattle.cq_tokfile.proofs.loaded.push_entries.Goals as goal

pub loop-at-init : goal.loop-at-init
loop-at-init c = pushed_none c.args.entries.now.items c.args.change c.args.keys.now c.requires.apart

pub loop-at-preserved : goal.loop-at-preserved
loop-at-preserved c =
    let e : Entry = record { key = get_or c.args.keys.now c.loop-at.at 0; change = c.args.change; at = c.loop-at.at } in
    rw c.in_ok-push.ensures.items (pushed_more c.args.entries.now.items c.loop-at.entries.items c.args.change c.args.keys.now c.loop-at.at e refl refl refl c.loop-at-test.true c.requires.others c.loop-at.invariant)

pub returns : goal.returns
returns c = pushed_all c.args.entries.now.items c.loop-at.entries.items c.args.change c.args.keys.now c.loop-at.at c.loop-at-test.false c.loop-at.invariant

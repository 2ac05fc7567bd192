use Rattle.std.proofs.Common.{rules, []}
use Rattle.std.proofs.lemmas.List.{drop_all}
use Rattle.cq_measures.proofs.Counted.{AreFilesCounted}
use Rattle.cq_measures.proofs.Sweep.{new_files-is}
use Rattle.cq_measures.proofs.counting.files_touched.Goals as goal

pub returns : goal.returns
returns c =
    let all = c.args.extents.now in
    let after : AreFilesCounted all [] c.loop-extent.next c.loop-extent.files = rw (drop_all c.loop-extent.extent-index all (search rules)) at c.loop-extent.invariant in
    let counted = after.counted in
    let is = new_files-is all c.requires in
    search (rules, counted, is)

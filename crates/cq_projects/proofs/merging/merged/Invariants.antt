use Rattle.std.proofs.Common.{◌≡◌, ◌≤◌, ◌++◌, length, map, drop}
use Rattle.std.specs.Arc.{arc_value}
use Rattle.std.specs.Vec.Iter.{into_iter_items}
use Rattle.cq_projects.specs.Drafts.{edited_all, files_at, AreOwn, AreCut}
use Rattle.cq_projects.proofs.Cutting.{AreFrom}
use Rattle.cq_projects.proofs.OneWalk.{AreBelowAll}
use Rattle.cq_projects.proofs.merging.merged.Given as goal

-- what is left to edit of what is left of the files, after what is done, is what is wanted
abbrev pub invariant-loop-path : goal.invariant-loop-path
invariant-loop-path g l =
    (l.from ≤ length l.fn.files.items) × AreCut (map arc_value l.fn.files.items) l.paths.entries × AreOwn (files_at l.paths.entries) × AreBelowAll (map arc_value l.done.items) (files_at l.paths.entries) × AreFrom l.from l.paths.entries
    × (map arc_value l.done.items ++ edited_all (files_at l.paths.entries) (map arc_value (drop l.from l.fn.files.items)) ≡ edited_all (files_at l.fn.paths.entries) (map arc_value l.fn.files.items))
    × (into_iter_items l.rest ≡ drop l.from l.fn.files.items)

abbrev pub decreases-loop-path : goal.decreases-loop-path
decreases-loop-path g l = length l.paths.entries

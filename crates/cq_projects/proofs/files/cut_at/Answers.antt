use Rattle.std.proofs.Common.{Some, ap, ◌∙◌}
use Rattle.cq_history.specs.Files.{File}
use Rattle.cq_projects.proofs.OwnerLists.{rising_held}
use Rattle.cq_projects.proofs.Putting.{number_at_index, no_number_at}
use Rattle.cq_projects.proofs.Cutting.{cut_at as cut_found, cut_gap}
use Rattle.cq_projects.proofs.Indexes.{at_inside}
use Rattle.cq_projects.proofs.files.cut_at.Goals as goal

pub find_between-requires-clause-rising : goal.find_between-requires-clause-rising
find_between-requires-clause-rising g c = rising_held c.args.files.now c.requires.rising

pub returns-in-Ok-clause-cut : goal.returns-in-Ok-clause-cut
returns-in-Ok-clause-cut g c = cut_found c.args.files.now c.args.path.now c.in-Ok.i c.in-Ok.ensures.found

pub returns-in-Ok-clause-change : goal.returns-in-Ok-clause-change
returns-in-Ok-clause-change g c =
    ap (λ (h : File g.row.W.Denot). Some h.number) (c.behind-files.view_is ∙ c.deref.ensures)
    ∙ number_at_index c.args.files.now c.args.path.now c.in-Ok.i c.in-Ok.ensures.found c.index-files-i.result c.index-files-i.is

pub returns-in-Err-clause-cut : goal.returns-in-Err-clause-cut
returns-in-Err-clause-cut g c = cut_gap c.args.files.now c.args.path.now c.in-Err.i c.in-Err.ensures.gap

pub returns-in-Err-clause-change : goal.returns-in-Err-clause-change
returns-in-Err-clause-change g c = no_number_at c.args.files.now c.args.path.now c.in-Err.i c.in-Err.ensures.gap

pub find_between-requires-clause-bound : goal.find_between-requires-clause-bound
find_between-requires-clause-bound g c = c.requires.bound

pub bounds-files-i : goal.bounds-files-i
bounds-files-i g c = at_inside c.in-Ok.ensures.found

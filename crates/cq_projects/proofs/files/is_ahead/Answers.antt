use Rattle.std.proofs.Common.{◌≡◌, ◌<◌, ◌∙◌, true, length, sym, ap, arith}
use Rattle.std.specs.Ordering.{nat_cmp, is_gt}
use Rattle.std.specs.Cmp.Lexicographic.{slice_cmp}
use Rattle.cq_projects.specs.Projects.{path_in}
use Rattle.cq_projects.proofs.Narrowing.{above_at, before_is_gt}
use Rattle.cq_projects.proofs.files.is_ahead.Goals as goal

pub returns-else-place-files : goal.returns-else-place-files
returns-else-place-files g c = λ gt.
    let within : c.args.place < length c.args.files.now = omega (arith, c.requires.within, c.if-place-files.false) in
    let ahead : is_gt (slice_cmp nat_cmp (path_in c.index-files-place.result) c.args.path.now) ≡ true = ap is_gt (sym c.compare.ensures) ∙ sym c.is_gt.ensures ∙ gt in
    above_at path_in c.args.path.now c.args.files.now c.args.place c.index-files-place.result c.requires.rising within (before_is_gt path_in c.args.path.now c.index-files-place.result _ c.index-files-place.is ahead)

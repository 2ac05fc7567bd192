use Rattle.std.proofs.Common.{◌≡◌, ◌<◌, ◌∙◌, true, sym, ap, arith}
use Rattle.std.specs.Ordering.{nat_cmp, is_lt}
use Rattle.std.specs.Cmp.Lexicographic.{slice_cmp}
use Rattle.cq_projects.specs.Projects.{path_in}
use Rattle.cq_projects.proofs.Narrowing.{below_last, behind_is_lt}
use Rattle.cq_projects.proofs.files.is_behind.Goals as goal

pub returns-else-place-eq0 : goal.returns-else-place-eq0
returns-else-place-eq0 g c = λ lt.
    let some : 0 < c.args.place = omega (arith, c.if-place-eq0.false) in
    let behind : is_lt (slice_cmp nat_cmp (path_in c.index-files-place.result) c.args.path.now) ≡ true = ap is_lt (sym c.compare.ensures) ∙ sym c.is_lt.ensures ∙ lt in
    below_last path_in c.args.path.now c.args.files.now c.args.place c.index-files-place.result c.requires.rising some c.requires.within (behind_is_lt path_in c.args.path.now c.index-files-place.result _ c.index-files-place.is behind)

use Rattle.std.proofs.Common.{◌≡◌, List, map, filter, sym, ap, ◌∙◌, subst}
use Rattle.std.specs.Prelude.{◌==◌}
use Rattle.cq_base.specs.declared.measures.FileCounts.{FileCounts}
use Rattle.cq_base.specs.declared.token.Token.{Token}
use Rattle.cq_measures.specs.Counts.{IsTallyOf}
use Rattle.cq_measures.specs.Measures.{extents_of, measures_of}
use Rattle.cq_measures.specs.Parted.{AreRunsInside, extent_of_run, runs_in}
use Rattle.cq_measures.proofs.Runs.{runs_are_extents}
use Rattle.cq_measures.proofs.measuring.file_measures.Goals as goal

pub file_tally-requires-clause-inside : goal.file_tally-requires-clause-inside
file_tally-requires-clause-inside c = subst (AreRunsInside c.args.lines.now.spans.now) (sym (c.deref.ensures.value ∙ c.in_ok-runs.ensures)) c.requires.inside

pub returns : goal.returns
returns c = λ counts spans at.
    let file = c.args.file in
    let groups = c.args.groups.now in
    let runs = c.deref.ensures.value ∙ c.in_ok-runs.ensures in
    let es = filter (λ e. e.file == file) (extents_of spans groups) in
    let is : map (extent_of_run c.args.lines.now.spans.now file) c.deref.result.now ≡ es =
    ap (map (extent_of_run c.args.lines.now.spans.now file)) runs ∙ ap (λ (here : List Token). map (extent_of_run here file) (runs_in file groups)) (sym at.1) ∙ runs_are_extents spans file groups in
    c.measures_of.ensures es (subst (λ xs. IsTallyOf xs c.in_ok-tally.tally) is c.in_ok-tally.ensures.tally) ∙ ap (λ (cs : FileCounts). measures_of 1 cs es) (sym at.0)

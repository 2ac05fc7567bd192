use Rattle.std.proofs.Common.{◌≡◌, ◌∙◌, [], get_or, sym, subst, arith}
use Rattle.std.proofs.lemmas.Result.{IfOk-weaker}
use Rattle.cq_measures.specs.Measures.{no_counts}
use Rattle.cq_measures.specs.Parted.{AreRunsInside, runs_in}
use Rattle.cq_measures.proofs.Runs.{runs_inside}
use Rattle.cq_answer.specs.Works.{works_in, spans_in, counts_in}
use Rattle.cq_answer.proofs.Rows.{told_at, told_many}
use Rattle.cq_answer.proofs.measuring.measures_at.Goals as goal

pub file_measures-requires-clause-few : goal.file_measures-requires-clause-few
file_measures-requires-clause-few g c =
    let many = told_many (λ f. f.body.counts) c.args.files.now in
    let few = c.requires.measurable.few in
    omega (arith, c.requires.within, many, few)

pub file_measures-requires-clause-inside : goal.file_measures-requires-clause-inside
file_measures-requires-clause-inside g c =
    let files = c.args.files.now in
    let i = c.args.file in
    let here : get_or (spans_in (works_in files)) i [] ≡ c.lines_in.result.spans.now = told_at (λ f. f.body.spans.items) files i c.index-files-file.result [] c.requires.within c.index-files-file.is ∙ sym c.lines_in.ensures.spans in
    subst (λ spans. AreRunsInside spans (runs_in i c.args.groups.now)) here (runs_inside (spans_in (works_in files)) i c.args.groups.now c.requires.measurable.inside)

pub returns : goal.returns
returns g c =
    let files = c.args.files.now in
    let i = c.args.file in
    let spans : get_or (spans_in (works_in files)) i [] ≡ c.lines_in.result.spans.now = told_at (λ f. f.body.spans.items) files i c.index-files-file.result [] c.requires.within c.index-files-file.is ∙ sym c.lines_in.ensures.spans in
    let counts : get_or (counts_in (works_in files)) i no_counts ≡ c.lines_in.result.counts = told_at (λ f. f.body.counts) files i c.index-files-file.result no_counts c.requires.within c.index-files-file.is ∙ sym c.lines_in.ensures.counts in
    IfOk-weaker c.file_measures.result _ _ (λ m is. is (counts_in (works_in files)) (spans_in (works_in files)) (counts, spans)) c.file_measures.ensures

use Rattle.std.proofs.Common.{◌≡◌, ℕ, ◌<◌, length, map, filter, sym, ap, ap₂, ◌∙◌, subst, arith}
use Rattle.std.specs.Prelude.{◌==◌}
use Rattle.std.proofs.lemmas.List.{length-map}
use Rattle.cq_base.specs.declared.measures.FileCounts.{FileCounts}
use Rattle.cq_measures.specs.Counts.{IsTallyOf}
use Rattle.cq_measures.specs.Measures.{spans_of, extents_of, measures_of}
use Rattle.cq_measures.specs.Parted.{AreRunsInside, AreTallies, IsPartTally, extent_of_run, part_at, spans_at, runs_in, tally_at}
use Rattle.cq_measures.specs.Sorted.{AreBelow}
use Rattle.cq_measures.proofs.Placed.{extents_of_files}
use Rattle.cq_measures.proofs.Runs.{all_below_files, runs_inside, runs_are_extents}
use Rattle.cq_measures.proofs.measuring.project_measures.Goals as goal

pub parted-requires : goal.parted-requires
parted-requires g c = all_below_files (length c.args.files.now) (spans_of c.args.files.now) c.args.groups.now (length-map c.args.files.now (λ f. f.spans.now)) c.requires.inside

pub tallies_of-requires-clause-inside : goal.tallies_of-requires-clause-inside
tallies_of-requires-clause-inside g c κs within = λ i lt.
    let is = ap (λ ps. part_at ps i) c.deref.ensures.value ∙ c.in_ok-parts.ensures.each i lt in
    subst (AreRunsInside (spans_at c.args.files.now i)) (sym is) (runs_inside (spans_of c.args.files.now) i c.args.groups.now c.requires.inside)

pub returns : goal.returns
returns g c =
    let files = c.args.files.now in
    let groups = c.args.groups.now in
    let n = length files in
    let es = extents_of (spans_of files) groups in
    let each : (i : ℕ) → i < n → IsPartTally files c.deref.result.now i (tally_at c.in_ok-tallies.tallies.items i) = c.in_ok-tallies.ensures.each in
    let number : length c.deref-2.result.now ≡ n = ap length c.deref-2.ensures.value ∙ c.in_ok-tallies.ensures.number in
    let are : AreTallies es c.deref-2.result.now = λ i lt.
    let inside : i < n = omega (arith, lt, number) in
    let parts : part_at c.deref.result.now i ≡ runs_in i groups = ap (λ ps. part_at ps i) c.deref.ensures.value ∙ c.in_ok-parts.ensures.each i inside in
    let here : map (extent_of_run (spans_at files i) i) (part_at c.deref.result.now i) ≡ filter (λ e. e.file == i) es = ap (map (extent_of_run (spans_at files i) i)) parts ∙ runs_are_extents (spans_of files) i groups in
    subst (λ ts. IsTallyOf (filter (λ e. e.file == i) es) (tally_at ts i)) (sym c.deref-2.ensures.value) (subst (λ xs. IsTallyOf xs (tally_at c.in_ok-tallies.tallies.items i)) here (each i inside).tally) in
    let below : AreBelow (length c.deref-2.result.now) es = subst (λ k. AreBelow k es) (sym number) (extents_of_files n files groups (omega arith) c.requires.inside) in
    let tally = c.in_ok-tally.ensures.sums es below are in
    let as_many = length-map files (λ f. f.counts) in
    c.measures_of.ensures es tally ∙ ap₂ (λ (k : ℕ) (counts : FileCounts). measures_of k counts es) (sym as_many) c.total.ensures

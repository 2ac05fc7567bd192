use Rattle.std.proofs.Common.{rules, ◌≡◌, ◌≤◌, map, sym, subst}
use Rattle.cq_measures.specs.Parted.{extent_of_run}
use Rattle.cq_measures.specs.Sorted.{AreIn}
use Rattle.cq_measures.proofs.Runs.{runs_alone, runs_below, alone_touched}
use Rattle.cq_measures.proofs.tallying.file_tally.Goals as goal

pub count_up-requires : goal.count_up-requires
count_up-requires c =
    let is : c.in_ok-extents_of_runs.field-0.items ≡ map (extent_of_run c.args.spans.now c.args.file) c.args.runs.now = search rules in
    rw is (runs_below 262144 c.args.spans.now c.args.file c.args.runs.now c.requires.few)

pub returns-clause-small : goal.returns-clause-small
returns-clause-small c =
    let is : c.in_ok-extents_of_runs.field-0.items ≡ map (extent_of_run c.args.spans.now c.args.file) c.args.runs.now = search rules in
    let alone : AreIn c.args.file c.in_ok-extents_of_runs.field-0.items = rw is (runs_alone c.args.spans.now c.args.file c.args.runs.now) in
    (c.count_up.ensures.alone c.args.file alone, subst (λ n. n ≤ 1) (sym c.count_up.ensures.files) (alone_touched c.args.file c.in_ok-extents_of_runs.field-0.items alone))

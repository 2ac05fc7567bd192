use Rattle.std.proofs.Common.{◌∙◌, ap, rules, []}
use Rattle.std.proofs.lemmas.List.Sums.{sum_by_more}
use Rattle.std.proofs.lemmas.List.{take_all}
use Rattle.cq_measures.proofs.Totals.{total_of, total_of-is, small_at}
use Rattle.cq_measures.proofs.measuring.total.Goals as goal

pub overflow_add-all : goal.overflow_add-all
overflow_add-all c =
    let small = small_at c.args.files.now c.loop-file.file-index (record { counts = record { lines = 0; ncloc = 0; complexity = 0 }; spans = record { ref_ptr = (0, 0); now = [] } }) c.loop-file-test.true c.requires.small in
    search (rules, small)

pub overflow_add-all-in-loop-file : goal.overflow_add-all-in-loop-file
overflow_add-all-in-loop-file c =
    let small = small_at c.args.files.now c.loop-file.file-index (record { counts = record { lines = 0; ncloc = 0; complexity = 0 }; spans = record { ref_ptr = (0, 0); now = [] } }) c.loop-file-test.true c.requires.small in
    search (rules, small)

pub overflow_add-all-in-loop-file-2 : goal.overflow_add-all-in-loop-file-2
overflow_add-all-in-loop-file-2 c =
    let small = small_at c.args.files.now c.loop-file.file-index (record { counts = record { lines = 0; ncloc = 0; complexity = 0 }; spans = record { ref_ptr = (0, 0); now = [] } }) c.loop-file-test.true c.requires.small in
    search (rules, small)

pub loop-file-preserved : goal.loop-file-preserved
loop-file-preserved c =
    let small = small_at c.args.files.now c.loop-file.file-index (record { counts = record { lines = 0; ncloc = 0; complexity = 0 }; spans = record { ref_ptr = (0, 0); now = [] } }) c.loop-file-test.true c.requires.small in
    search (rules, small, sum_by_more)

pub returns : goal.returns
returns c =
    let files = c.args.files.now in
    let whole = take_all c.loop-file.file-index files (search rules) in
    c.loop-file.invariant.0 ∙ ap total_of whole ∙ total_of-is files

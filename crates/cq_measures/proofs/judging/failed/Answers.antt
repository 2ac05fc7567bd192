use Rattle.std.proofs.Common.{◌≡◌, true, false, length, rules}
use Rattle.std.proofs.lemmas.Option.{slice_get-get_or}
use Rattle.cq_measures.specs.Verdict.{is_met_at, failed}
use Rattle.cq_measures.proofs.Gathered.{gathered_with, gathered_without}
use Rattle.cq_measures.proofs.judging.failed.Goals.{then-met+in_ok-push, else-met}
use Rattle.cq_measures.proofs.judging.failed.Goals as goal

pub loop-i-preserved : goal.loop-i-preserved
loop-i-preserved c =
    let measures = c.args.measures.now in
    let conditions = c.args.conditions.now in
    let gathered = c.loop-i.failed.items in
    elim c.if-met.branch [
      | then-met+in_ok-push w ↦
          let met : is_met_at measures conditions c.loop-i.i ≡ true = search (rules, slice_get-get_or) in
          let more = gathered_with (is_met_at measures conditions) gathered (failed measures conditions) c.loop-i.i (length conditions) (search rules) met c.loop-i.invariant in
          search (rules, more)
      | else-met w ↦
          let unmet : is_met_at measures conditions c.loop-i.i ≡ false = search (rules, slice_get-get_or) in
          let same = gathered_without (is_met_at measures conditions) gathered (failed measures conditions) c.loop-i.i (length conditions) (search rules) unmet c.loop-i.invariant in
          search (rules, same)
    ]

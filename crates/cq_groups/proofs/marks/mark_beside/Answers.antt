use Rattle.std.specs.Prelude.{option_map}
use Rattle.std.proofs.lemmas.Result.{IfOk-weaker}
use Rattle.cq_tokens.specs.Packed.{norm_in}
use Rattle.cq_groups.specs.Steps.{MarksToken, MarksBeside}
use Rattle.cq_groups.proofs.Marking.{marked_as_other}
use Rattle.cq_groups.proofs.marks.mark_beside.Goals as goal

pub returns-then-are_same : goal.returns-then-are_same
returns-then-are_same c = λ seen are is. marked_as_other seen _ _ _ c.args.mark (c.are_same.ensures.0 c.if-are_same.true) are is

pub returns : goal.returns
returns c =
    let old = c.args.marks.now in
    let new = c.mark_of.new.marks in
    let token = option_map norm_in c.args.token in
    IfOk-weaker c.mark_of.result (MarksToken old new token) (MarksBeside old new (option_map norm_in c.args.other) c.args.mark token)
    (λ mark marks seen are is. marks seen are)
    c.mark_of.ensures

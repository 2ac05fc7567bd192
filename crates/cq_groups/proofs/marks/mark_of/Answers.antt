use Rattle.std.proofs.Common.{◌+◌, ap, ◌∙◌, subst, rules}
use Rattle.std.specs.Option.{option_map, unwrap_or}
use Rattle.std.specs.BTreeMap.Entry.{entry_value, map_with_value}
use Rattle.cq_tokens.specs.Packed.{norm_in}
use Rattle.cq_groups.specs.Sets.{IsMarked}
use Rattle.cq_groups.proofs.Marking.{marked_by_entry}
use Rattle.cq_groups.proofs.marks.mark_of.Goals as goal

pub returns : goal.returns
returns c = λ seen are.
    let s = c.in-Some.seen in
    let mark = c.or_insert-mark.result.now in
    subst (λ m. IsMarked seen m (option_map norm_in c.args.token) mark) (search rules)
    (marked_by_entry c.equal_tokens_tie.ensures c.args.marks.now (map_with_value c.in_ok-marks.field-0 mark) s mark (entry_value c.in_ok-marks.field-0) c.in_ok-marks.ensures.value
    (c.or_insert-mark.ensures.value ∙ ap (unwrap_or (entry_value c.in_ok-marks.field-0)) (ap (λ n. n + 1) c.len-next.ensures.len))
    (c.in_ok-marks.ensures.update.0 mark) (c.in_ok-marks.ensures.len mark) (option_map norm_in c.args.token) (ap (option_map norm_in) c.in-Some.is) seen are)

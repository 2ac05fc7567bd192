use Rattle.cq_answer.proofs.laws.reply_by_changes_is_on_its_files.Goals as goal

pub returns : goal.returns
returns c = λ set changes version q reply. (
  λ is. (is.readings, is.are_read, record { groups = is.groups; are_groups = is.are_groups; reply_is = is.reply_is }),
  λ (readings, are_read, by). record { readings = readings; are_read = are_read; groups = by.groups; are_groups = by.are_groups; reply_is = by.reply_is },
)

use Rattle.cq_tokform.specs.Spelling.{condition}
use Rattle.cq_tokform.specs.Sound.{IsSoundCondition}
use Rattle.cq_tokform.specs.Reading.{condition_at}
use Rattle.cq_tokform.proofs.Fields.{one_form}
use Rattle.cq_tokform.proofs.Records.{conditions}
use Rattle.cq_tokform.proofs.laws.conditions_have_one_form.Goals as goal

pub returns : goal.returns
returns c = one_form condition IsSoundCondition condition_at conditions

use Rattle.cq_tokform.specs.Spelling.{whole}
use Rattle.cq_tokform.specs.Sound.{IsSoundWhole}
use Rattle.cq_tokform.specs.Reading.{whole_at}
use Rattle.cq_tokform.proofs.Fields.{one_form}
use Rattle.cq_tokform.proofs.Wholes.{wholes}
use Rattle.cq_tokform.proofs.laws.wholes_have_one_form.Goals as goal

pub returns : goal.returns
returns c = λ settings. one_form (whole settings) (IsSoundWhole settings) (whole_at settings) (wholes settings)

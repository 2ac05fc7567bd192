use Rattle.cq_tokform.specs.Spelling.{head}
use Rattle.cq_tokform.specs.Sound.{IsSoundHead}
use Rattle.cq_tokform.specs.Reading.{head_at}
use Rattle.cq_tokform.proofs.Fields.{one_form}
use Rattle.cq_tokform.proofs.Heads.{heads}
use Rattle.cq_tokform.proofs.laws.heads_have_one_form.Goals as goal

pub returns : goal.returns
returns c = λ settings. one_form (head settings) (IsSoundHead settings) (head_at settings) (heads settings)

use Rattle.cq_tokform.specs.Spelling.{file}
use Rattle.cq_tokform.specs.Sound.{IsSoundFile}
use Rattle.cq_tokform.specs.Reading.{file_at}
use Rattle.cq_tokform.proofs.Fields.{one_form}
use Rattle.cq_tokform.proofs.FileForms.{files}
use Rattle.cq_tokform.proofs.laws.files_have_one_form.Goals as goal

pub returns : goal.returns
returns c = λ settings version short. one_form file (IsSoundFile settings version) (file_at settings version) (files settings version short)

use Rattle.cq_tokform.specs.Spelling.{framed}
use Rattle.cq_tokform.specs.Sound.{IsSoundBody}
use Rattle.cq_tokform.specs.Reading.{frame_at}
use Rattle.cq_tokform.proofs.Fields.{one_form}
use Rattle.cq_tokform.proofs.Framed.{frames}
use Rattle.cq_tokform.proofs.laws.frames_have_one_form.Goals as goal

pub returns : goal.returns
returns c = one_form framed IsSoundBody frame_at frames

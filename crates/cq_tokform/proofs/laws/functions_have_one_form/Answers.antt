use Rattle.cq_tokform.specs.Spelling.{counted, function}
use Rattle.cq_tokform.specs.Sound.{AreCounted, IsSoundFunction}
use Rattle.cq_tokform.specs.Reading.{counted_at, function_at}
use Rattle.cq_tokform.proofs.Fields.{one_form}
use Rattle.cq_tokform.proofs.Records.{functions}
use Rattle.cq_tokform.proofs.Counted.{lists}
use Rattle.cq_tokform.proofs.laws.functions_have_one_form.Goals as goal

pub returns : goal.returns
returns c = λ lines. one_form (counted function) (AreCounted (IsSoundFunction lines)) (counted_at (function_at lines)) (lists function (IsSoundFunction lines) (function_at lines) (functions lines))

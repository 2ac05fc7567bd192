use Rattle.cq_tokform.specs.Spelling.{counted, token}
use Rattle.cq_tokform.specs.Sound.{AreCounted, IsSoundToken}
use Rattle.cq_tokform.specs.Reading.{counted_at, token_at}
use Rattle.cq_tokform.proofs.Fields.{one_form}
use Rattle.cq_tokform.proofs.Records.{tokens}
use Rattle.cq_tokform.proofs.Counted.{lists}
use Rattle.cq_tokform.proofs.laws.tokens_have_one_form.Goals as goal

pub returns : goal.returns
returns c = λ settings lines. one_form (counted token) (AreCounted (IsSoundToken settings lines)) (counted_at (token_at settings lines)) (lists token (IsSoundToken settings lines) (token_at settings lines) (tokens settings lines))

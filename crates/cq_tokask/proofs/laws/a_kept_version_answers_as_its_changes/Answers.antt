use Rattle.cq_tokask.proofs.Exported.{answers_as}
use Rattle.cq_tokask.proofs.laws.a_kept_version_answers_as_its_changes.Goals as goal

pub returns : goal.returns
returns g c = answers_as g.row.L.Denot

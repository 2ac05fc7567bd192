use Rattle.std.proofs.lemmas.Result.{IfOk-weaker}
use Rattle.cq_export.proofs.publishing.last_version.Goals as goal
use Rattle.cq_history.specs.State.{changes_in}

pub returns-clause-of_changes : goal.returns-clause-of_changes
returns-clause-of_changes g c = IfOk-weaker c.shown.result _ _ (λ s shows. shows c.args.settings.now (changes_in c.args.board.now.state) c.in_ok-view.ensures) c.shown.ensures.shows

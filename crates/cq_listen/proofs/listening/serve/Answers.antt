use Rattle.std.proofs.Common.{◌∙◌}
use Rattle.std.proofs.lemmas.Result.{IfOk-weaker}
use Rattle.cq_listen.proofs.listening.serve.Goals as goal

pub returns-clause-made : goal.returns-clause-made
returns-clause-made g c =
    IfOk-weaker c.serve_over.result _ _ (λ served made. record {
      settings_are = made.settings_are;
      workers_are = made.workers_are ∙ c.in_ok-workers.ensures.number;
      sessions_are = made.sessions_are ∙ c.in_ok-sessions.ensures.number;
    }) c.serve_over.ensures.made

use Rattle.std.proofs.Common.{◌∙◌, sym}
use Rattle.cq_listen.proofs.listening.serve_over.Goals as goal

pub serve_doors-requires-clause-workers : goal.serve_doors-requires-clause-workers
serve_doors-requires-clause-workers g c κs within = λ k d below. c.in_ok-benches.ensures.settings k d below ∙ sym c.plain-keyer.ensures

pub serve_doors-requires-clause-attendants : goal.serve_doors-requires-clause-attendants
serve_doors-requires-clause-attendants g c κs within = λ k d below. c.in_ok-seats.ensures.settings k d below ∙ sym c.plain-keyer.ensures

pub returns-clause-made : goal.returns-clause-made
returns-clause-made g c =
    let made = c.serve_doors.ensures.made in
    record {
      settings_are = made.settings_are ∙ c.plain-keyer.ensures;
      workers_are = made.workers_are ∙ c.in_ok-benches.ensures.number;
      sessions_are = made.sessions_are ∙ c.in_ok-seats.ensures.number;
    }

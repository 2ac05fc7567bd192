use Rattle.std.proofs.Common.{◌∙◌, subst, subst₂, sym}
use Rattle.cq_listen.specs.Endings.{HasEnded}
use Rattle.cq_program.specs.Statuses.{HasListened}
use Rattle.cq_program.specs.declared.status.Status.{Status}
use Rattle.cq_program.proofs.Ended.{listened}
use Rattle.cq_program.proofs.clients.listen.Goals as goal

pub returns-in-Ok-serve_clients-clause-listens : goal.returns-in-Ok-serve_clients-clause-listens
returns-in-Ok-serve_clients-clause-listens g c =
    let address = c.args.asked.address in
    let was = c.args.doors.now in
    let now = c.serve_clients.new.doors in
    let served = c.in-Ok-serve_clients.served in
    let bound = c.serve_clients.ensures.bound ∙ c.in-Ok.ensures.bound in
    let ended = subst₂ (λ faults left. HasEnded faults (g.D.Doors.faults now) left (g.D.Doors.left now) served.failed) c.in-Ok.ensures.cause.kept c.bind.ensures.left c.in-Ok-serve_clients.ensures.ended in
    subst (λ (s : Status). HasListened address (g.D.Doors.bound now) (g.D.Doors.left was) (g.D.Doors.left now) (g.D.Doors.faults was) (g.D.Doors.faults now) s) (sym c.status_of_served.ensures)
    (listened address (g.D.Doors.bound now) (g.D.Doors.left was) (g.D.Doors.left now) (g.D.Doors.faults was) (g.D.Doors.faults now) served.failed bound ended)

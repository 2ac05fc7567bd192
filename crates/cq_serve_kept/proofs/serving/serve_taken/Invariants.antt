use Rattle.cq_history.specs.State.{accepted}
use Rattle.cq_shared.specs.SharedPasses.{cells_of}
use Rattle.cq_serve_kept.proofs.serving.serve_taken.Given as goal

abbrev pub ghosts-serve_logging : goal.ghosts-serve_logging
ghosts-serve_logging g a = record {
  cells = cells_of a.hub.now;
  name = a.log.sink.ghost_name;
  begun = g.K.Sink.written a.log.sink.now;
  before = accepted a.pass.seen;
  faults = g.K.Sink.faults a.log.sink.now;
}

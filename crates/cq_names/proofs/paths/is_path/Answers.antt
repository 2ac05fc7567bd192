use Rattle.cq_names.proofs.Spelled.{path_spelled, path_broken}
use Rattle.cq_names.proofs.paths.is_path.Goals as goal

pub returns-in-Ok : goal.returns-in-Ok
returns-in-Ok c = path_spelled c.args.bytes.now c.in-Ok.text.now _ c.in-Ok.ensures.cases c.is_path_text.ensures

pub returns-in-Err : goal.returns-in-Err
returns-in-Err c = path_broken c.args.bytes.now c.in-Err.ensures.cases.0

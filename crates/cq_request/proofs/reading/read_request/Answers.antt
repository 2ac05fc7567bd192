use Rattle.std.proofs.Common.{sym, ap, subst, ◌∙◌}
use Rattle.cq_request.specs.Reading.{UnlessMemory, value_says, of_spelled}
use Rattle.cq_request.proofs.Gists.{gist_says}
use Rattle.cq_request.proofs.Spelling.{no_object, unnamed}
use Rattle.cq_request.proofs.reading.read_request.Goals as goal

pub returns-in-Ok-clause-says : goal.returns-in-Ok-clause-says
returns-in-Ok-clause-says c =
    let chunk = c.args.settings.now.chunk in
    let (ms, gs, spells, seen, is) = c.in-Ok.ensures.gist in
    let says = ap (of_spelled (value_says chunk)) spells ∙ sym (gist_says chunk ms gs is) ∙ ap (value_says chunk) (sym seen) in
    subst (UnlessMemory c.read_value.result) (sym says) c.read_value.ensures.says

pub returns-in-Err-clause-says : goal.returns-in-Err-clause-says
returns-in-Err-clause-says c = no_object c.args.settings.now.chunk c.args.line.now c.in-Err.error c.in-Err.ensures.refused

pub returns-in-Err-clause-named : goal.returns-in-Err-clause-named
returns-in-Err-clause-named c = unnamed _ c.in-Err.error c.in-Err.ensures.refused

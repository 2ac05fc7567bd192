use Rattle.std.proofs.Common.{◌≡◌, None, subst}
use Rattle.serde_json.specs.View.{view}
use Rattle.cq_request.specs.declared.row.Op.{Op}
use Rattle.cq_request.specs.Reading.{why_refused}
use Rattle.cq_request.proofs.Passing.{few_conditions, text_passed}
use Rattle.cq_request.proofs.reading.request_of.Goals as goal

pub put_of-requires : goal.put_of-requires
put_of-requires c = record { passes = text_passed c.args.settings.now.chunk c.args.op (view c.args.value) c.requires.accepted }

pub gate_of-requires : goal.gate_of-requires
gate_of-requires c = record { few = few_conditions c.args.settings.now.chunk (view c.args.value) (subst (λ (o : Op). why_refused c.args.settings.now.chunk o (view c.args.value) ≡ None) c.in-Gate.is c.requires.accepted) }

use Rattle.std.proofs.Common.{length, ap, ◌∙◌, arith}
use Rattle.std.specs.Prelude.{remove}
use Rattle.std.proofs.lemmas.List.{length_push}
use Rattle.std.proofs.lemmas.Result.{on_ok_weaker}
use Rattle.cq_order.proofs.SpotEdits.{index_in, replaced, replaced_none}
use Rattle.cq_order.proofs.spots.Spots.replace.Goals as goal

pub take_out-requires : goal.take_out-requires
take_out-requires c =
    let inside = index_in c.args.self.now c.args.gone c.in-Some.i c.in-Some.ensures in
    let size = ap length c.in_ok-push-in-Some.ensures.pushed ∙ length_push c.args.self.now c.args.spot in
    omega (arith, inside, size)

pub returns-in_ok-push-in-Some-clause-replaced : goal.returns-in_ok-push-in-Some-clause-replaced
returns-in_ok-push-in-Some-clause-replaced c =
    replaced c.args.gone c.args.spot c.args.self.now c.take_out.new.self c.in-Some.i c.requires.rising c.in-Some.ensures
    (c.take_out.ensures ∙ ap (λ ss. remove ss c.in-Some.i) c.in_ok-push-in-Some.ensures.pushed)

pub returns-in-None-clause-replaced : goal.returns-in-None-clause-replaced
returns-in-None-clause-replaced c =
    on_ok_weaker c.push-in-None.result (λ pushed. replaced_none c.args.gone c.args.spot c.args.self.now c.push-in-None.new.self c.in-None.ensures) c.push-in-None.ensures.pushed

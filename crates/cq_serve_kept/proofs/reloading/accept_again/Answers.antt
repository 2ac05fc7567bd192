use Rattle.std.proofs.Common.{◌∙◌, Ok, ap, subst}
use Rattle.std.proofs.lemmas.Result.{IfOk-weaker}
use Rattle.cq_base.specs.declared.change.Change.{Change}
use Rattle.cq_request.specs.Reading.{line_says}
use Rattle.cq_serve_kept.specs.Reloads.{TakesAfter}
use Rattle.cq_serve_kept.proofs.Lowering.{no_query, no_state, same_change}
use Rattle.cq_serve_kept.proofs.Refusing.{on_ok}
use Rattle.cq_serve_kept.proofs.reloading.accept_again.Goals as goal

pub returns-in-Ok-Change-clause-takes : goal.returns-in-Ok-Change-clause-takes
returns-in-Ok-Change-clause-takes g c =
    let hub = c.args.hub.now in
    let said = line_says c.args.settings.now.chunk c.args.line.now in
    IfOk-weaker c.accept_low.result _ _
    (λ result takes wanted says set changes is.
    let same = same_change said c.in-Ok-Change.change wanted (c.in-Ok-Change.ensures.says ∙ ap Ok c.in-Ok-Change.field-0-is) says in
    let (still, low) = c.in_ok-ease.ensures.low set changes is in
    subst (λ (x : Change). TakesAfter hub c.accept_low.new.pass set changes x result) same (takes set changes still low))
    c.accept_low.ensures.takes

pub returns-in-Ok-Change-clause-ready : goal.returns-in-Ok-Change-clause-ready
returns-in-Ok-Change-clause-ready g c = on_ok c.accept_low.result _ _ (λ of. record { in_range = c.requires.ready.in_range; settings = c.requires.ready.settings; of = of }) c.accept_low.ensures.of

pub accept_low-requires-clause-of : goal.accept_low-requires-clause-of
accept_low-requires-clause-of g c = c.in_ok-ease.ensures.ready.of

pub unreachable-requires : goal.unreachable-requires
unreachable-requires g c = no_query (line_says c.args.settings.now.chunk c.args.line.now) _ c.requires.says.0 (c.in-Ok-Query.ensures.says ∙ ap Ok c.in-Ok-Query.field-0-is) c.requires.says.1

pub unreachable-requires-in-Ok-State : goal.unreachable-requires-in-Ok-State
unreachable-requires-in-Ok-State g c = no_state (line_says c.args.settings.now.chunk c.args.line.now) c.requires.says.0 (c.in-Ok-State.ensures.says ∙ ap Ok c.in-Ok-State.field-0-is) c.requires.says.1

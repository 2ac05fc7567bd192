use Rattle.std.proofs.Common.{◌≡◌, ◌∙◌, Ok, Err, Result, sym, ap, subst}
use Rattle.cq_export.specs.Lines.{IsNoChange}
use Rattle.cq_export.proofs.saying.change_said.Goals as goal
use Rattle.cq_base.specs.declared.refusal.Refusal.{Refusal}
use Rattle.cq_request.specs.declared.request.ReadError.{ReadError}
use Rattle.cq_request.specs.declared.request.ReadError.TheVariants as error
use Rattle.cq_request.specs.declared.request.Request.{Request}
use Rattle.cq_request.specs.Reading.{line_says, UnlessMemory}

pub returns-in-Ok-Change-clause-says : goal.returns-in-Ok-Change-clause-says
returns-in-Ok-Change-clause-says c = c.in-Ok-Change.ensures.says ∙ ap Ok c.in-Ok-Change.field-0-is

pub returns-in-Ok-Query-clause-says : goal.returns-in-Ok-Query-clause-says
returns-in-Ok-Query-clause-says c = subst (λ (says : Result Request Refusal). IsNoChange says) (sym (c.in-Ok-Query.ensures.says ∙ ap Ok c.in-Ok-Query.field-0-is)) tt

pub returns-in-Ok-State-clause-says : goal.returns-in-Ok-State-clause-says
returns-in-Ok-State-clause-says c = subst (λ (says : Result Request Refusal). IsNoChange says) (sym (c.in-Ok-State.ensures.says ∙ ap Ok c.in-Ok-State.field-0-is)) tt

none_said : (e : ReadError) (why : Refusal) (says : Result Request Refusal) → e ≡ error.Refused why → UnlessMemory (Err e) says → IsNoChange says
none_said e why says is unless =
    let said : says ≡ Err why = subst (λ (x : ReadError). UnlessMemory (Err x) says) is unless in
    subst (λ (x : Result Request Refusal). IsNoChange x) (sym said) tt

pub returns-in-Err-Refused-clause-says : goal.returns-in-Err-Refused-clause-says
returns-in-Err-Refused-clause-says c = none_said _ _ (line_says c.args.settings.now.chunk c.args.line.now) c.in-Err-Refused.field-0-is c.in-Err-Refused.ensures.says

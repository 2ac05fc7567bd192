use Rattle.std.proofs.Common.{◌≡◌, Err, Result, subst, sym}
use Rattle.cq_base.specs.declared.refusal.Refusal.{Refusal}
use Rattle.cq_log.specs.Takers.{IsLogLine}
use Rattle.cq_log.proofs.reading.log_line.Goals as goal
use Rattle.cq_request.specs.Reading.{UnlessMemory, line_says}
use Rattle.cq_request.specs.declared.request.ReadError.{ReadError}
use Rattle.cq_request.specs.declared.request.Request.{Request}

pub returns-in-Err-Refused-clause-is : goal.returns-in-Err-Refused-clause-is
returns-in-Err-Refused-clause-is c =
    let said = line_says c.args.settings.now.chunk c.args.line.now in
    let says : said ≡ Err c.in-Err-Refused.why = subst (λ (e : ReadError). UnlessMemory (Err e) said) c.in-Err-Refused.field-0-is c.in-Err-Refused.ensures.says in
    subst (λ (s : Result Request Refusal). IsLogLine s c.refused_line.result) (sym says) c.refused_line.ensures.is

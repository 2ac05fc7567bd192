use Rattle.std.proofs.Common.{rules, ◌≡◌, ◌<◌, ◌∷◌, ap, ◌∙◌, arith}
use Rattle.std.proofs.lemmas.Result.{IfOk-weaker}
use Rattle.json.specs.Token.{Token}
use Rattle.json.specs.Reads.{token_of}
use Rattle.cq_request.specs.declared.form.Form.TheVariants as form
use Rattle.cq_request.proofs.Forms.{unfit_end}
use Rattle.cq_request.proofs.Objects.{first_taken, list_is_member, list_is_unfit, refused_at_end, refused_for}
use Rattle.cq_request.proofs.gist.member_read.Goals as goal

pub returns-in_err-first-clause-refused : goal.returns-in_err-first-clause-refused
returns-in_err-first-clause-refused c =
    refused_at_end _ c.next.result c.args.reader.now c.next.new.self c.in_err-first.field-0.0 c.from_residual.result c.next.ensures.value c.in_err-first.ensures.value c.from_residual.ensures.1 (unfit_end 126 c.args.reader.now)

pub returns-then-matches-clause-read : goal.returns-then-matches-clause-read
returns-then-matches-clause-read c =
    let conditions : c.args.form ≡ form.Conditions = search rules in
    let bracket : token_of c.in_ok-first.first ≡ Token.begin_array = search rules in
    let begins = first_taken c.next.result c.args.reader.now c.next.new.self _ c.in_ok-first.first c.next.ensures.value c.in_ok-first.ensures.value ∙ ap (λ (t : Token). t ∷ c.next.new.self) bracket in
    let some : 0 < 126 = omega arith in
    IfOk-weaker c.list_read.result _ _ (λ v read. list_is_member 126 c.args.form c.args.reader.now c.next.new.self c.list_read.new.reader _ c.args.has_passed.now c.list_read.new.has_passed conditions begins some read) c.list_read.ensures.read

pub returns-then-matches-clause-refused : goal.returns-then-matches-clause-refused
returns-then-matches-clause-refused c =
    let bracket : token_of c.in_ok-first.first ≡ Token.begin_array = search rules in
    let begins = first_taken c.next.result c.args.reader.now c.next.new.self _ c.in_ok-first.first c.next.ensures.value c.in_ok-first.ensures.value ∙ ap (λ (t : Token). t ∷ c.next.new.self) bracket in
    let some : 0 < 126 = omega arith in
    refused_for _ _ (list_is_unfit 126 c.args.reader.now c.next.new.self begins some) c.list_read.result c.list_read.ensures.refused

use Rattle.std.proofs.Common.{rules, ◌≡◌, ◌∷◌, ap, ◌∙◌}
use Rattle.std.proofs.lemmas.Result.{IfOk-weaker}
use Rattle.json.specs.Token.{Token}
use Rattle.json.specs.Reads.{token_of}
use Rattle.cq_request.proofs.Forms.{unfit_end}
use Rattle.cq_request.proofs.Objects.{condition_is_item, condition_is_unfit, first_taken, other_is_item, refused_at_end, refused_for}
use Rattle.cq_request.proofs.listing.item_read.Goals as goal

pub returns-in_err-first-clause-refused : goal.returns-in_err-first-clause-refused
returns-in_err-first-clause-refused c =
    refused_at_end _ c.next.result c.args.reader.now c.next.new.self c.in_err-first.field-0.0 c.from_residual.result c.next.ensures.value c.in_err-first.ensures.value c.from_residual.ensures.1 (unfit_end c.args.depth c.args.reader.now)

pub returns-then-matches-clause-read : goal.returns-then-matches-clause-read
returns-then-matches-clause-read c =
    let brace : token_of c.in_ok-first.first ≡ Token.begin_object = search rules in
    let begins = first_taken c.next.result c.args.reader.now c.next.new.self _ c.in_ok-first.first c.next.ensures.value c.in_ok-first.ensures.value ∙ ap (λ (t : Token). t ∷ c.next.new.self) brace in
    IfOk-weaker c.condition_read.result _ _ (λ v read. condition_is_item c.args.depth c.args.reader.now c.next.new.self c.condition_read.new.reader _ c.args.has_passed.now c.condition_read.new.has_passed begins c.requires read) c.condition_read.ensures.read

pub returns-then-matches-clause-refused : goal.returns-then-matches-clause-refused
returns-then-matches-clause-refused c =
    let brace : token_of c.in_ok-first.first ≡ Token.begin_object = search rules in
    let begins = first_taken c.next.result c.args.reader.now c.next.new.self _ c.in_ok-first.first c.next.ensures.value c.in_ok-first.ensures.value ∙ ap (λ (t : Token). t ∷ c.next.new.self) brace in
    refused_for _ _ (condition_is_unfit c.args.depth c.args.reader.now c.next.new.self begins c.requires) c.condition_read.result c.condition_read.ensures.refused

pub returns-clause-read : goal.returns-clause-read
returns-clause-read c =
    let other : token_of c.in_ok-first.first ≡ Token.begin_object → ⊥ = search rules in
    let begins = first_taken c.next.result c.args.reader.now c.next.new.self _ c.in_ok-first.first c.next.ensures.value c.in_ok-first.ensures.value in
    other_is_item c.args.depth c.args.reader.now c.next.new.self c.pass_rest.new.reader (token_of c.in_ok-first.first) c.args.has_passed.now begins other c.in_ok-pass_rest.ensures.passed

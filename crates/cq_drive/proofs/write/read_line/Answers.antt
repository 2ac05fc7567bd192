use Rattle.std.proofs.Common.{◌≡◌, false, [], ◌∷◌, ◌++◌, ap, ◌∙◌}
use Rattle.serde_json.specs.View.{view}
use Rattle.serde_json.specs.Written.{has_float, compact_text}
use Rattle.cq_drive.specs.Outcomes.{read_data}
use Rattle.cq_drive.proofs.Lines.{read_no_float}
use Rattle.cq_drive.proofs.write.read_line.Goals as goal

pub returns : goal.returns
returns c =
    let same : view c.in_ok-read_value.field-0 ≡ read_data c.args.entries.now = c.in_ok-read_value.ensures in
    let none : has_float (view c.in_ok-read_value.field-0) ≡ false = ap has_float same ∙ read_no_float c.args.entries.now in
    let text = c.in_ok-line.ensures.text none ∙ ap compact_text same in
    c.from_vec.ensures ∙ (c.in_ok-push.ensures.items ∙ ap (λ t. t ++ 10 ∷ []) text)

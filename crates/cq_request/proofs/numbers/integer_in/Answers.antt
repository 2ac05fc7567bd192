use Rattle.std.proofs.Common.{◌≡◌, ◌<◌, ◌^◌, List, ℕ, Some, IfSome, SomeIff, sym, subst, ◌∙◌}
use Rattle.fast_float.specs.Text.{IsInteger, Parts, digits_of}
use Rattle.serde_json.specs.Data.{unsigned}
use Rattle.serde_json.specs.Read.{number_of}
use Rattle.cq_request.proofs.Fitting.{integer_read}
use Rattle.cq_request.proofs.numbers.integer_in.Goals as goal

pub returns : goal.returns
returns c =
    let bytes = c.as_bytes-bytes.result.now in
    let exact = subst (λ (p : Parts). SomeIff c.to_u64.result (IsInteger p × (digits_of p < 2 ^ 64)) (digits_of p)) c.scan.ensures.parts c.to_u64.ensures in
    let there = integer_read bytes c.to_u64.result (sym c.is_negative.ensures.value ∙ c.if-is_negative.false) exact in
    subst (λ (text : List ℕ). IfSome c.to_u64.result (λ n. number_of text ≡ Some (unsigned n))) c.as_bytes-bytes.ensures.value there

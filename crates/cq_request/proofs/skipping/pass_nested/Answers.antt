use Rattle.std.proofs.Common.{rules, ◌≡◌, ℕ, ◌-◌, ◌<◌, Bool, true, false, None, refl, sym, subst, ◌∙◌, arith}
use Rattle.cq_request.specs.Valued.{nested, IsOver}
use Rattle.cq_request.proofs.Objects.{refused_by, refused_here}
use Rattle.cq_request.proofs.Walking.{nested_zero, nested_is, no_key_after, over_shorter, passed_over, passed_one, refused_one}
use Rattle.cq_request.proofs.skipping.pass_nested.Goals as goal

pub returns-then-depth-eq0-clause-refused : goal.returns-then-depth-eq0-clause-refused
returns-then-depth-eq0-clause-refused c =
    let none : c.args.depth ≡ 0 = omega (arith, c.if-depth-eq0.true) in
    (refl, subst (λ (d : ℕ). nested c.args.is_list d c.args.reader.now ≡ None) (sym none) (nested_zero c.args.is_list c.args.reader.now))

pub returns-in_err-is_over-clause-refused : goal.returns-in_err-is_over-clause-refused
returns-in_err-is_over-clause-refused c =
    let (n, enough, same, shorter) = c.rest.invariant in
    let some : 0 < c.args.depth = omega (arith, c.if-depth-eq0.false) in
    refused_by _ _ (no_key_after c.args.is_list c.args.depth n c.args.reader.now c.rest.reader some same) c.from_residual.result c.in_err-is_over.field-0.0 c.from_residual.ensures.1 c.in_err-is_over.ensures.refused

pub rest-preserved : goal.rest-preserved
rest-preserved c =
    let (n, enough, same, shorter) = c.rest.invariant in
    let going : c.in_ok-is_over.field-0 ≡ false = search rules in
    let over = subst (λ (is : Bool). IsOver c.args.is_list c.rest.reader is c.is_over.new.reader) going c.in_ok-is_over.ensures.over in
    let less = over_shorter c.args.is_list false c.rest.reader c.is_over.new.reader over in
    let step = c.in_ok-skip_value.ensures.shorter in
    let some : 0 < n = omega (arith, enough, less, step) in (
      n - 1,
      omega (arith, enough, less, step),
      same ∙ passed_one c.args.is_list (c.args.depth - 1) n c.rest.reader c.is_over.new.reader c.skip_value.new.self over c.in_ok-skip_value.ensures.value some,
      omega (arith, shorter, less, step),
    )

pub returns-in_err-skip_value-clause-refused : goal.returns-in_err-skip_value-clause-refused
returns-in_err-skip_value-clause-refused c =
    let (n, enough, same, shorter) = c.rest.invariant in
    let some : 0 < c.args.depth = omega (arith, c.if-depth-eq0.false) in
    let going : c.in_ok-is_over.field-0 ≡ false = search rules in
    let over = subst (λ (is : Bool). IsOver c.args.is_list c.rest.reader is c.is_over.new.reader) going c.in_ok-is_over.ensures.over in
    let none = nested_is c.args.is_list c.args.depth c.args.reader.now some ∙ same ∙ refused_one c.args.is_list (c.args.depth - 1) n c.rest.reader c.is_over.new.reader over c.in_err-skip_value.ensures.value in
    refused_here _ c.from_residual-in_err-skip_value.result c.from_residual-in_err-skip_value.ensures.1 none

pub returns-clause-passed : goal.returns-clause-passed
returns-clause-passed c =
    let (n, enough, same, shorter) = c.rest.invariant in
    let some : 0 < c.args.depth = omega (arith, c.if-depth-eq0.false) in
    let done : c.in_ok-is_over.field-0 ≡ true = search rules in
    let over = subst (λ (is : Bool). IsOver c.args.is_list c.rest.reader is c.is_over.new.reader) done c.in_ok-is_over.ensures.over in
    nested_is c.args.is_list c.args.depth c.args.reader.now some ∙ same ∙ passed_over c.args.is_list (c.args.depth - 1) n c.rest.reader c.is_over.new.reader over enough

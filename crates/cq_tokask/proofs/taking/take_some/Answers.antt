use Rattle.std.proofs.Common.{◌≡◌, ◌∙◌, ◌≤◌, ◌<◌, [], ◌++◌, List, ℕ, length, take, refl, ap, sym, subst, arith}
use Rattle.std.proofs.lemmas.List.{append-nil, length-take-le}
use Rattle.cq_tokask.proofs.Coming.{came_some, consumes_nothing, on_err}
use Rattle.cq_tokask.proofs.taking.take_some.Goals as goal

pub returns-in_ok-extend_from_slice-in-Ok-clause-bytes : goal.returns-in_ok-extend_from_slice-in-Ok-clause-bytes
returns-in_ok-extend_from_slice-in-Ok-clause-bytes g c =
    let n = c.in-Ok.count in
    let size = c.min-size.result in
    let read = c.read_at.new.piece.items in
    let few : n ≤ size = c.in-Ok.ensures.within in
    let small : size ≤ c.args.want = omega (arith, c.min-size.ensures) in
    let room : size ≤ length read = omega (arith, c.min-size.ensures) in
    let some : 0 < size = omega (arith, c.min-size.ensures) in
    let grown : c.extend_from_slice.new.self.items ≡ c.args.out.now.items ++ take n read = c.in_ok-extend_from_slice-in-Ok.ensures.items ∙ ap (λ (p : List ℕ). c.args.out.now.items ++ take n p) c.deref.ensures.value in (
      omega (arith, few, small),
      came_some _ _ _ _ read n size few room c.in-Ok.ensures.bytes.0 grown,
      (λ zero. c.in-Ok.ensures.bytes.1 zero (subst (λ (k : ℕ). 0 < k) (sym (length-take-le size read room)) some)),
      c.in-Ok.ensures.cause.kept,
    )

pub returns-in-Err-clause-bytes : goal.returns-in-Err-clause-bytes
returns-in-Err-clause-bytes g c = (record { consumed = consumes_nothing _ _ c.in-Err.ensures.bytes; behind = sym (append-nil c.args.out.now.items) }, c.in-Err.ensures.cause.failed)

pub returns-in_err-extend_from_slice-in-Ok-clause-few : goal.returns-in_err-extend_from_slice-in-Ok-clause-few
returns-in_err-extend_from_slice-in-Ok-clause-few g c =
    let n = c.in-Ok.count in
    let size = c.min-size.result in
    let read = c.read_at.new.piece.items in
    let few : n ≤ size = c.in-Ok.ensures.within in
    let small : size ≤ c.args.want = omega (arith, c.min-size.ensures) in
    let room : size ≤ length read = omega (arith, c.min-size.ensures) in
    let (got, came, many) = came_some _ _ [] (take n read) read n size few room c.in-Ok.ensures.bytes.0 refl in
    on_err c.from_residual.result (got, came.consumed, omega (arith, many, few, small))

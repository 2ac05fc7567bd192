use Rattle.std.proofs.Common.{◌∙◌, [], ◌++◌, refl, subst, arith, length-append}
use Rattle.cq_io.specs.Causes.{Rose}
use Rattle.std.proofs.KnownBytes.{Consumes-trans}
use Rattle.cq_tokask.proofs.Coming.{came_none, came_more, comes_more, on_err}
use Rattle.cq_tokask.proofs.taking.take.Goals as goal

-- of `take_some` the clause `bytes` says how many came, and which
pub pieces-init : goal.pieces-init
pieces-init g c = record {
  comes = record { got = []; came = came_none (g.S.Source.rest c.args.source.now) c.args.out.now.items; many = omega arith };
  room = refl;
  faults = refl;
}

pub pieces-preserved : goal.pieces-preserved
pieces-preserved g c =
    let some = rw c.in-Ok.is at c.in_ok-take_some.ensures.bytes in
    let before = c.pieces.invariant in
    record {
      comes = comes_more _ _ _ _ _ _ some.1.0 c.args.count c.pieces.left c.in-Ok.taken before.comes some.1.1 some.1.2 some.0;
      room = c.take_some.ensures.len ∙ before.room;
      faults = some.3 ∙ before.faults;
    }

pub returns-in-Ok-eq0-clause-bytes : goal.returns-in-Ok-eq0-clause-bytes
returns-in-Ok-eq0-clause-bytes g c =
    let some = rw c.in-Ok-eq0.is at c.in_ok-take_some.ensures.bytes in
    let so = c.pieces.invariant.comes in
    let wanted = c.pieces-test.true in
    let many = so.many in
    let zero = c.in-Ok-eq0.field-0-test in
    record {
      got = so.got ++ some.1.0;
      came = came_more _ _ _ _ _ _ so.got some.1.0 so.came some.1.1;
      ends = (
        (let both = length-append so.got some.1.0 in let none = some.1.2 in omega (arith, both, none, zero, many, wanted)),
        some.2 zero,
        some.3 ∙ c.pieces.invariant.faults,
      );
    }

pub returns-in-Err-clause-bytes : goal.returns-in-Err-clause-bytes
returns-in-Err-clause-bytes g c =
    let some = rw c.in-Err.is at c.in_ok-take_some.ensures.bytes in
    let so = c.pieces.invariant.comes in
    let wanted = c.pieces-test.true in
    let many = so.many in
    record {
      got = so.got ++ [];
      came = came_more _ _ _ _ _ _ so.got [] so.came some.0;
      ends = (
        (let both = length-append so.got [] in omega (arith, both, many, wanted)),
        subst (λ n. Rose n (g.S.Source.faults c.take_some.new.source)) c.pieces.invariant.faults some.1,
      );
    }

pub returns-clause-bytes : goal.returns-clause-bytes
returns-clause-bytes g c =
    let so = c.pieces.invariant.comes in
    let none = c.pieces-test.false in
    let many = so.many in
    record { got = so.got; came = so.came; ends = (omega (arith, many, none), c.pieces.invariant.faults) }

pub returns-in_err-take_some-clause-few : goal.returns-in_err-take_some-clause-few
returns-in_err-take_some-clause-few g c =
    let so = c.pieces.invariant.comes in
    let many = so.many in
    let (more, came, few) = c.in_err-take_some.ensures.few in
    on_err c.from_residual.result
    (so.got ++ more, Consumes-trans _ _ _ so.got more so.came.consumed came, (let both = length-append so.got more in omega (arith, both, many, few)))

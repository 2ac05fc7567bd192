use Rattle.std.proofs.Common.{◌<◌, ◌++◌, length, take, drop, sym, ap, ap₂, subst, ◌∙◌, arith, append-nil, append_assoc}
use Rattle.std.specs.List.Sorted.{IsStrictlyIncreasing}
use Rattle.std.proofs.lemmas.List.{length-drop, take-append-drop, take_all}
use Rattle.std.proofs.Math.Seq.{take-add}
use Rattle.cq_shard.specs.Blocks.{puts_in}
use Rattle.cq_shard.proofs.Finding.{whole_rest}
use Rattle.cq_shard.proofs.table.append.Goals as goal

pub filling-init : goal.filling-init
filling-init c = record {
  within = omega arith;
  table = c.requires.table;
  appended = sym (append-nil (puts_in c.args.blocks.now.items));
}

pub fill-requires-clause-some : goal.fill-requires-clause-some
fill-requires-clause-some c =
    let changes = c.args.changes.now in
    let from = c.filling.from in
    let more = c.filling-test.true in
    let many = length-drop from changes in
    subst (λ ns. 0 < length ns) (sym (whole_rest changes from)) (omega (arith, more, many))

pub fill-requires-clause-rising : goal.fill-requires-clause-rising
fill-requires-clause-rising c =
    let changes = c.args.changes.now in
    let from = c.filling.from in
    let old = puts_in c.args.blocks.now.items in
    subst IsStrictlyIncreasing
    (sym (ap₂ (λ xs ys. xs ++ ys) c.filling.invariant.appended (whole_rest changes from) ∙ append_assoc old (take from changes) (drop from changes) ∙ ap (λ ns. old ++ ns) (take-append-drop from changes)))
    c.requires.rising

pub fill-requires-clause-sized : goal.fill-requires-clause-sized
fill-requires-clause-sized c =
    let changes = c.args.changes.now in
    let sizes = c.args.sizes.now in
    let from = c.filling.from in
    let few = length-drop from changes in
    let many = length-drop from sizes in
    let sized = c.requires.sized in
    let a = ap length (whole_rest changes from) in
    let b = ap length (whole_rest sizes from) in
    omega (arith, few, many, sized, a, b)

pub overflow_add-from : goal.overflow_add-from
overflow_add-from c =
    let changes = c.args.changes.now in
    let from = c.filling.from in
    let within = c.in_ok-many.ensures.filled.within in
    let many = ap length (whole_rest changes from) in
    let long = length-drop from changes in
    let more = c.filling-test.true in
    omega (arith, within, many, long, more)

pub filling-preserved : goal.filling-preserved
filling-preserved c =
    let changes = c.args.changes.now in
    let from = c.filling.from in
    let filled = c.in_ok-many.ensures.filled in
    let within = filled.within in
    let many = ap length (whole_rest changes from) in
    let long = length-drop from changes in
    let more = c.filling-test.true in
    let old = puts_in c.args.blocks.now.items in
    let next = c.in_ok-many.many in
    record {
      within = omega (arith, within, many, long, more);
      table = filled.table;
      appended =
          filled.are
          ∙ ap₂ (λ xs ys. xs ++ take next ys) c.filling.invariant.appended (whole_rest changes from)
          ∙ append_assoc old (take from changes) (take next (drop from changes))
          ∙ ap (λ ns. old ++ ns) (sym (take-add from next changes));
    }

pub filling-smaller : goal.filling-smaller
filling-smaller c =
    let some = c.in_ok-many.ensures.filled.some in
    let more = c.filling-test.true in
    omega (arith, some, more)

pub returns-clause-appended : goal.returns-clause-appended
returns-clause-appended c =
    let past = c.filling-test.false in
    c.filling.invariant.appended ∙ ap (λ ns. puts_in c.args.blocks.now.items ++ ns) (take_all c.filling.from c.args.changes.now (omega (arith, past)))

pub returns-clause-grown : goal.returns-clause-grown
returns-clause-grown c = record { many = c.filling.from; is = c.filling.invariant.appended }

pub returns-in_err-many-clause-grown : goal.returns-in_err-many-clause-grown
returns-in_err-many-clause-grown c = record { many = c.filling.from; is = ap puts_in c.in_err-many.ensures.same ∙ c.filling.invariant.appended }

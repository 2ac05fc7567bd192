use Rattle.std.proofs.Common.{◌<◌, length, arith, rules}
use Rattle.std.specs.Prelude.{slice_index_or}
use Rattle.cq_base.proofs.Lists.{same_default}
use Rattle.cq_func.specs.declared.found.Found.{Found}
use Rattle.cq_func.proofs.Closes.{closed_more}
use Rattle.cq_func.proofs.own.closes.Goals as goal

abbrev nothing : Found
nothing = record { name = 0; brace = 0; close = 0 }

pub overflow_cast-function : goal.overflow_cast-function
overflow_cast-function c =
    let fs = c.args.functions.now in
    let at = c.loop-function.function-index in
    let inside : at < length fs = search rules in
    let within = c.requires.bodies.within (slice_index_or fs at nothing) (at, inside, same_default fs at nothing inside) in
    omega (arith, within)

pub index_mut-requires : goal.index_mut-requires
index_mut-requires c =
    let fs = c.args.functions.now in
    let at = c.loop-function.function-index in
    let inside : at < length fs = search rules in
    let within = c.requires.bodies.within (slice_index_or fs at nothing) (at, inside, same_default fs at nothing inside) in
    let long = c.loop-function.invariant.long in
    search (rules, within, long)

pub loop-function-preserved : goal.loop-function-preserved
loop-function-preserved c =
    let fs = c.args.functions.now in
    let at = c.loop-function.function-index in
    let inside : at < length fs = search rules in
    closed_more fs at c.args.many c.loop-function.closes.items (slice_index_or fs at nothing) inside (same_default fs at nothing inside) c.requires.bodies c.loop-function.invariant

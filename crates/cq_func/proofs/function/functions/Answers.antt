use Rattle.std.proofs.Common.{◌≡◌, ◌<◌, length, get_or, map, sym, ap, ◌∙◌, subst, arith, rules}
use Rattle.std.proofs.lemmas.List.{get_or_read, take_all}
use Rattle.cq_base.proofs.Lists.{same_default}
use Rattle.cq_func.specs.Functions.{found, function_of}
use Rattle.cq_func.specs.Walks.{AreBodies, AreOwn}
use Rattle.cq_func.proofs.Listed.{nothing, found_bodies, told_more, is_described}
use Rattle.cq_func.proofs.function.functions.Goals as goal

pub own_decisions-requires-clause-bodies : goal.own_decisions-requires-clause-bodies
own_decisions-requires-clause-bodies c =
    let is : c.deref.result.now ≡ found c.args.lang c.args.tokens.now = search rules in
    subst (AreBodies (length c.args.tokens.now)) (sym is) (found_bodies c.args.lang c.args.tokens.now)

pub index-requires : goal.index-requires
index-requires c =
    let ts = c.args.tokens.now in
    let fs = c.in_ok-found.found.items in
    let at = c.loop-function.function-index in
    let inside : at < length fs = search rules in
    let bodies = subst (AreBodies (length ts)) (sym c.in_ok-found.ensures) (found_bodies c.args.lang ts) in
    let within = bodies.within (get_or fs at nothing) (at, inside, same_default fs at nothing inside) in
    let long = c.in_ok-own.ensures.long in
    search (rules, within, long)

pub described-requires-clause-named : goal.described-requires-clause-named
described-requires-clause-named c =
    let ts = c.args.tokens.now in
    let fs = c.in_ok-found.found.items in
    let at = c.loop-function.function-index in
    let inside : at < length fs = search rules in
    let bodies = subst (AreBodies (length ts)) (sym c.in_ok-found.ensures) (found_bodies c.args.lang ts) in
    let within = bodies.within (get_or fs at nothing) (at, inside, same_default fs at nothing inside) in
    search (rules, within)

pub described-requires-clause-closed : goal.described-requires-clause-closed
described-requires-clause-closed c =
    let ts = c.args.tokens.now in
    let fs = c.in_ok-found.found.items in
    let at = c.loop-function.function-index in
    let inside : at < length fs = search rules in
    let bodies = subst (AreBodies (length ts)) (sym c.in_ok-found.ensures) (found_bodies c.args.lang ts) in
    let within = bodies.within (get_or fs at nothing) (at, inside, same_default fs at nothing inside) in
    search (rules, within)

pub described-requires-clause-few : goal.described-requires-clause-few
described-requires-clause-few c =
    let ts = c.args.tokens.now in
    let fs = c.deref-function-items.result.now in
    let own = c.in_ok-own.own.items in
    let at = c.loop-function.function-index in
    let inside : at < length fs = search rules in
    let f = get_or fs at nothing in
    let is : fs ≡ found c.args.lang ts = search rules in
    let bodies = subst (AreBodies (length ts)) (sym is) (found_bodies c.args.lang ts) in
    let within = bodies.within f (at, inside, same_default fs at nothing inside) in
    let long = c.in_ok-own.ensures.long in
    let read = get_or_read own f.brace c.index.result.now (omega (arith, within, long)) c.index.ensures 0 in
    let few = c.in_ok-own.ensures.few f.brace 0 (omega (arith, within, long)) in
    omega (arith, read, few)

pub loop-function-preserved : goal.loop-function-preserved
loop-function-preserved c =
    let ts = c.args.tokens.now in
    let fs = c.deref-function-items.result.now in
    let own = c.in_ok-own.own.items in
    let at = c.loop-function.function-index in
    let inside : at < length fs = search rules in
    let f = get_or fs at nothing in
    let is : fs ≡ found c.args.lang ts = search rules in
    let bodies = subst (AreBodies (length ts)) (sym is) (found_bodies c.args.lang ts) in
    let within = bodies.within f (at, inside, same_default fs at nothing inside) in
    let long = c.in_ok-own.ensures.long in
    let read = get_or_read own f.brace c.index.result.now (omega (arith, within, long)) c.index.ensures 0 in
    let same : c.deref.result.now ≡ fs = search rules in
    let are = subst (λ xs. AreOwn c.args.lang ts xs (length ts) own) same c.in_ok-own.ensures in
    let told = told_more c.args.lang ts fs own at c.loop-function.functions.items _ inside are c.loop-function.invariant (is_described ts f _ _ _ c.in_ok-described.ensures read) in
    search (rules, told)

pub returns : goal.returns
returns c =
    let ts = c.args.tokens.now in
    let fs = c.deref-function-items.result.now in
    let is : fs ≡ found c.args.lang ts = search rules in
    c.loop-function.invariant
    ∙ ap (map (function_of c.args.lang ts fs)) (take_all c.loop-function.function-index fs (search rules))
    ∙ ap (λ xs. map (function_of c.args.lang ts xs) xs) is

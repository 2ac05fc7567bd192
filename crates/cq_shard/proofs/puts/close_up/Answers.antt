use Rattle.std.proofs.Common.{◌≡◌, ◌+◌, ◌-◌, ◌≤◌, length, take, sym, ap, subst, ◌∙◌, arith}
use Rattle.cq_shard.specs.Tables.{AreAlikeInFront, AreAlikeUpTo}
use Rattle.cq_shard.proofs.Alike.{IsBehind, first_behind}
use Rattle.cq_shard.proofs.Closing.{IsClosing, closing_first, closing_next, closing_last, behind_next, now_in_front, length-moved}
use Rattle.cq_shard.proofs.puts.close_up.Goals as goal

pub going-preserved : goal.going-preserved
going-preserved c =
    let old = c.args.changes.now.items in
    let keep = c.args.keep.now in
    let number = c.args.number in
    let now = c.going.changes.items in
    let gone = c.going.gone in
    let at = c.going.at in
    let next = c.alike-next.result in
    let was = c.going.invariant in
    let more = c.going-test.true in
    let within = c.requires.within in
    let alike = subst (λ xs. AreAlikeUpTo xs keep gone at next) c.deref.ensures.value c.alike-next.ensures in
    record {
      closing = subst (λ xs. IsClosing old keep xs (gone + 1) next) (sym c.move_up.ensures) (closing_next old keep number within c.requires.part now gone at was.closing was.behind next more alike);
      behind = behind_next old keep number within c.requires.part now gone at was.closing was.behind next more alike;
      sized =
          let sized = was.sized in
          let begins = alike.begins in
          let last = alike.within in
          let long = was.closing.number in
          let inside : at + gone + (next - at) ≤ length now = omega (arith, begins, last, more, within, long) in
          let first = ap length c.move_up.ensures ∙ length-moved now (at + gone) (next - at) at (omega arith) inside in
          let second = ap length c.move_up-in-going.ensures ∙ length-moved c.going.sizes.items (at + gone) (next - at) at (omega arith) (omega (arith, inside, sized)) in
          omega (arith, first, second, sized);
    }

pub going-init : goal.going-init
going-init c =
    let part = c.requires.part in
    record {
      closing = closing_first c.args.changes.now.items c.args.keep.now;
      behind = first_behind (take (length c.args.keep.now + c.args.number) c.args.changes.now.items) c.args.keep.now part.rising part.part_rises part.among;
      sized = c.requires.sized;
    }

pub alike-next-requires-clause-front : goal.alike-next-requires-clause-front
alike-next-requires-clause-front c =
    let was = c.going.invariant in
    let more = c.going-test.true in
    subst (λ xs. AreAlikeInFront xs c.args.keep.now c.going.gone c.going.at) (sym c.deref.ensures.value)
    (now_in_front c.args.changes.now.items c.args.keep.now c.args.number c.requires.within c.requires.part c.going.changes.items c.going.gone c.going.at was.closing was.behind (omega (arith, more)))

pub returns-clause-left : goal.returns-clause-left
returns-clause-left c =
    let old = c.args.changes.now.items in
    let keep = c.args.keep.now in
    let number = c.args.number in
    let now = c.going.changes.items in
    let at = c.going.at in
    let was = c.going.invariant in
    let rest = c.len.result - (at + number) in
    let all : c.going.gone ≡ number = (let past = c.going-test.false in let most = c.going.auto.gone-end in omega (arith, past, most)) in
    let closing = subst (λ g. IsClosing old keep now g at) all was.closing in
    let behind = subst (λ g. IsBehind (take (length keep + number) old) keep g at) all was.behind in
    c.truncate.ensures.items
    ∙ ap (take (at + rest)) c.move_up-2.ensures
    ∙ closing_last old keep number c.requires.within c.requires.part now at rest closing behind (let many = c.len.ensures in let whole = c.going.changes.ok in omega (arith, many, whole))

use Rattle.std.proofs.Common.{ℕ, ◌+◌, ◌-◌, ◌<◌, take, drop, length, refl, sym, subst, arith, IfOk}
use Rattle.cq_base.specs.declared.token.Spelled.{Spelled}
use Rattle.cq_munch.specs.Lexed.{IsCut, spelled_of}
use Rattle.cq_munch.proofs.Bytes.{AreBytes-take, AreBytes-drop}
use Rattle.cq_munch.proofs.Orders.{InOrder-take, InOrder-end}
use Rattle.cq_munch.proofs.Elements.{SoFar, one_token, one_blank, stays_inside, unspelled, unmarked, marked, TokensFollow-to, faulty, too_many}
use Rattle.cq_munch.proofs.MarkOrder.{marks_in_order}
use Rattle.cq_munch.proofs.cutting.cut_up.Goals as goal
use Rattle.cq_munch.proofs.cutting.cut_up.Goals.{in-Some, in-None}

pub loop-at-preserved-in_ok-reached-in-Token : goal.loop-at-preserved-in_ok-reached-in-Token
loop-at-preserved-in_ok-reached-in-Token g c =
    let taken = c.in-Some-longest.ensures.taken in
    let bytes = c.args.text.now in
    let units = c.args.units.now in
    let at = c.loop-at.at in
    let found = c.in-Some-longest.found in
    let spelled : Spelled = spelled_of bytes c.in-Token.class (take (at + found.units - at) (drop at units)) in
    record {
      so_far = subst (λ (end : ℕ). SoFar g.X.Lexis.language bytes units c.add_token.new.tokens.items c.loop-at.marks.items (at + found.units) found.mode end) (sym c.in_ok-reached-in-Token.ensures.end)
          (one_token c.loop-at.invariant.so_far found taken (stays_inside units at _ c.loop-at-test.true taken.0.within) c.in-Token.class spelled _ c.in-Token.is refl
          c.in_ok-reached-in-Token.ensures.added _ (unmarked _ _ _ _ c.in-Token.is refl));
      counted = c.in_ok-reached-in-Token.ensures.counted;
      remembered = c.longest.ensures.remembered;
    }

pub loop-at-preserved-in_ok-add_mark-in-Comment : goal.loop-at-preserved-in_ok-add_mark-in-Comment
loop-at-preserved-in_ok-add_mark-in-Comment g c =
    let taken = c.in-Some-longest.ensures.taken in
    record {
      so_far = one_blank c.loop-at.invariant.so_far c.in-Some-longest.found taken (stays_inside c.args.units.now c.loop-at.at _ c.loop-at-test.true taken.0.within)
          (unspelled c.args.text.now _ _ _ _ c.in-Comment.is refl) _ (marked _ _ _ _ _ c.in-Comment.is c.in_ok-add_mark-in-Comment.ensures);
      counted = c.loop-at.invariant.counted;
      remembered = c.longest.ensures.remembered;
    }

pub loop-at-preserved : goal.loop-at-preserved
loop-at-preserved g c =
    let taken = c.in-Some-longest.ensures.taken in
    record {
      so_far = one_blank c.loop-at.invariant.so_far c.in-Some-longest.found taken (stays_inside c.args.units.now c.loop-at.at _ c.loop-at-test.true taken.0.within)
          (unspelled c.args.text.now _ _ _ _ c.in-Blank.is refl) _ (unmarked _ _ _ _ c.in-Blank.is refl);
      counted = c.loop-at.invariant.counted;
      remembered = c.longest.ensures.remembered;
    }

pub add_token-requires-clause-counted : goal.add_token-requires-clause-counted
add_token-requires-clause-counted g c = c.loop-at.invariant.counted

pub add_token-requires-clause-in_order : goal.add_token-requires-clause-in_order
add_token-requires-clause-in_order g c = InOrder-take _ c.loop-at.reached.end _ (length c.args.text.now) c.loop-at.invariant.so_far.behind

pub add_token-requires-clause-bytes : goal.add_token-requires-clause-bytes
add_token-requires-clause-bytes g c = AreBytes-take c.args.text.now _ _ (AreBytes-drop c.args.text.now c.loop-at.at c.args.units.now c.requires.bytes)

pub returns-clause-in_order : goal.returns-clause-in_order
returns-clause-in_order g c = (
  TokensFollow-to 0 c.loop-at.tokens.items c.loop-at.reached.end (length c.args.text.now) (InOrder-end c.loop-at.reached.end _ (length c.args.text.now) c.loop-at.invariant.so_far.behind) c.loop-at.invariant.so_far.ordered,
  marks_in_order g.X.Lexis.language c.args.units.now c.loop-at.invariant.so_far.elements c.loop-at.at c.loop-at.mode (length c.args.text.now) c.loop-at.marks.items c.loop-at.invariant.so_far.follow c.requires.in_order c.loop-at.invariant.so_far.marks_are,
)

pub returns-then-len-gt-MOST_TOKENS-clause-cut : goal.returns-then-len-gt-MOST_TOKENS-clause-cut
returns-then-len-gt-MOST_TOKENS-clause-cut g c =
    let many : 262144 < length c.loop-at.tokens.items = omega (arith, c.if-len-gt-MOST_TOKENS.true, c.len.ensures) in
    elim c.match-fault_from.branch [
      | in-Some w ↦ subst (λ r. IfOk r (IsCut g.X.Lexis.language c.args.text.now c.args.units.now)) (sym w.result-is) (faulty c.loop-at.invariant.so_far w.in-Some.byte w.in-Some.ensures.fault)
      | in-None w ↦ subst (λ r. IfOk r (IsCut g.X.Lexis.language c.args.text.now c.args.units.now)) (sym w.result-is) (too_many c.loop-at.invariant.so_far many w.in-None.ensures.none)
    ]

use Rattle.std.proofs.Common.{◌∷◌, [], subst, sym}
use mathlib.Core.List.{IsPrefix}
use Rattle.cq_chain.specs.Passes.{BoardPass}
use Rattle.cq_history.specs.declared.event.Event.TheVariants.{Accept}
use Rattle.cq_hub.specs.Says.{IsAcceptedAs, IsRefusedFor}
use Rattle.cq_keeper.specs.Firsts.{IsFirst, IsFirstAfter, IsFirstStill}
use Rattle.cq_shared.specs.Calls.{Calls}
use Rattle.cq_shared.specs.SharedPasses.{IsPassOf, callers_of, settings_of}
use Rattle.cq_keeper.proofs.Leveling.{begins_left, begins_right, call_passed, first_leveled, first_after, first_still, if_ok, if_err, sees_passed}
use Rattle.cq_keeper.proofs.accepting.accept_by_first.Goals as goal

pub returns-clause-accepted : goal.returns-clause-accepted
returns-clause-accepted g c =
    let hub = c.args.hub.now in
    let e = c.level.ensures in
    let two = c.level-2.ensures in
    let f : BoardPass = c.args.first.now in
    let p : BoardPass = c.args.pass.now in
    let l : BoardPass = c.level.new.pass in
    let q : BoardPass = c.level-2.new.pass in
    let leveled : IsFirst hub l = first_leveled hub f l c.requires.first e.of e.same (subst (IsPrefix f.seen) (sym e.seen) (begins_left f.seen p.seen e.one_history)) e.own in
    let of_p : IsPassOf hub c.level.new.other = subst (IsPassOf hub) (sym e.other) c.requires.of in
    let begins : IsPrefix c.level.new.other.seen l.seen = subst (λ (z : BoardPass). IsPrefix z.seen l.seen) (sym e.other) (subst (IsPrefix p.seen) (sym e.seen) (begins_right f.seen p.seen e.one_history)) in
    if_ok c.accept-result.result _ _ c.accept-result.ensures.accepted (λ number call.
    subst (λ (z : BoardPass). Calls hub z q (Accept 0 c.args.change ∷ []) (IsAcceptedAs (settings_of hub) (callers_of hub) c.args.change number)) e.other
    (subst (λ n. Calls hub c.level.new.other q (Accept n c.args.change ∷ []) (IsAcceptedAs (settings_of hub) (callers_of hub) c.args.change number)) leveled.caller (call_passed hub c.level.new.other l c.accept-result.new.pass q _ _ call of_p begins two.of two.same two.seen two.own)))

pub returns-clause-refused : goal.returns-clause-refused
returns-clause-refused g c =
    let hub = c.args.hub.now in
    let e = c.level.ensures in
    let two = c.level-2.ensures in
    let f : BoardPass = c.args.first.now in
    let p : BoardPass = c.args.pass.now in
    let l : BoardPass = c.level.new.pass in
    let q : BoardPass = c.level-2.new.pass in
    let of_p : IsPassOf hub c.level.new.other = subst (IsPassOf hub) (sym e.other) c.requires.of in
    let begins : IsPrefix c.level.new.other.seen l.seen = subst (λ (z : BoardPass). IsPrefix z.seen l.seen) (sym e.other) (subst (IsPrefix p.seen) (sym e.seen) (begins_right f.seen p.seen e.one_history)) in
    if_err c.accept-result.result _ _ c.accept-result.ensures.refused (λ cause call.
    subst (λ (z : BoardPass). Calls hub z q [] (IsRefusedFor (settings_of hub) (callers_of hub) c.args.change cause)) e.other (call_passed hub c.level.new.other l c.accept-result.new.pass q _ _ call of_p begins two.of two.same two.seen two.own))

pub returns-clause-sees : goal.returns-clause-sees
returns-clause-sees g c =
    let hub = c.args.hub.now in
    let e = c.level.ensures in
    let two = c.level-2.ensures in
    let o : BoardPass = c.level.new.other in
    let q : BoardPass = c.level-2.new.pass in
    let of_o : IsPassOf hub o = subst (IsPassOf hub) (sym e.other) c.requires.of in
    let begins : IsPrefix o.seen q.seen = subst (IsPrefix o.seen) (sym two.seen) (begins_left o.seen c.accept-result.new.pass.seen two.one_history) in
    subst (λ (z : BoardPass). Calls hub z q [] (λ _. Unit {0})) e.other (sees_passed hub o q of_o two.of two.same begins two.own)

pub returns-clause-first : goal.returns-clause-first
returns-clause-first g c =
    let hub = c.args.hub.now in
    let e = c.level.ensures in
    let f : BoardPass = c.args.first.now in
    let p : BoardPass = c.args.pass.now in
    let l : BoardPass = c.level.new.pass in
    let begins : IsPrefix f.seen l.seen = subst (IsPrefix f.seen) (sym e.seen) (begins_left f.seen p.seen e.one_history) in
    if_ok c.accept-result.result _ _ c.accept-result.ensures.accepted (λ number call.
    subst (λ (z : BoardPass). IsFirstAfter hub f z c.args.change) (sym c.level-2.ensures.other) (first_after hub f l c.requires.first e.of e.same begins e.own c.accept-result.new.pass c.args.change _ call))

pub returns-clause-still : goal.returns-clause-still
returns-clause-still g c =
    let hub = c.args.hub.now in
    let e = c.level.ensures in
    let f : BoardPass = c.args.first.now in
    let p : BoardPass = c.args.pass.now in
    let l : BoardPass = c.level.new.pass in
    let begins : IsPrefix f.seen l.seen = subst (IsPrefix f.seen) (sym e.seen) (begins_left f.seen p.seen e.one_history) in
    if_err c.accept-result.result _ _ c.accept-result.ensures.refused (λ cause call.
    subst (λ (z : BoardPass). IsFirstStill hub f z) (sym c.level-2.ensures.other) (first_still hub f l c.requires.first e.of e.same begins e.own c.accept-result.new.pass _ call))

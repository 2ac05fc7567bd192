use Rattle.std.proofs.Common.{rules, ◌≡◌, ◌++◌, sym, ap, ◌∙◌, append_assoc, append-nil, subst}
use Rattle.cq_history.specs.Gone.{AreKeptPuts}
use Rattle.cq_kept.specs.Accepted.{Accepted}
use Rattle.cq_kept.specs.Slots.{change_of, changes_of, put_by}
use Rattle.cq_kept.proofs.Found.{puts_in, keep_is}
use Rattle.cq_kept.proofs.changes.Changes.keep.Goals as goal

pub loop-number-init : goal.loop-number-init
loop-number-init g c = ap (λ ns. ns ++ puts_in c.into_iter-number-iterator.result) c.new-keep.ensures.items

pub loop-number-preserved : goal.loop-number-preserved
loop-number-preserved g c =
    ap (λ ns. ns ++ puts_in c.next.new.self) c.in_ok-note_put.ensures
    ∙ append_assoc c.loop-number.keep.items (put_by (change_of c.in-Some.kept.now.change) c.in-Some.number.now) (puts_in c.next.new.self)
    ∙ ap (λ es. c.loop-number.keep.items ++ puts_in es) (sym c.in-Some.ensures.steps)
    ∙ c.loop-number.invariant

pub returns : goal.returns
returns g c =
    let s = c.self.inside in
    let same : c.into_iter-number-iterator.result ≡ c.range-number-items.result = search rules in
    let all = sym (append-nil c.loop-number.keep.items) ∙ ap (λ es. c.loop-number.keep.items ++ puts_in es) (sym c.in-None.ensures.steps.0) ∙ c.loop-number.invariant ∙ ap puts_in same in
    subst (λ (a : Accepted). AreKeptPuts (changes_of a.slots) a.floor c.loop-number.keep.items) c.self.view_is
    (keep_is (g.W.Indexed.IsWorkOf s.settings) s.past.slots s.floor s.kept c.self.invariant.holds c.loop-number.keep.items c.range-number-items.result (c.range-number-items.ensures.between tt) all)

use Rattle.std.proofs.Common.{◌≡◌, not, [], sym, ap, ◌∙◌, subst}
use Rattle.cq_history.specs.Lawful.{is_absent}
use Rattle.cq_kept.specs.Accepted.{Accepted}
use Rattle.cq_kept.specs.Slots.{change_of, changes_of, state_from}
use Rattle.cq_kept.specs.declared.kept.Stored.{Stored}
use Rattle.cq_kept.proofs.changes.Changes.is_absent.Goals as goal

pub returns-in-Drop : goal.returns-in-Drop
returns-in-Drop g c =
    let s = c.self.inside in
    subst (λ (a : Accepted). not c.has.result ≡ is_absent (state_from a.slots 0 a.floor []) (change_of c.args.change.now)) c.self.view_is
    (ap not (c.has.ensures (changes_of s.past.slots) s.floor c.self.invariant.presence)
    ∙ ap (λ (x : Stored). is_absent (state_from s.past.slots 0 s.floor []) (change_of x)) (sym c.in-Drop.is))

use Rattle.std.proofs.Common.{◌≡◌, [], sym, ◌∙◌, subst}
use Rattle.cq_history.specs.Lawful.{is_long}
use Rattle.cq_kept.specs.Accepted.{Accepted}
use Rattle.cq_kept.specs.Slots.{change_of, state_from}
use Rattle.cq_kept.proofs.Changing.{is_long_as}
use Rattle.cq_kept.proofs.changes.Changes.is_long.Goals as goal

pub returns : goal.returns
returns g c =
    let s = c.self.inside in
    subst (λ (a : Accepted). c.has_more.result ≡ is_long a.settings (state_from a.slots 0 a.floor []) (change_of c.args.change.now)) c.self.view_is
    (c.has_more.ensures ∙ sym (is_long_as (g.W.Indexed.IsWorkOf s.settings) s.settings s.past.slots s.accepted s.floor s.kept s.there s.text_bytes c.self.invariant (change_of c.args.change.now)))

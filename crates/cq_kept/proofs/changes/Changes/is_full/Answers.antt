use Rattle.std.proofs.Common.{◌≡◌, ◌^◌, ◌||◌, nat_le, [], sym, ap, ◌∙◌, subst}
use Rattle.cq_history.specs.Lawful.{is_full}
use Rattle.cq_kept.specs.Accepted.{Accepted}
use Rattle.cq_kept.specs.Slots.{state_from}
use Rattle.cq_kept.proofs.Changing.{is_full_as}
use Rattle.cq_kept.proofs.changes.Changes.is_full.Goals as goal

pub returns : goal.returns
returns g c =
    let s = c.self.inside in
    subst (λ (a : Accepted). c.are_most.result ≡ is_full a.settings (state_from a.slots 0 a.floor [])) c.self.view_is
    (c.are_most.ensures ∙ ap (λ n. nat_le s.settings.change_limit n || nat_le (2 ^ 60) s.accepted) c.len.ensures.len
    ∙ sym (is_full_as (g.W.Indexed.IsWorkOf s.settings) s.settings s.past.slots s.accepted s.floor s.kept s.there s.text_bytes c.self.invariant))

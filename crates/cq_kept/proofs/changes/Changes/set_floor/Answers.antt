use Rattle.std.proofs.Common.{◌≤◌, refl, sym, ap, subst, length, arith}
use Rattle.std.specs.List.Sorted.{IsStrictlyIncreasing}
use Rattle.cq_history.proofs.Forgetting.{kept_are}
use Rattle.cq_kept.specs.Accepted.{Accepted, accepted_from}
use Rattle.cq_kept.specs.Slots.{changes_of}
use Rattle.cq_kept.proofs.Holding.{holds_then, presence_then}
use Rattle.cq_kept.proofs.changes.Changes.set_floor.Goals as goal

pub forget-gone-requires : goal.forget-gone-requires
forget-gone-requires g c =
    let s = c.self.inside in
    let is = c.self.invariant in
    record {
      order = is.presence.over.in_order;
      rising = subst IsStrictlyIncreasing (sym is.holds.numbers) (kept_are (changes_of s.past.slots) s.floor).rising;
      few = omega (arith, is.text_bytes, is.few_bytes);
    }

pub invariant_of-self : goal.invariant_of-self
invariant_of-self g c =
    let s = c.self.inside in
    let is = c.self.invariant in
    let f = c.forget-gone.ensures in
    let low = subst (λ (a : Accepted). a.floor ≤ c.args.floor) (sym c.self.view_is) c.requires.low in
    let high = subst (λ (a : Accepted). c.args.floor ≤ length a.slots) (sym c.self.view_is) c.requires.high in
    record {
      holds = holds_then (g.W.Indexed.IsWorkOf s.settings) s.past.slots s.floor c.args.floor low s.there.over.items is.presence.over s.kept c.forget-gone.new.kept is.holds f.numbers f.same;
      number_is = is.number_is;
      few = is.few;
      passed = omega (arith, high, is.number_is);
      presence = presence_then (changes_of s.past.slots) s.floor c.args.floor low s.there _ is.presence refl refl f.over;
      text_bytes = omega (arith, is.text_bytes, f.bytes);
      few_bytes = omega (arith, is.few_bytes);
    }

pub returns : goal.returns
returns g c = ap (λ (a : Accepted). accepted_from a.settings a.slots c.args.floor) c.self.view_is

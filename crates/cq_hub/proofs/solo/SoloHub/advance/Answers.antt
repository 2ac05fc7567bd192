use Rattle.std.proofs.Common.{◌≡◌, ◌≤◌, ◌++◌, [], ◌∷◌, arith, rules}
use Rattle.cq_base.specs.declared.settings.Settings.{Settings}
use Rattle.cq_history.specs.declared.event.Event.TheVariants as event
use Rattle.cq_history.specs.State.{State, ready}
use Rattle.cq_shard.specs.Shard.{HasWindow}
use Rattle.cq_hub.proofs.Growing.{calls_now}
use Rattle.cq_hub.proofs.Raising.{floor_published}
use Rattle.cq_hub.proofs.Soloing.{solo_applies, solo_stand, solo_publishes, solo_says, solo_said, solo_same, solo_nil, grows_published, published_then}
use Rattle.cq_hub.proofs.solo.SoloHub.advance.Goals as goal

pub returns-then-published-to-clause-published : goal.returns-then-published-to-clause-published
returns-then-published-to-clause-published g c = λ by h is.
    calls_now _ _ _ by _ _ h _ _
    (solo_says _ _ by h _ _ is (λ n (set : Settings) (s : State). (c.published-published.result ≡ s.published) × (c.args.to ≤ c.published-published.result)) (c.published-published.ensures, c.if-published-to.true))
    (solo_same _ _ by h _ _ is _ c.relist.ensures)

pub returns-in_err-relist-clause-published : goal.returns-in_err-relist-clause-published
returns-in_err-relist-clause-published g c = λ by h is.
    calls_now _ _ _ by _ _ h _ _ (search rules) (solo_same _ _ by h _ _ is _ c.relist.ensures)

pub apply_up_to-requires-clause-floor : goal.apply_up_to-requires-clause-floor
apply_up_to-requires-clause-floor g c = let r = c.requires.done in floor_published _ _ r.0 r.1 _ _ r.2

pub apply_up_to-requires-clause-some : goal.apply_up_to-requires-clause-some
apply_up_to-requires-clause-some g c = let r = c.requires.done in r.2.some_shard

pub apply_up_to-requires-clause-stand : goal.apply_up_to-requires-clause-stand
apply_up_to-requires-clause-stand g c = let r = c.requires.done in solo_stand (HasWindow g.W.Indexed.keys_in g.W.Indexed.IsWorkOf) _ r.0 r.1 _ _ r.2

pub returns-in_err-apply_up_to-clause-published : goal.returns-in_err-apply_up_to-clause-published
returns-in_err-apply_up_to-clause-published g c = λ by h is.
    calls_now _ _ _ by _ _ h _ _ (search rules)
    (solo_nil _ _ by h _ _ (solo_applies (HasWindow g.W.Indexed.keys_in g.W.Indexed.IsWorkOf) _ by h _ _ c.apply_up_to.new.shards.items is c.apply_up_to.ensures.stand))

pub publish-requires : goal.publish-requires
publish-requires g c = let r = c.requires.done in record {
  above = let e = c.published-published.ensures in let f = c.if-published-to.false in omega (arith, e, f);
  done = solo_said _ _ r.0 r.1 _ _ r.2 (λ n (set : Settings) (s : State). c.args.to ≤ ready s) r.3;
}

pub returns-in_err-publish-clause-published : goal.returns-in_err-publish-clause-published
returns-in_err-publish-clause-published g c = λ by h is.
    let more = solo_applies (HasWindow g.W.Indexed.keys_in g.W.Indexed.IsWorkOf) _ by h _ _ c.apply_up_to.new.shards.items is c.apply_up_to.ensures.stand in
    calls_now _ _ _ by _ _ h _ _ (search rules) (solo_same _ _ by h _ _ more _ c.in_err-publish.ensures.err)

pub returns-clause-published : goal.returns-clause-published
returns-clause-published g c = λ by h is.
    let more = solo_applies (HasWindow g.W.Indexed.keys_in g.W.Indexed.IsWorkOf) _ by h _ _ c.apply_up_to.new.shards.items is c.apply_up_to.ensures.stand in
    let new = solo_publishes _ _ by h _ _ more _ c.args.to c.in_ok-publish.ensures.adds c.in_ok-apply_up_to.ensures.applied in
    record {
      mid = h ++ event.Publish c.args.to ∷ [];
      others = grows_published _ by c.args.to h;
      says = (published_then c.args.to h, let n = c.args.to in omega arith);
      stands = solo_nil _ _ by _ _ _ new;
    }

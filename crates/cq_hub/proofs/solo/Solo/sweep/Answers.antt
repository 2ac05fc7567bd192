use Rattle.std.proofs.Common.{◌≡◌, ◌∙◌, sym, ap, subst, rules}
use Rattle.std.specs.Prelude.{All}
use Rattle.cq_history.specs.State.{State}
use Rattle.cq_shard.specs.Shard.{Contents, HasWindow}
use Rattle.cq_hub.proofs.Soloing.{solo_applies, solo_nil, solo_stand, solo_state}
use Rattle.cq_hub.proofs.Raising.{solo_raised, raised_once, floor_published}
use Rattle.cq_hub.proofs.solo.Solo.sweep.Goals as goal

pub sweep_shards-requires : goal.sweep_shards-requires
sweep_shards-requires g c =
    let r = c.requires.stands in
    let set = c.set_floor.ensures in
    let raised = solo_raised (HasWindow g.W.Indexed.keys_in g.W.Indexed.IsWorkOf c.args.self.now.settings) _ r.0 r.1 _ _ r.2 c.greatest_floor-floor.result c.greatest_floor-floor.ensures c.set_floor.new.self c.set_floor.result set.adds set.lawful set.unchanged in
    record {
      published = floor_published _ _ r.0 raised.mid _ _ raised.is;
      stand = solo_stand (HasWindow g.W.Indexed.keys_in g.W.Indexed.IsWorkOf) _ r.0 raised.mid _ _ raised.is;
    }

pub returns-in_err-sweep_shards-clause-swept : goal.returns-in_err-sweep_shards-clause-swept
returns-in_err-sweep_shards-clause-swept g c = λ by h is.
    let set = c.set_floor.ensures in
    let raised = solo_raised (HasWindow g.W.Indexed.keys_in g.W.Indexed.IsWorkOf c.args.self.now.settings) _ by h _ _ is c.greatest_floor-floor.result c.greatest_floor-floor.ensures c.set_floor.new.self c.set_floor.result set.adds set.lawful set.unchanged in
    record {
      mid = raised.mid;
      others = raised.others;
      says = (raised.greatest, search rules);
      stands = solo_nil _ _ by _ _ _ (solo_applies (HasWindow g.W.Indexed.keys_in g.W.Indexed.IsWorkOf) _ by raised.mid _ _ c.sweep_shards.new.shards.items raised.is c.sweep_shards.ensures.stand);
    }

pub returns-clause-swept : goal.returns-clause-swept
returns-clause-swept g c = λ by h is.
    let set = c.set_floor.ensures in
    let raised = solo_raised (HasWindow g.W.Indexed.keys_in g.W.Indexed.IsWorkOf c.args.self.now.settings) _ by h _ _ is c.greatest_floor-floor.result c.greatest_floor-floor.ensures c.set_floor.new.self c.set_floor.result set.adds set.lawful set.unchanged in
    record {
      mid = raised.mid;
      others = raised.others;
      says = (raised.greatest, raised.told);
      stands = solo_nil _ _ by _ _ _ (solo_applies (HasWindow g.W.Indexed.keys_in g.W.Indexed.IsWorkOf) _ by raised.mid _ _ c.sweep_shards.new.shards.items raised.is c.sweep_shards.ensures.stand);
    }

pub returns-clause-shards : goal.returns-clause-shards
returns-clause-shards g c =
    let r = c.requires.stands in
    let set = c.set_floor.ensures in
    let raised = solo_raised (HasWindow g.W.Indexed.keys_in g.W.Indexed.IsWorkOf c.args.self.now.settings) _ r.0 r.1 _ _ r.2 c.greatest_floor-floor.result c.greatest_floor-floor.ensures c.set_floor.new.self c.set_floor.result set.adds set.lawful set.unchanged in
    let floor = ap (λ (s : State). s.floor) (solo_state _ _ r.0 raised.mid _ _ raised.is) ∙ sym raised.told in
    subst (λ n. All (λ (x : Contents). x.floor ≡ n) c.sweep_shards.new.shards.items) floor c.in_ok-sweep_shards.ensures.swept

pub returns-clause-once : goal.returns-clause-once
returns-clause-once g c = λ _ by h is.
    let set = c.set_floor.ensures in
    let raised = solo_raised (HasWindow g.W.Indexed.keys_in g.W.Indexed.IsWorkOf c.args.self.now.settings) _ by h _ _ is c.greatest_floor-floor.result c.greatest_floor-floor.ensures c.set_floor.new.self c.set_floor.result set.adds set.lawful set.unchanged in
    let stands = solo_applies (HasWindow g.W.Indexed.keys_in g.W.Indexed.IsWorkOf) _ by raised.mid _ _ c.sweep_shards.new.shards.items raised.is c.sweep_shards.ensures.stand in
    raised_once _ _ by h _ _ _ raised stands

pub returns-in_err-sweep_shards-clause-once : goal.returns-in_err-sweep_shards-clause-once
returns-in_err-sweep_shards-clause-once g c = λ _ by h is.
    let set = c.set_floor.ensures in
    let raised = solo_raised (HasWindow g.W.Indexed.keys_in g.W.Indexed.IsWorkOf c.args.self.now.settings) _ by h _ _ is c.greatest_floor-floor.result c.greatest_floor-floor.ensures c.set_floor.new.self c.set_floor.result set.adds set.lawful set.unchanged in
    let stands = solo_applies (HasWindow g.W.Indexed.keys_in g.W.Indexed.IsWorkOf) _ by raised.mid _ _ c.sweep_shards.new.shards.items raised.is c.sweep_shards.ensures.stand in
    raised_once _ _ by h _ _ _ raised stands

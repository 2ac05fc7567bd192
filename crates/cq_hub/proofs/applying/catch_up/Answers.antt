use Rattle.std.proofs.Common.{◌∙◌, ℕ, List, Option, Global, length, sym, ap, subst, arith}
use Rattle.std.proofs.lemmas.List.{length-set, get_or-set_other}
use Rattle.std.specs.declared.sync.Arc.{Arc}
use Rattle.cq_history.specs.State.{changes_in}
use Rattle.cq_shard.specs.Shard.{HasWindow, HaveTheirWorks, IsOwnedOf, in_owned, all_brought}
use Rattle.cq_hub.specs.Shards.{IsShardOf}
use Rattle.cq_hub.proofs.ShardSteps.{shard_applied}
use Rattle.cq_hub.proofs.applying.catch_up.Goals as goal

pub turn_to-requires-clause-floor : goal.turn_to-requires-clause-floor
turn_to-requires-clause-floor g c = let low = c.requires.floor in let reached = c.requires.shard.reached in let here = c.applied.ensures in omega (arith, low, reached.0, here)

pub index_mut-requires : goal.index_mut-requires
index_mut-requires g c =
    let lists = (c.in_ok-turn_to.ensures.coming c.args.i c.requires.coming).lists in
    let within = c.requires.within in
    omega (arith, lists, within)

pub apply_all-requires-clause-room : goal.apply_all-requires-clause-room
apply_all-requires-clause-room g c =
    let room = (c.in_ok-turn_to.ensures.coming c.args.i c.requires.coming).room in
    let from = c.in_ok-turn_to.ensures.from in
    let here = c.applied.ensures in
    let same = ap length c.deref.ensures.value in
    omega (arith, room, from, here, same)

pub apply_all-requires-clause-part : goal.apply_all-requires-clause-part
apply_all-requires-clause-part g c =
    let is = c.in_ok-turn_to.ensures.coming c.args.i c.requires.coming in
    let i = c.args.i in
    let shard = c.args.shard.now in
    let within = c.requires.within in
    let brought : ℕ → ℕ → ℕ → List (Option (Arc _ Global)) → _ = λ from n shards works. all_brought (in_owned g.W.Indexed.keys_in) from n shards works in
    ap (λ part. part.items) (c.replace-part.ensures.value ∙ c.index_mut.ensures.value)
    ∙ is.parts i c.index_mut.result.now (omega arith) within
    ∙ ap (λ from. brought from i c.args.board.now.settings.shards c.turn_to.new.self.works.items) (c.in_ok-turn_to.ensures.from ∙ c.applied.ensures)
    ∙ ap (λ n. brought shard.applied n c.args.board.now.settings.shards c.turn_to.new.self.works.items) (sym c.requires.shard.number_is)
    ∙ ap (λ n. brought shard.applied shard.shard n c.turn_to.new.self.works.items) (sym c.requires.shard.shards)
    ∙ ap (brought shard.applied shard.shard shard.shards) (sym c.deref.ensures.value)

pub returns-clause-shard : goal.returns-clause-shard
returns-clause-shard g c =
    let b = c.args.board.now in
    let is = c.in_ok-turn_to.ensures.coming c.args.i c.requires.coming in
    let number = is.number in
    let done = is.done in
    let from = c.in_ok-turn_to.ensures.from in
    let here = c.applied.ensures in
    let more = c.in_ok-apply_all.ensures.applied in
    let kept = c.in_ok-apply_all.ensures.kept in
    let same = ap length c.deref.ensures.value in
    let theirs : HaveTheirWorks (IsOwnedOf g.W.Indexed.IsWorkOf b.settings) (changes_in b.state) c.args.shard.now.applied c.deref.result.now =
    subst (HaveTheirWorks (IsOwnedOf g.W.Indexed.IsWorkOf b.settings) (changes_in b.state) c.args.shard.now.applied) (sym c.deref.ensures.value)
    (subst (λ from. HaveTheirWorks (IsOwnedOf g.W.Indexed.IsWorkOf b.settings) (changes_in b.state) from c.turn_to.new.self.works.items) (from ∙ here) is.works) in
    shard_applied (HasWindow g.W.Indexed.keys_in g.W.Indexed.IsWorkOf b.settings) b c.args.i c.args.shard.now c.apply_all.new.self
    (λ low. omega (arith, low, number, from, here, more, same, done)) (omega (arith, more)) kept.0 kept.1 kept.2
    (λ held. c.in_ok-apply_all.ensures.stands b.settings (changes_in b.state) held theirs) c.requires.shard

pub returns-in_err-apply_all-clause-shard : goal.returns-in_err-apply_all-clause-shard
returns-in_err-apply_all-clause-shard g c =
    let b = c.args.board.now in
    subst (IsShardOf (HasWindow g.W.Indexed.keys_in g.W.Indexed.IsWorkOf b.settings) b c.args.i) (sym c.in_err-apply_all.ensures.same) c.requires.shard

pub returns-clause-coming : goal.returns-clause-coming
returns-clause-coming g c =
    let is = c.in_ok-turn_to.ensures.coming c.args.i c.requires.coming in
    let parts = c.turn_to.new.self.parts.items in
    let part = c.replace-part.new.dest in
    record {
      done = is.done;
      some = is.some;
      number = is.number;
      room = is.room;
      works = is.works;
      lists = length-set parts c.args.i part ∙ is.lists;
      parts = λ n d above lt.
          ap (λ part. part.items) (get_or-set_other parts c.args.i n part d (λ e. omega (arith, e, above)))
          ∙ is.parts n d (omega (arith, above)) lt;
    }

pub returns-clause-applied : goal.returns-clause-applied
returns-clause-applied g c =
    let number = (c.in_ok-turn_to.ensures.coming c.args.i c.requires.coming).number in
    let from = c.in_ok-turn_to.ensures.from in
    let to = c.in_ok-turn_to.ensures.to in
    let here = c.applied.ensures in
    let more = c.in_ok-apply_all.ensures.applied in
    let same = ap length c.deref.ensures.value in
    omega (arith, number, from, to, here, more, same)

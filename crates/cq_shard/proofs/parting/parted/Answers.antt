use Rattle.std.proofs.Common.{◌≡◌, ℕ, ◌+◌, ◌++◌, List, Global, Option, Some, None, ◌∷◌, [], append-nil, drop, map, get_or, sym, ap, ◌∙◌, subst, arith}
use Rattle.std.proofs.lemmas.List.{drop_more, drop_all, length-map, get_or-map}
use Rattle.std.specs.Arc.{arc_value}
use Rattle.std.specs.declared.sync.Arc.{Arc}
use Rattle.cq_base.specs.declared.entry.Entry.{Entry}
use Rattle.cq_shard.specs.Shard.{in_owned, entries_of, brought, all_brought}
use Rattle.cq_shard.specs.Parts.{AreBegun}
use Rattle.cq_shard.proofs.parting.parted.Goals as goal
use Rattle.cq_shard.proofs.parting.parted.Goals.{in-Some+in_ok-part, in_default}

pub loop-work-preserved : goal.loop-work-preserved
loop-work-preserved g c =
    let keys_in = λ (w : Arc _ Global). g.W.Indexed.keys_in (arc_value w) in
    let works = c.args.works.now in
    let i = c.loop-work.work-index in
    let change = c.loop-work.change in
    let item = c.work-item.result in
    let next = drop_more works i item c.loop-work-test.true in
    let all : ℕ → List Entry = λ n. all_brought keys_in c.args.applied n c.args.shards works in
    let rest : ℕ → List Entry = λ n. all_brought keys_in (change + 1) n c.args.shards (drop (i + 1) works) in
    let all_of : (work : Option (Arc _ Global)) → item ≡ work → AreBegun c.args.shards (λ n. brought keys_in (change + 1) n c.args.shards work ++ rest n) all (map (λ part. part.items) c.loop-work.parts.items) = λ work is.
    subst (λ (ws : List (Option (Arc _ Global))). AreBegun c.args.shards (λ n. all_brought keys_in change n c.args.shards ws) all (map (λ part. part.items) c.loop-work.parts.items)) (next ∙ ap (λ o. o ∷ drop (i + 1) works) (sym c.work-item.is ∙ is)) c.loop-work.invariant.begun in
    record {
      change = omega (arith, c.loop-work.invariant.change);
      begun = elim c.match-work.branch [
        | in-Some+in_ok-part w ↦ subst (AreBegun c.args.shards rest all) (ap (λ v. map (λ part. part.items) v.items) (sym w.parts-is)) (w.in_ok-part.ensures rest all
            (subst (λ (keys : List ℕ). AreBegun c.args.shards (λ n. entries_of (change + 1) n c.args.shards 0 keys ++ rest n) all (map (λ part. part.items) c.loop-work.parts.items)) (sym (w.keys.ensures ∙ ap g.W.Indexed.keys_in w.deref.ensures)) (all_of (Some w.in-Some.work) w.in-Some.is)))
        | in_default w ↦ subst (AreBegun c.args.shards rest all) (ap (λ v. map (λ part. part.items) v.items) (sym w.parts-is)) (all_of None w.in_default.is)
      ];
    }

pub returns : goal.returns
returns g c =
    let parts = c.loop-work.parts.items in
    let begun = c.loop-work.invariant.begun in
    let number = begun.number_is in
    let same = length-map parts (λ part. part.items) in
    record {
      number_is = omega (arith, number, same);
      each = λ n d lt.
          sym (get_or-map (λ part. part.items) parts n d [] (omega (arith, lt, number, same)))
          ∙ sym (append-nil (get_or (map (λ part. part.items) parts) n []))
          ∙ subst (λ (ws : List (Option (Arc _ Global))). get_or (map (λ part. part.items) parts) n [] ++ all_brought (in_owned g.W.Indexed.keys_in) c.loop-work.change n c.args.shards ws ≡ all_brought (in_owned g.W.Indexed.keys_in) c.args.applied n c.args.shards c.args.works.now) (drop_all c.loop-work.work-index c.args.works.now c.loop-work-test.false) (begun.each n [] lt);
    }

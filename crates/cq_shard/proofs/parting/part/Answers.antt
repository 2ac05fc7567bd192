use Rattle.std.proofs.Common.{◌≡◌, ℕ, ◌+◌, ◌<◌, ◌%◌, List, [], ◌∷◌, ◌++◌, drop, map, length, get_or, set, sym, ap, ◌∙◌, subst, arith}
use Rattle.std.proofs.lemmas.List.{drop_more, drop_all, length-set, map-set, get_or-map}
use Rattle.std.proofs.lemmas.Nat.{mod_below}
use Rattle.cq_base.specs.declared.entry.Entry.{Entry}
use Rattle.cq_shard.specs.Shard.{entries_of}
use Rattle.cq_shard.specs.Parts.{AreBegun}
use Rattle.cq_shard.proofs.Begun.{begun_more}
use Rattle.cq_shard.proofs.parting.part.Goals as goal

pub loop-at-preserved : goal.loop-at-preserved
loop-at-preserved c =
    let keys = c.args.keys.now in
    let at = c.loop-at.at in
    let shards = c.args.shards in
    let parts = c.loop-at.parts.items in
    let mine = c.remainder-shard.result in
    let key : ℕ = get_or keys at 0 in
    let number = c.loop-at.invariant.number in
    let e : Entry = record { key = key; change = c.args.change; at = at } in
    let is : mine ≡ key % shards = c.remainder-shard.ensures ∙ ap (λ n. key % n) c.from-number.ensures in
    let within : mine < length parts = let low = mod_below key shards c.requires.some in omega (arith, is, low, number) in
    let more : map (λ part. part.items) (set parts mine c.push.new.self) ≡ set (map (λ part. part.items) parts) (key % shards) (get_or (map (λ part. part.items) parts) (key % shards) [] ++ e ∷ []) =
    map-set (λ part. part.items) parts mine c.push.new.self
    ∙ ap (set (map (λ part. part.items) parts) mine) (c.in_ok-push.ensures.items ∙ ap (λ (es : List Entry). es ++ e ∷ []) (ap (λ part. part.items) c.index_mut.ensures.value ∙ sym (get_or-map (λ part. part.items) parts mine c.index_mut.result.now [] within)))
    ∙ ap (λ n. set (map (λ part. part.items) parts) n (get_or (map (λ part. part.items) parts) n [] ++ e ∷ [])) is in
    record {
      number = length-set parts mine c.push.new.self ∙ number;
      begun = λ rest all are. begun_more shards all c.args.change at key (drop (at + 1) keys) rest (map (λ part. part.items) parts) _ c.requires.some more
          (subst (λ (ks : List ℕ). AreBegun shards (λ n. entries_of c.args.change n shards at ks ++ rest n) all (map (λ part. part.items) parts)) (drop_more keys at 0 c.loop-at-test.true) (c.loop-at.invariant.begun rest all are));
    }

pub returns : goal.returns
returns c = λ rest all are.
    subst (λ (ks : List ℕ). AreBegun c.args.shards (λ n. entries_of c.args.change n c.args.shards c.loop-at.at ks ++ rest n) all (map (λ part. part.items) c.loop-at.parts.items)) (drop_all c.loop-at.at c.args.keys.now c.loop-at-test.false)
    (c.loop-at.invariant.begun rest all are)

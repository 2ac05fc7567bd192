use Rattle.std.proofs.Common.{List, sym, subst}
use Rattle.cq_base.specs.declared.entry.Entry.{Entry}
use Rattle.cq_shard.specs.Shard.{AreAsked}
use Rattle.cq_shard.specs.Stores.{Stored, those_of}
use Rattle.cq_shard.proofs.Storing.{those_all, asked_those}
use Rattle.cq_shard.proofs.store.Store.bucket.Goals as goal

pub returns-then-self-eq0 : goal.returns-then-self-eq0
returns-then-self-eq0 c =
    let s = c.self.inside in
    let key = c.args.key in
    let live = c.args.live.now in
    let bucket = c.in_ok-bucket.bucket.items in
    subst (λ (v : Stored). AreAsked key live v.entries bucket) c.self.view_is
    (subst (λ (es : List Entry). AreAsked key live es bucket) (sym (those_all s.table s.runs (c.self.invariant.whole c.if-self-eq0.true))) c.in_ok-bucket.ensures)

pub returns : goal.returns
returns c =
    let s = c.self.inside in
    let key = c.args.key in
    let live = c.args.live.now in
    subst (λ (v : Stored). AreAsked key live v.entries c.keep.new.entries.items) c.self.view_is
    (subst (AreAsked key live (those_of s.table s.runs)) (sym c.keep.ensures) (asked_those key live s.table s.runs c.in_ok-bucket.bucket.items c.in_ok-bucket.ensures))

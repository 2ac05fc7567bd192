use Rattle.std.proofs.Common.{◌≡◌, ◌+◌, ◌∙◌, ◌++◌, ℕ, List, length, sym, ap, subst, subst₂}
use Rattle.std.specs.Prelude.{AllPairs}
use Rattle.std.specs.Arc.{arc_value}
use Rattle.cq_base.specs.declared.entry.Entry.{Entry}
use Rattle.cq_clones.specs.Windows.{EntryBefore}
use Rattle.cq_shard.specs.Runs.{AreAdded}
use Rattle.cq_shard.specs.Shard.{Contents, IsShard, StandsFor, HaveTheirWorks, HasWindow, IsOwnedOf, in_owned, puts_among, all_brought_to}
use Rattle.cq_shard.specs.Stores.{AreNext}
use Rattle.cq_shard.proofs.Standing.{work_windows}
use Rattle.cq_shard.proofs.Works.{up_to, puts_next, all_is_shard, all_stand, all_ordered}
use Rattle.cq_shard.proofs.shard.Shard.apply_all.Goals as goal

pub add-requires-clause-ordered : goal.add-requires-clause-ordered
add-requires-clause-ordered g c =
    let old = c.args.self.now in
    subst (AllPairs EntryBefore) (sym c.requires.part) (all_ordered (in_owned g.W.Indexed.keys_in) old.shard old.shards old.applied c.args.works.now)

pub add-requires-clause-next : goal.add-requires-clause-next
add-requires-clause-next g c =
    let s = c.self.inside in
    let part = subst (λ (v : Contents). c.args.part.items ≡ all_brought_to g.W.Indexed.keys_in v c.args.works.now) (sym c.self.view_is) c.requires.part in
    let was : c.applied-before.result ≡ s.store.applied = c.applied-before.ensures in
    let puts : c.deref.result.now ≡ puts_among s.store.applied c.args.works.now = c.deref.ensures.value ∙ c.in_ok-puts.ensures ∙ ap (λ n. puts_among n c.args.works.now) was in
    subst (λ a. AreNext s.store (a + length c.args.works.now) c.deref.result.now c.args.part.items) (sym was)
    (subst₂ (λ ns es. AreNext s.store (s.store.applied + length c.args.works.now) ns es) (sym puts) (sym part)
    (puts_next (in_owned g.W.Indexed.keys_in) s.store s.shard s.shards c.self.invariant.rising c.self.invariant.noted c.args.works.now))

pub invariant_of-self-2 : goal.invariant_of-self-2
invariant_of-self-2 g c =
    let s = c.self.inside in
    let own : Contents = record { shard = s.shard; shards = s.shards; applied = s.store.applied; floor = s.floor; puts = s.store.puts; entries = s.store.entries } in
    let part = subst (λ (v : Contents). c.args.part.items ≡ all_brought_to g.W.Indexed.keys_in v c.args.works.now) (sym c.self.view_is) c.requires.part in
    let was : c.applied-before.result ≡ s.store.applied = c.applied-before.ensures in
    let last : s.store.applied + length c.args.works.now ≡ c.add.new.self.applied = ap (λ n. n + length c.args.works.now) (sym was) ∙ sym c.in_ok-add.ensures.applied in
    let noted : s.store.puts ++ puts_among s.store.applied c.args.works.now ≡ c.add.new.self.puts =
    ap (λ (ns : List ℕ). s.store.puts ++ ns) (ap (λ n. puts_among n c.args.works.now) (sym was) ∙ sym c.in_ok-puts.ensures ∙ sym c.deref.ensures.value) ∙ sym c.in_ok-add.ensures.noted in
    subst₂ (λ (a : ℕ) (ns : List ℕ). IsShard (up_to own a ns c.add.new.self.entries)) last noted
    (all_is_shard (in_owned g.W.Indexed.keys_in) own c.args.works.now c.add.new.self.entries c.self.invariant
    (subst (λ (es : List Entry). AreAdded s.store.entries es c.add.new.self.entries) part c.in_ok-add.ensures.added))

pub returns-clause-stands : goal.returns-clause-stands
returns-clause-stands g c settings changes stands theirs =
    let s = c.self.inside in
    let own : Contents = record { shard = s.shard; shards = s.shards; applied = s.store.applied; floor = s.floor; puts = s.store.puts; entries = s.store.entries } in
    let part = subst (λ (v : Contents). c.args.part.items ≡ all_brought_to g.W.Indexed.keys_in v c.args.works.now) (sym c.self.view_is) c.requires.part in
    let was : c.applied-before.result ≡ s.store.applied = c.applied-before.ensures in
    let last : s.store.applied + length c.args.works.now ≡ c.add.new.self.applied = ap (λ n. n + length c.args.works.now) (sym was) ∙ sym c.in_ok-add.ensures.applied in
    let noted : s.store.puts ++ puts_among s.store.applied c.args.works.now ≡ c.add.new.self.puts =
    ap (λ (ns : List ℕ). s.store.puts ++ ns) (ap (λ n. puts_among n c.args.works.now) (sym was) ∙ sym c.in_ok-puts.ensures ∙ sym c.deref.ensures.value) ∙ sym c.in_ok-add.ensures.noted in
    subst₂ (λ (a : ℕ) (ns : List ℕ). StandsFor (HasWindow g.W.Indexed.keys_in g.W.Indexed.IsWorkOf settings) changes (up_to own a ns c.add.new.self.entries)) last noted
    (all_stand (HasWindow g.W.Indexed.keys_in g.W.Indexed.IsWorkOf settings) (in_owned g.W.Indexed.keys_in) (IsOwnedOf g.W.Indexed.IsWorkOf settings) changes
    (λ lang text w h. work_windows g.W.Indexed.keys_in g.W.Indexed.IsWorkOf settings lang text (arc_value w) (λ other also. g.met.W.Indexed.determined settings lang text other (arc_value w) also h) h)
    (c.applying_adds_its_rows.ensures settings)
    own c.args.works.now c.add.new.self.entries (subst (λ (es : List Entry). AreAdded s.store.entries es c.add.new.self.entries) part c.in_ok-add.ensures.added) c.self.invariant
    (subst (StandsFor (HasWindow g.W.Indexed.keys_in g.W.Indexed.IsWorkOf settings) changes) (sym c.self.view_is) stands)
    (subst (λ (v : Contents). HaveTheirWorks (IsOwnedOf g.W.Indexed.IsWorkOf settings) changes v.applied c.args.works.now) (sym c.self.view_is) theirs))

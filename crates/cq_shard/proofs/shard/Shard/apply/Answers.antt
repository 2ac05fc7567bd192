use Rattle.std.proofs.Common.{◌≡◌, ◌+◌, ◌∙◌, ◌++◌, ℕ, List, refl, sym, ap, subst, subst₂, option_copied}
use Rattle.cq_history.specs.Changes.{change_at}
use Rattle.cq_shard.specs.Runs.{AreAdded}
use Rattle.cq_shard.specs.Shard.{Contents, IsShard, StandsFor, HasItsWork, HasWindow, brought, put_of}
use Rattle.cq_shard.proofs.Standing.{brought_is_shard, brought_stands, work_windows}
use Rattle.cq_shard.proofs.Works.{up_to}
use Rattle.cq_shard.proofs.shard.Shard.apply.Goals as goal

pub invariant_of-self-2 : goal.invariant_of-self-2
invariant_of-self-2 g c =
    let s = c.self.inside in
    let own : Contents = record { shard = s.shard; shards = s.shards; applied = s.store.applied; floor = s.floor; puts = s.store.puts; entries = s.store.entries } in
    let next : s.store.applied + 1 ≡ c.args.change = ap (λ (v : Contents). v.applied + 1) c.self.view_is ∙ sym c.requires.next in
    let added : AreAdded s.store.entries (brought g.W.Indexed.keys_in (s.store.applied + 1) s.shard s.shards (option_copied c.args.work)) c.add_work.new.store.entries =
    subst (λ (n : ℕ). AreAdded s.store.entries (brought g.W.Indexed.keys_in n s.shard s.shards (option_copied c.args.work)) c.add_work.new.store.entries) (sym next) c.in_ok-add_work.ensures.added in
    let noted = ap (λ (n : ℕ). s.store.puts ++ put_of n (option_copied c.args.work)) next ∙ sym c.in_ok-add_work.ensures.noted in
    subst₂ (λ (a : ℕ) (ns : List ℕ). IsShard (up_to own a ns c.add_work.new.store.entries)) (next ∙ sym c.in_ok-add_work.ensures.applied) noted
    (brought_is_shard g.W.Indexed.keys_in own (option_copied c.args.work) c.add_work.new.store.entries c.self.invariant added)

pub returns-clause-stands : goal.returns-clause-stands
returns-clause-stands g c settings changes stands of =
    let s = c.self.inside in
    let own : Contents = record { shard = s.shard; shards = s.shards; applied = s.store.applied; floor = s.floor; puts = s.store.puts; entries = s.store.entries } in
    let next : s.store.applied + 1 ≡ c.args.change = ap (λ (v : Contents). v.applied + 1) c.self.view_is ∙ sym c.requires.next in
    let added : AreAdded s.store.entries (brought g.W.Indexed.keys_in (s.store.applied + 1) s.shard s.shards (option_copied c.args.work)) c.add_work.new.store.entries =
    subst (λ (n : ℕ). AreAdded s.store.entries (brought g.W.Indexed.keys_in n s.shard s.shards (option_copied c.args.work)) c.add_work.new.store.entries) (sym next) c.in_ok-add_work.ensures.added in
    let noted = ap (λ (n : ℕ). s.store.puts ++ put_of n (option_copied c.args.work)) next ∙ sym c.in_ok-add_work.ensures.noted in
    subst₂ (λ (a : ℕ) (ns : List ℕ). StandsFor (HasWindow g.W.Indexed.keys_in g.W.Indexed.IsWorkOf settings) changes (up_to own a ns c.add_work.new.store.entries)) (next ∙ sym c.in_ok-add_work.ensures.applied) noted
    (brought_stands (HasWindow g.W.Indexed.keys_in g.W.Indexed.IsWorkOf settings) g.W.Indexed.keys_in (g.W.Indexed.IsWorkOf settings) changes own (change_at changes (s.store.applied + 1)) (option_copied c.args.work) c.add_work.new.store.entries added
    (λ lang text w h. work_windows g.W.Indexed.keys_in g.W.Indexed.IsWorkOf settings lang text w (λ other also. g.met.W.Indexed.determined settings lang text other w also h) h)
    c.self.invariant.passed
    (c.applying_adds_its_rows.ensures settings s.shards changes s.shard s.store.applied s.floor c.self.invariant.passed)
    (subst (StandsFor (HasWindow g.W.Indexed.keys_in g.W.Indexed.IsWorkOf settings) changes) (sym c.self.view_is) stands)
    refl
    (subst (λ (n : ℕ). HasItsWork (g.W.Indexed.IsWorkOf settings) (change_at changes n) (option_copied c.args.work)) (sym next) of))

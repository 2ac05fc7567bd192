use Rattle.std.proofs.Common.{◌≤◌, ◌++◌, List, ℕ, sym, ap, ◌∙◌, subst}
use Rattle.cq_base.specs.declared.entry.Entry.{Entry}
use Rattle.cq_shard.specs.Runs.{AreAdded}
use Rattle.cq_shard.specs.Stores.{Stored, stored, those_of, AreNext, IsStore}
use Rattle.cq_shard.specs.Tables.{no_later}
use Rattle.cq_shard.proofs.Leaving.{cut_back}
use Rattle.cq_shard.proofs.Storing.{stored_added, store_added, store_less, rows_precede}
use Rattle.cq_shard.proofs.store.Store.add.Goals as goal

pub put-requires-clause-rows : goal.put-requires-clause-rows
put-requires-clause-rows g c =
    let s = c.self.inside in
    let less = c.cleared-self-inside in
    let puts = c.args.puts.now in
    let entries = c.args.entries.items in
    let next = subst (λ (v : Stored). AreNext v c.args.applied puts entries) (sym c.self.view_is) c.requires.next in
    let is = store_less s.applied s.table s.runs less.new.runs s.gone less.result c.self.invariant less.ensures.fewer (less.ensures.different c.self.invariant.different) less.ensures.none in
    rows_precede s.applied c.args.applied s.table puts less.new.runs entries s.runs less.result is next

pub put-requires-clause-rising : goal.put-requires-clause-rising
put-requires-clause-rising g c = (subst (λ (v : Stored). AreNext v c.args.applied c.args.puts.now c.args.entries.items) (sym c.self.view_is) c.requires.next).rising

pub invariant_of-self : goal.invariant_of-self
invariant_of-self g c =
    let s = c.self.inside in
    let less = c.cleared-self-inside in
    let puts = c.args.puts.now in
    let entries = c.args.entries.items in
    let further = subst (λ (v : Stored). v.applied ≤ c.args.applied) (sym c.self.view_is) c.requires.further in
    let next = subst (λ (v : Stored). AreNext v c.args.applied puts entries) (sym c.self.view_is) c.requires.next in
    let is = store_less s.applied s.table s.runs less.new.runs s.gone less.result c.self.invariant less.ensures.fewer (less.ensures.different c.self.invariant.different) less.ensures.none in
    subst (λ (ns : List ℕ). IsStore c.args.applied ns c.put.new.runs less.result) (sym c.in-Ok.ensures.noted)
    (store_added s.applied c.args.applied s.table puts less.new.runs entries s.runs less.result is next c.put.new.runs c.in-Ok.ensures.added further)

pub returns-in-Ok-clause-noted : goal.returns-in-Ok-clause-noted
returns-in-Ok-clause-noted g c = c.in-Ok.ensures.noted ∙ ap (λ (v : Stored). v.puts ++ c.args.puts.now) c.self.view_is

pub returns-in-Ok-clause-added : goal.returns-in-Ok-clause-added
returns-in-Ok-clause-added g c =
    let s = c.self.inside in
    let less = c.cleared-self-inside in
    let puts = c.args.puts.now in
    let entries = c.args.entries.items in
    let next = subst (λ (v : Stored). AreNext v c.args.applied puts entries) (sym c.self.view_is) c.requires.next in
    let is = store_less s.applied s.table s.runs less.new.runs s.gone less.result c.self.invariant less.ensures.fewer (less.ensures.different c.self.invariant.different) less.ensures.none in
    let new = those_of c.put.new.table c.put.new.runs in
    subst (λ (v : Stored). AreAdded v.entries entries new) c.self.view_is
    (subst (λ (es : List Entry). AreAdded es entries new) less.ensures.those
    (subst (λ (ns : List ℕ). AreAdded (those_of s.table less.new.runs) entries (those_of ns c.put.new.runs)) (sym c.in-Ok.ensures.noted)
    (stored_added s.applied c.args.applied s.table puts less.new.runs entries s.runs less.result is next c.put.new.runs c.in-Ok.ensures.added)))

pub invariant_of-self-in-Err : goal.invariant_of-self-in-Err
invariant_of-self-in-Err g c =
    let s = c.self.inside in
    let less = c.cleared-self-inside in
    let puts = c.args.puts.now in
    let next = subst (λ (v : Stored). AreNext v c.args.applied puts c.args.entries.items) (sym c.self.view_is) c.requires.next in
    let is = store_less s.applied s.table s.runs less.new.runs s.gone less.result c.self.invariant less.ensures.fewer (less.ensures.different c.self.invariant.different) less.ensures.none in
    let grown = c.put.ensures.grown in
    let same = c.cut.ensures ∙ ap (no_later s.applied) grown.is ∙ cut_back s.table puts s.applied grown.many c.self.invariant.known next.later in
    subst (λ (ns : List ℕ). IsStore s.applied ns c.put.new.runs less.result) (sym same)
    (subst (λ (es : List Entry). IsStore s.applied s.table es less.result) (sym c.in-Err.ensures.same) is)

pub returns-in-Err-clause-same : goal.returns-in-Err-clause-same
returns-in-Err-clause-same g c =
    let s = c.self.inside in
    let less = c.cleared-self-inside in
    let puts = c.args.puts.now in
    let next = subst (λ (v : Stored). AreNext v c.args.applied puts c.args.entries.items) (sym c.self.view_is) c.requires.next in
    let grown = c.put.ensures.grown in
    let same = c.cut.ensures ∙ ap (no_later s.applied) grown.is ∙ cut_back s.table puts s.applied grown.many c.self.invariant.known next.later in
    ap (λ (ns : List ℕ). stored s.applied ns c.put.new.runs) same
    ∙ ap (λ (es : List Entry). stored s.applied s.table es) c.in-Err.ensures.same
    ∙ ap (λ (es : List Entry). let v : Stored = record { applied = s.applied; puts = s.table; entries = es } in v) less.ensures.those
    ∙ c.self.view_is

use Rattle.std.proofs.Common.{◌≡◌, ℕ, List, sym, subst, ◌∙◌, arith}
use Rattle.cq_base.specs.declared.entry.Entry.{Entry}
use Rattle.cq_shard.specs.Stores.{Stored, those_of, IsStore}
use Rattle.cq_shard.specs.Tables.{AreAmong}
use Rattle.cq_shard.proofs.Storing.{store_marked, store_cleared, left_marked, left_cleared}
use Rattle.cq_shard.proofs.store.Store.sweep.Goals as goal

pub invariant_of-self : goal.invariant_of-self
invariant_of-self c =
    let s = c.self.inside in
    let taken = c.take_out-went in
    let gone = c.saturating_add-self-inside.result in
    let sum = c.saturating_add-self-inside.ensures in
    subst (λ (ns : List ℕ). IsStore s.applied ns s.runs gone) (sym taken.ensures.left)
    (store_marked s.applied c.args.floor c.args.keep.now s.table s.runs s.gone gone c.self.invariant (λ none.
    let most = c.max.ensures in
    let nothing : taken.result.0 ≡ 0 = omega (arith, sum, most, none) in
    (omega (arith, sum, none), sym taken.ensures.left ∙ taken.ensures.none nothing)))

pub invariant_of-self-2 : goal.invariant_of-self-2
invariant_of-self-2 c =
    let s = c.self.inside in
    let taken = c.take_out-went in
    subst (λ (es : List Entry). IsStore s.applied taken.new.self es 0) (sym c.keep.ensures)
    (subst (λ (ns : List ℕ). IsStore s.applied ns (those_of ns s.runs) 0) (sym taken.ensures.left)
    (store_cleared s.applied c.args.floor c.args.keep.now s.table s.runs s.gone c.self.invariant))

pub returns-then-self : goal.returns-then-self
returns-then-self c =
    let s = c.self.inside in
    let taken = c.take_out-went in
    left_marked s.applied c.args.floor c.args.keep.now s.table taken.new.self s.runs c.args.self.now c.self.view_is taken.ensures.left

pub returns : goal.returns
returns c =
    let s = c.self.inside in
    let taken = c.take_out-went in
    left_cleared s.applied c.args.floor c.args.keep.now s.table taken.new.self s.runs c.keep.new.self c.args.self.now c.self.view_is taken.ensures.left c.keep.ensures

pub take_out-went-requires-clause-known : goal.take_out-went-requires-clause-known
take_out-went-requires-clause-known c = subst (λ (v : Stored). AreAmong c.args.keep.now v.puts) (sym c.self.view_is) c.requires.known

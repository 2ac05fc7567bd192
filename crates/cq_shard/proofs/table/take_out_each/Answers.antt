use Rattle.std.proofs.Common.{◌≡◌, ◌<◌, ℕ, List, length, take, set, sym, ap, ◌∙◌, refl, rules, subst, arith}
use Rattle.std.specs.List.Sorted.{IsStrictlyIncreasing}
use Rattle.std.proofs.lemmas.List.{length-drop, length-set, set-get_or}
use Rattle.cq_order.proofs.InPlace.{in_place_read, in_place_set, in_place_all}
use Rattle.cq_shard.specs.declared.table.Block.{Block}
use Rattle.cq_shard.specs.Blocks.{with_puts}
use Rattle.cq_shard.specs.Tables.{AreAmongOrAbove, IsUpTo, last_in, staying}
use Rattle.cq_shard.proofs.Finding.{whole_rest}
use Rattle.cq_shard.proofs.Taking.{rising_rest}
use Rattle.cq_shard.proofs.TakingOut.{rest_first, rest_here, rest_next, staying_here}
use Rattle.cq_shard.proofs.table.take_out_each.Goals as goal

pub taking-init : goal.taking-init
taking-init c = record {
  number = refl;
  left = search rules;
  within = omega arith;
  rest = rest_first c.args.blocks.now.items c.args.keep.now c.requires.known;
  none = λ zero. refl;
}

pub take_out_of-out-requires-clause-some : goal.take_out_of-out-requires-clause-some
take_out_of-out-requires-clause-some c =
    let f = with_puts (staying c.args.floor c.args.keep.now) in
    let old = c.args.blocks.now.items in
    let i = c.taking.i in
    let b = c.index_mut.result.now in
    let within : i < length old = (let number = c.taking.invariant.number in let lt = c.taking-test.true in omega (arith, lt, number)) in
    let read = c.index_mut.ensures.value ∙ in_place_read f old c.taking.blocks.items i b within c.taking.invariant.left in
    subst (λ (x : Block). 0 < length x.puts) (sym read) (c.requires.table.some i b within)

pub take_out_of-out-requires-clause-keep : goal.take_out_of-out-requires-clause-keep
take_out_of-out-requires-clause-keep c = subst IsStrictlyIncreasing (sym (whole_rest c.args.keep.now c.taking.kept)) (rising_rest c.args.keep.now c.taking.kept c.requires.keep)

pub take_out_of-out-requires-clause-known : goal.take_out_of-out-requires-clause-known
take_out_of-out-requires-clause-known c =
    let f = with_puts (staying c.args.floor c.args.keep.now) in
    let old = c.args.blocks.now.items in
    let keep = c.args.keep.now in
    let i = c.taking.i in
    let kept = c.taking.kept in
    let b = c.index_mut.result.now in
    let within : i < length old = (let number = c.taking.invariant.number in let lt = c.taking-test.true in omega (arith, lt, number)) in
    let read = c.index_mut.ensures.value ∙ in_place_read f old c.taking.blocks.items i b within c.taking.invariant.left in
    subst (λ (ns : List ℕ). AreAmongOrAbove ns b.puts) (sym (whole_rest keep kept)) (rest_here old keep c.requires.table.rising c.requires.keep i kept b within read c.taking.invariant.rest)

pub overflow_add-kept : goal.overflow_add-kept
overflow_add-kept c =
    let most = c.take_out_of-out.ensures.within in
    let long = ap length (whole_rest c.args.keep.now c.taking.kept) in
    let rest = length-drop c.taking.kept c.args.keep.now in
    let fits = c.taking.invariant.within in
    omega (arith, most, long, rest, fits)

pub taking-preserved : goal.taking-preserved
taking-preserved c =
    let floor = c.args.floor in
    let keep = c.args.keep.now in
    let f = with_puts (staying floor keep) in
    let old = c.args.blocks.now.items in
    let blocks = c.taking.blocks.items in
    let i = c.taking.i in
    let kept = c.taking.kept in
    let b = c.index_mut.result.now in
    let out = c.take_out_of-out in
    let k = out.result.kept in
    let within : i < length old = (let number = c.taking.invariant.number in let lt = c.taking-test.true in omega (arith, lt, number)) in
    let read = c.index_mut.ensures.value ∙ in_place_read f old blocks i b within c.taking.invariant.left in
    let some = subst (λ (x : Block). 0 < length x.puts) (sym read) (c.requires.table.some i b within) in
    let up_to = subst (λ (ns : List ℕ). IsUpTo ns (last_in b.puts) k) (whole_rest keep kept) out.ensures.kept in
    let next = rest_next old keep c.requires.table.rising c.requires.keep i kept b within read c.taking.invariant.rest k some up_to in
    let new_is =
    out.ensures.left
    ∙ ap (λ (ns : List ℕ). with_puts (staying floor (take k ns)) b) (whole_rest keep kept)
    ∙ ap (λ (ns : List ℕ). let x : Block = record { start = b.start; puts = ns } in x) (staying_here old keep c.requires.table.rising c.requires.keep i kept b within read c.taking.invariant.rest k some up_to floor)
    ∙ ap f read in
    record {
      number = length-set blocks i out.new.block ∙ c.taking.invariant.number;
      left = in_place_set f old blocks i b out.new.block within c.taking.invariant.left new_is;
      within = next.within;
      rest = next;
      none = λ zero.
          let sum = c.saturating_add-went.ensures in
          let nothing : out.result.went ≡ 0 = omega (arith, sum, zero) in
          let before : c.taking.went ≡ 0 = omega (arith, sum, zero) in
          ap (λ (x : Block). set blocks i x) (out.ensures.none nothing ∙ c.index_mut.ensures.value) ∙ set-get_or blocks i b ∙ c.taking.invariant.none before;
    }

pub returns-clause-left : goal.returns-clause-left
returns-clause-left c = in_place_all (with_puts (staying c.args.floor c.args.keep.now)) c.args.blocks.now.items c.taking.blocks.items c.taking.i (let past = c.taking-test.false in let most = c.taking.auto.i-end in let all = c.len-i-end.ensures in omega (arith, past, most, all)) c.taking.invariant.left

use Rattle.std.proofs.Common.{rules, ◌≡◌, ℕ, ◌≤◌, ◌^◌, arith, ◌<◌, length, [], drop, ◌∷◌, ◌+◌, slice_index_or}
use Rattle.std.specs.Prelude.{◌==◌, Bool, true, false, if◌then◌else◌}
use Rattle.std.proofs.lemmas.List.{drop_more, drop_all}
use Rattle.std.proofs.lemmas.List.Elements.{All-get_or}
use Rattle.cq_measures.specs.Sorted.{AreBelow, AreIn}
use Rattle.cq_measures.proofs.Counted.{IsCounted, counted_more}
use Rattle.cq_measures.proofs.Sweep.{new_count-is}
use Rattle.cq_measures.proofs.counting.covered_lines.Goals as goal

pub loop-extent-preserved : goal.loop-extent-preserved
loop-extent-preserved c =
    let all = c.args.extents.now in
    let at = c.loop-extent.extent-index in
    let e = slice_index_or all at (record { file = 0; first = 0; last = 0 }) in
    let inside : at < length all = search rules in
    let among : (n : ℕ) → AreBelow n all → e.file < n = λ n below. All-get_or (λ f. f.file < n) all at (record { file = 0; first = 0; last = 0 }) inside below in
    let alike : (f : ℕ) → AreIn f all → e.file ≡ f = λ f are. All-get_or (λ x. x.file ≡ f) all at (record { file = 0; first = 0; last = 0 }) inside are in
    let before : IsCounted all (e ∷ drop (at + 1) all) c.loop-extent.file c.loop-extent.free c.loop-extent.lines = rw (drop_more all at (record { file = 0; first = 0; last = 0 }) inside) at c.loop-extent.invariant in
    let after = counted_more all (drop (at + 1) all) c.loop-extent.file c.loop-extent.free c.loop-extent.lines e (search rules) (among 262144 c.requires.few) among alike before in
    search (rules, after)

pub returns-clause-alone : goal.returns-clause-alone
returns-clause-alone c f are = few (c.loop-extent.file == f) (c.loop-extent.invariant.alone f are) c.loop-extent.invariant.small
  where
    few : {lines free : ℕ} (b : Bool) → lines ≤ (if b then free else 0) → free ≤ 2 ^ 32 → lines ≤ 2 ^ 32
    few true within small = omega (arith, within, small)
    few false within small = omega (arith, within, small)

pub returns-clause-count : goal.returns-clause-count
returns-clause-count c =
    let all = c.args.extents.now in
    let after : IsCounted all [] c.loop-extent.file c.loop-extent.free c.loop-extent.lines = rw (drop_all c.loop-extent.extent-index all (search rules)) at c.loop-extent.invariant in
    let counted = after.counted in
    let is = new_count-is all c.requires.order in
    search (rules, counted, is)

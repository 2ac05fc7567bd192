use Rattle.std.proofs.Common.{◌≡◌, ◌-◌, ◌<◌, length, ap, ◌∙◌, arith}
use Rattle.std.specs.List.{range_with_len}
use Rattle.std.proofs.lemmas.Result.{IfOk-weaker}
use Rattle.rayon.specs.Numbers.{nat_range}
use Rattle.rayon.proofs.ToStd.{nat_range-All}
use Rattle.cq_measures.specs.Parted.{ArePartInside, IsPartTally}
use Rattle.cq_measures.proofs.Collected.{all_told}
use Rattle.cq_measures.proofs.tallying.tallies_of.Goals as goal

pub collect-requires-clause-ready : goal.collect-requires-clause-ready
collect-requires-clause-ready g c κs within =
    let ends = c.into_par_iter.ensures in
    let files = c.args.files.now in
    let parts = c.args.parts.now in
    let few = c.requires.few in
    let number = c.requires.number in
    let inside = nat_range-All (λ i. (i < length files) × (i < length parts) × (i < 262144) × ArePartInside files parts i) 0 (length files)
    (λ i low high. (high, omega (arith, high, number), omega (arith, high, few), c.requires.inside i high)) in
    rw (c.map.ensures.base, c.map.ensures.f, c.with_min_len.ensures.base, ends.0, ends.1) (λ k d lt. (inside k d lt, λ y p. tt))

pub returns-clause-number : goal.returns-clause-number
returns-clause-number g c =
    let ends = c.into_par_iter.ensures in
    let n = length c.args.files.now in
    let whole : n - 0 ≡ n = omega arith in
    let told = c.in_ok-collect.ensures in
    let chain = rw (c.map.ensures.base, c.map.ensures.f, c.with_min_len.ensures.base) at told.1 in
    let numbers = chain.1 ∙ (λ i. nat_range (ends.0 i) (ends.1 i)) ∙ ap (range_with_len 0) whole in
    IfOk-weaker c.in_ok-collect.field-0 _ _ (λ v h. h.0) (all_told _ (IsPartTally c.args.files.now c.args.parts.now) n chain.0 told.0 c.in_ok-collect.field-0 numbers chain.2 told.2)

pub returns-clause-each : goal.returns-clause-each
returns-clause-each g c =
    let ends = c.into_par_iter.ensures in
    let n = length c.args.files.now in
    let whole : n - 0 ≡ n = omega arith in
    let told = c.in_ok-collect.ensures in
    let chain = rw (c.map.ensures.base, c.map.ensures.f, c.with_min_len.ensures.base) at told.1 in
    let numbers = chain.1 ∙ (λ i. nat_range (ends.0 i) (ends.1 i)) ∙ ap (range_with_len 0) whole in
    IfOk-weaker c.in_ok-collect.field-0 _ _ (λ v h i lt. h.1 i (record { lines = 0; extents = 0; files = 0 }) lt) (all_told _ (IsPartTally c.args.files.now c.args.parts.now) n chain.0 told.0 c.in_ok-collect.field-0 numbers chain.2 told.2)

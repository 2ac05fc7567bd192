use Rattle.std.proofs.Common.{◌≡◌, ◌<◌, length, All, sym, ap, ◌∙◌, subst, arith}
use Rattle.std.proofs.lemmas.List.{length-map}
use Rattle.cq_measures.specs.Measures.{counts_of, counts_at, AreSmall}
use Rattle.cq_measures.proofs.Chosen.{as_many_chosen, few_chosen, small_chosen}
use Rattle.cq_measures.proofs.Totals.{as_many_files}
use Rattle.cq_measures.proofs.measuring.chosen_measures.Goals as goal

pub total-requires-clause-few : goal.total-requires-clause-few
total-requires-clause-few c =
    let files = c.args.files.now in
    let chosen = c.args.chosen.now in
    let counts : counts_of c.deref.result.now ≡ counts_at (counts_of files) chosen = ap counts_of c.deref.ensures.value ∙ c.in_ok-lines.ensures in
    let as_many = as_many_chosen c.deref.result.now (counts_of files) chosen counts in
    let below = few_chosen (length files) chosen c.requires.ascending c.requires.inside in
    let few = as_many_files files 262144 c.requires.measurable.few in
    omega (arith, as_many, below, few)

pub total-requires-clause-small : goal.total-requires-clause-small
total-requires-clause-small c =
    let files = c.args.files.now in
    let chosen = c.args.chosen.now in
    let counts : counts_of c.deref.result.now ≡ counts_at (counts_of files) chosen = ap counts_of c.deref.ensures.value ∙ c.in_ok-lines.ensures in
    let inside : All (λ file. file < length (counts_of files)) chosen = subst (λ n. All (λ file. file < n) chosen) (sym (length-map files (λ f. f.counts))) c.requires.inside in
    subst (All AreSmall) (sym counts) (small_chosen (counts_of files) chosen c.requires.measurable.small inside)

pub measures_of-requires : goal.measures_of-requires
measures_of-requires c =
    let below = c.in_ok-chosen_extents.ensures.below 262144 (as_many_files c.args.files.now 262144 c.requires.measurable.few) in
    let within = c.count_up-tally.ensures.within 262144 below in
    omega (arith, within)

use Rattle.std.proofs.Common.{◌≡◌, ◌<◌, ◌∙◌, ℕ, List, length, All, sym, ap, ap₂, subst, arith}
use Rattle.std.specs.List.Sorted.{IsStrictlyIncreasing}
use Rattle.std.proofs.lemmas.List.{length-map}
use Rattle.std.proofs.lemmas.Result.{IfOk-weaker}
use Rattle.cq_base.specs.declared.measures.FileCounts.{FileCounts}
use Rattle.cq_base.specs.declared.token.Token.{Token}
use Rattle.cq_measures.specs.Measures.{counts_of, spans_of, chosen_measures, IsMeasurable}
use Rattle.cq_answer.specs.Works.{works_in, facts_in}
use Rattle.cq_answer.proofs.Chosen.{chosen_numbers}
use Rattle.cq_answer.proofs.Rows.{told_many}
use Rattle.cq_answer.proofs.measuring.measures_of_chosen.Goals as goal

pub chosen_by-requires-clause-few : goal.chosen_by-requires-clause-few
chosen_by-requires-clause-few g c =
    let many = told_many (λ f. f.body.counts) c.args.files.now in
    omega (arith, many, c.requires.measurable.few)

pub chosen_measures-requires-clause-measurable : goal.chosen_measures-requires-clause-measurable
chosen_measures-requires-clause-measurable g c =
    let counts = ap counts_of c.deref.ensures.value ∙ c.in_ok-lines_of.ensures.counts in
    let spans = ap spans_of c.deref.ensures.value ∙ c.in_ok-lines_of.ensures.spans in
    subst (λ (cs : List FileCounts). IsMeasurable cs (spans_of c.deref.result.now) c.args.groups.now) (sym counts)
    (subst (λ (ss : List (List Token)). IsMeasurable (facts_in (works_in c.args.files.now)).counts ss c.args.groups.now) (sym spans) c.requires.measurable)

pub chosen_measures-requires-clause-ascending : goal.chosen_measures-requires-clause-ascending
chosen_measures-requires-clause-ascending g c = subst IsStrictlyIncreasing (sym c.deref-2.ensures.value) c.in_ok-chosen.ensures.ascending

pub chosen_measures-requires-clause-inside : goal.chosen_measures-requires-clause-inside
chosen_measures-requires-clause-inside g c =
    let counts = ap counts_of c.deref.ensures.value ∙ c.in_ok-lines_of.ensures.counts in
    let many : length c.deref.result.now ≡ length c.args.files.now = sym (length-map c.deref.result.now (λ f. f.counts)) ∙ ap length counts ∙ told_many (λ f. f.body.counts) c.args.files.now in
    let chosen = c.deref-2.ensures.value in
    subst (λ (n : ℕ). All (λ file. file < n) c.deref-2.result.now) (sym many) (subst (All (λ file. file < length c.args.files.now)) (sym chosen) c.in_ok-chosen.ensures.inside)

pub returns : goal.returns
returns g c =
    let files = works_in c.args.files.now in
    let q = c.args.query.now in
    let counts = ap counts_of c.deref.ensures.value ∙ c.in_ok-lines_of.ensures.counts in
    let spans = ap spans_of c.deref.ensures.value ∙ c.in_ok-lines_of.ensures.spans in
    let chosen = c.deref-2.ensures.value ∙ c.in_ok-chosen.ensures.chosen ∙ chosen_numbers files q in
    IfOk-weaker c.chosen_measures.result _ _ (λ m is.
    is
    ∙ ap₂ (λ (cs : List FileCounts) (ss : List (List Token)). chosen_measures cs ss c.deref-2.result.now c.args.groups.now) counts spans
    ∙ ap (λ (ks : List ℕ). chosen_measures (facts_in files).counts (facts_in files).spans ks c.args.groups.now) chosen) c.chosen_measures.ensures

use Rattle.std.proofs.Common.{ℕ, ◌<◌, true, false, List, length, map, filter, Option, Bor, sym, ap, ◌∙◌, rules}
use Rattle.std.specs.List.{range_with_len}
use Rattle.std.proofs.lemmas.List.{length-map}
use Rattle.std.specs.Prelude.{option_map}
use Rattle.std.specs.Arc.{arc_value}
use Rattle.cq_scope.specs.Chosen.{is_chosen_at}
use Rattle.cq_scope.proofs.Positions.{chosen_there, position_with, position_without, positions_all, positions_rise, positions_inside}
use Rattle.cq_scope.proofs.choosing.choose.Goals.{then-is_chosen+in_ok-push, else-is_chosen}
use Rattle.cq_scope.proofs.choosing.choose.Goals as goal

pub loop-i-preserved : goal.loop-i-preserved
loop-i-preserved g c =
    let scope : Option (List ℕ) = option_map (λ (p : Bor (List ℕ)). p.now) c.args.scope in
    let owners = c.args.files.now in
    let n = length owners in
    let i = c.loop-i.i in
    let here = c.index-files-i.result in
    let within : i < n = search rules in
    elim c.if-is_chosen.branch [
      | then-is_chosen+in_ok-push w ↦
          let holds = chosen_there scope c.args.since owners i here true within c.index-files-i.is (search rules) in
          let more = position_with (is_chosen_at scope c.args.since (map arc_value owners)) n i c.loop-i.chosen.items within holds c.loop-i.invariant in
          search (rules, more)
      | else-is_chosen w ↦
          let fails = chosen_there scope c.args.since owners i here false within c.index-files-i.is (search rules) in
          let same = position_without (is_chosen_at scope c.args.since (map arc_value owners)) n i c.loop-i.chosen.items within fails c.loop-i.invariant in
          search (rules, same)
    ]

pub returns-clause-chosen : goal.returns-clause-chosen
returns-clause-chosen g c =
    let scope : Option (List ℕ) = option_map (λ (p : Bor (List ℕ)). p.now) c.args.scope in
    let owners = c.args.files.now in
    positions_all (is_chosen_at scope c.args.since (map arc_value owners)) (length owners) c.loop-i.i c.loop-i.chosen.items (search rules) c.loop-i.invariant
    ∙ ap (λ n. filter (is_chosen_at scope c.args.since (map arc_value owners)) (range_with_len 0 n)) (sym (length-map owners arc_value))

pub returns-clause-ascending : goal.returns-clause-ascending
returns-clause-ascending g c =
    let scope : Option (List ℕ) = option_map (λ (p : Bor (List ℕ)). p.now) c.args.scope in
    let owners = c.args.files.now in
    positions_rise (is_chosen_at scope c.args.since (map arc_value owners)) (length owners) c.loop-i.chosen.items
    (positions_all (is_chosen_at scope c.args.since (map arc_value owners)) (length owners) c.loop-i.i c.loop-i.chosen.items (search rules) c.loop-i.invariant)

pub returns-clause-inside : goal.returns-clause-inside
returns-clause-inside g c =
    let scope : Option (List ℕ) = option_map (λ (p : Bor (List ℕ)). p.now) c.args.scope in
    let owners = c.args.files.now in
    positions_inside (is_chosen_at scope c.args.since (map arc_value owners)) (length owners) c.loop-i.chosen.items
    (positions_all (is_chosen_at scope c.args.since (map arc_value owners)) (length owners) c.loop-i.i c.loop-i.chosen.items (search rules) c.loop-i.invariant)

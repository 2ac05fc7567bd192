use Rattle.std.proofs.Common.{rules, ◌≡◌, ◌+◌, length, get_or, sym, subst, arith}
use Rattle.std.proofs.lemmas.List.Elements.{All-get_or}
use Rattle.cq_measures.specs.Counts.{IsTallyOf}
use Rattle.cq_measures.specs.Parted.{IsSmallTally}
use Rattle.cq_measures.specs.Sorted.{AreBelow}
use Rattle.cq_measures.proofs.Divided.{files_below, tally_none, tally_more, all_below}
use Rattle.cq_measures.proofs.tallying.added.Goals as goal

pub loop-tally-init : goal.loop-tally-init
loop-tally-init c = record { sums = λ es are. tally_none es; lines = omega arith; files = omega arith }

pub loop-tally-preserved : goal.loop-tally-preserved
loop-tally-preserved c =
    let tallies = c.args.tallies.now in
    let i = c.loop-tally.tally-index in
    let all = c.loop-tally.all in
    let t = get_or tallies i (record { lines = 0; extents = 0; files = 0 }) in
    let small = All-get_or IsSmallTally tallies i (record { lines = 0; extents = 0; files = 0 }) c.loop-tally-test.true c.requires.small in
    let lines = c.loop-tally.invariant.lines in
    let files = c.loop-tally.invariant.files in
    let few = small.0 in
    let one = small.1 in
    let sum : c.in_ok-all.field-0 ≡ all.extents + t.extents = search rules in
    record {
      sums = λ es are. subst (λ n. IsTallyOf (files_below (i + 1) es) (record { lines = all.lines + t.lines; extents = n; files = all.files + t.files })) (sym sum) (tally_more i es all t (c.loop-tally.invariant.sums es are) (are i c.loop-tally-test.true));
      lines = omega (arith, lines, few);
      files = omega (arith, files, one);
    }

pub returns-clause-sums : goal.returns-clause-sums
returns-clause-sums c = λ es below are.
    let over = c.loop-tally-test.false in
    let most = c.loop-tally.auto.tally-index-end in
    let whole : length c.args.tallies.now ≡ c.loop-tally.tally-index = omega (arith, over, most) in
    subst (λ xs. IsTallyOf xs c.loop-tally.all) (all_below c.loop-tally.tally-index es (subst (λ n. AreBelow n es) whole below)) (c.loop-tally.invariant.sums es are)

use Rattle.std.proofs.Common.{◌-◌, drop, arith}
use Rattle.cq_projects.specs.Projects.{path_in}
use Rattle.cq_projects.proofs.Indexes.{at_before, gap_before}
use Rattle.cq_projects.proofs.Narrowing.{rising_take, rising_drop, found_between, gap_between}
use Rattle.cq_projects.proofs.files.find_between.Goals as goal
use Rattle.cq_projects.proofs.files.find_between.Goals.{in-Ok, in-Err}

pub find-requires : goal.find-requires
find-requires g c = rising_take path_in (c.args.to - c.args.from) (drop c.args.from c.args.files.now) (rising_drop path_in c.args.from c.args.files.now c.requires.rising)

pub returns-then-is_ahead-clause-found : goal.returns-then-is_ahead-clause-found
returns-then-is_ahead-clause-found g c =
    elim c.match-find.branch [
      | in-Ok w ↦ rw w.result-is (found_between path_in c.args.path.now c.args.files.now c.args.from c.args.to w.in-Ok.i c.requires.bound.0 c.requires.bound.1 (c.is_behind.ensures c.if-is_behind.true) (c.is_ahead.ensures c.if-is_ahead.true) w.in-Ok.ensures.found)
      | in-Err w ↦ rw w.result-is tt
    ]

pub returns-then-is_ahead-clause-gap : goal.returns-then-is_ahead-clause-gap
returns-then-is_ahead-clause-gap g c =
    elim c.match-find.branch [
      | in-Ok w ↦ rw w.result-is tt
      | in-Err w ↦ rw w.result-is (gap_between path_in c.args.path.now c.args.files.now c.args.from c.args.to w.in-Err.i c.requires.bound.0 c.requires.bound.1 (c.is_behind.ensures c.if-is_behind.true) (c.is_ahead.ensures c.if-is_ahead.true) w.in-Err.ensures.gap)
    ]

pub is_behind-requires-clause-rising : goal.is_behind-requires-clause-rising
is_behind-requires-clause-rising g c = c.requires.rising

pub is_behind-requires-clause-within : goal.is_behind-requires-clause-within
is_behind-requires-clause-within g c = omega (arith, c.requires.bound.0, c.requires.bound.1)

pub is_ahead-requires-clause-rising : goal.is_ahead-requires-clause-rising
is_ahead-requires-clause-rising g c = c.requires.rising

pub is_ahead-requires-clause-within : goal.is_ahead-requires-clause-within
is_ahead-requires-clause-within g c = c.requires.bound.1

pub overflow_add-result : goal.overflow_add-result
overflow_add-result g c = omega (arith, at_before path_in c.args.path.now c.args.files.now c.args.from c.args.to c.in-Ok.i c.requires.bound.0 c.in-Ok.ensures.found, c.ranges.to)

pub overflow_add-result-in-Err : goal.overflow_add-result-in-Err
overflow_add-result-in-Err g c = omega (arith, gap_before path_in c.args.path.now c.args.files.now c.args.from c.args.to c.in-Err.i c.requires.bound.0 c.in-Err.ensures.gap, c.ranges.to)

pub find-requires-2 : goal.find-requires-2
find-requires-2 g c = c.requires.rising

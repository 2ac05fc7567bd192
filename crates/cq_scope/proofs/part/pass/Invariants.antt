use Rattle.std.proofs.Common.{◌≡◌, ◌<◌, ◌++◌, take, drop, length, false}
use Rattle.std.specs.Str.{chars}
use Rattle.cq_scope.specs.Fits.{one_fits}
use Rattle.cq_scope.specs.Rows.{passed}
use Rattle.cq_scope.proofs.part.pass.Given as goal

abbrev pub invariant-loop-c : goal.invariant-loop-c
invariant-loop-c l = record {
  counted : l.at ≡ length l.yielded;
  room : length (chars l.name) < length l.row;
  so_far : take l.at l.row ++ passed (one_fits l.symbol) l.was_set (drop l.at l.row) (drop l.at (chars l.name)) ≡ passed (one_fits l.symbol) false l.initial.row (chars l.name);
}

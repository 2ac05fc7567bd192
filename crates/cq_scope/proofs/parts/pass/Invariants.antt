use Rattle.std.proofs.Common.{◌≡◌, ◌<◌, ◌++◌, take, drop, length, false}
use Rattle.cq_scope.specs.Fits.{name_fits}
use Rattle.cq_names.specs.Names.{parts}
use Rattle.cq_scope.specs.Rows.{passed}
use Rattle.cq_scope.proofs.parts.pass.Given as goal

abbrev pub invariant-loop-name : goal.invariant-loop-name
invariant-loop-name l = record {
  counted : l.at ≡ length l.yielded;
  room : length (parts l.path) < length l.row;
  places : length l.places ≡ length l.initial.places;
  so_far : take l.at l.row ++ passed (name_fits l.part) l.was_set (drop l.at l.row) (drop l.at (parts l.path)) ≡ passed (name_fits l.part) false l.initial.row (parts l.path);
}

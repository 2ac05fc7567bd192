use Rattle.std.proofs.Common.{◌≡◌, ◌+◌, ◌<◌, drop, length}
use Rattle.cq_scope.specs.Fits.{parts_fit}
use Rattle.cq_names.specs.Names.{parts}
use Rattle.cq_scope.proofs.Reaching.{reached}
use Rattle.cq_scope.proofs.parts.parts_fit.Given as goal

abbrev pub invariant-loop-part : goal.invariant-loop-part
invariant-loop-part l = record {
  counted : l.count ≡ length (parts l.path);
  room : length l.row ≡ l.count + 1;
  places : length l.path < length l.places;
  so_far : reached (parts_fit (drop (length l.yielded) (parts l.pattern))) l.row (parts l.path) ≡ parts_fit (parts l.pattern) (parts l.path);
}

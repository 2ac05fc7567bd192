use Rattle.std.proofs.Common.{◌≡◌, ◌+◌, drop, length}
use Rattle.std.specs.Str.{chars}
use Rattle.cq_scope.specs.Fits.{part_fits}
use Rattle.cq_scope.proofs.Reaching.{reached}
use Rattle.cq_scope.proofs.part.part_fits.Given as goal

abbrev pub invariant-loop-symbol : goal.invariant-loop-symbol
invariant-loop-symbol l = record {
  counted : l.count ≡ length (chars l.name);
  room : length l.row ≡ l.count + 1;
  so_far : reached (part_fits (drop (length l.yielded) (chars l.part))) l.row (chars l.name) ≡ part_fits (chars l.part) (chars l.name);
}

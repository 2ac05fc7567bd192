use Rattle.std.proofs.Common.{map}
use Rattle.std.specs.Arc.{arc_value}
use Rattle.std.specs.Vec.Iter.{into_iter_items}
use Rattle.cq_tokform.specs.Spelling.{recorded}
use Rattle.cq_tokfile.proofs.Decoded.{AreMadeSoFar}
use Rattle.cq_tokfile.proofs.decoding.held_all.Given as goal

abbrev pub invariant-loop-file : goal.invariant-loop-file
invariant-loop-file g l = AreMadeSoFar l.keyer.settings (map recorded l.fn.files.items) (map arc_value l.all.items) (map recorded (into_iter_items l.file-iterator))

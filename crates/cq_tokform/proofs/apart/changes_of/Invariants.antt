use Rattle.std.proofs.Common.{◌≡◌, map, take}
use Rattle.cq_tokform.specs.Spelling.{recorded}
use Rattle.cq_tokform.specs.Sound.{changes_in}
use Rattle.cq_tokform.proofs.apart.changes_of.Given as goal

abbrev pub invariant-loop-file : goal.invariant-loop-file
invariant-loop-file l = l.changes.items ≡ changes_in (map recorded (take l.file-index l.files))

use Rattle.std.proofs.Common.{◌≡◌, drop, map}
use Rattle.cq_history.specs.Files.{is_before}
use Rattle.cq_tokform.specs.declared.file.FileRecord.{FileRecord}
use Rattle.cq_tokform.specs.Spelling.{recorded}
use Rattle.cq_tokform.specs.Sound.{is_path_before, rise}
use Rattle.cq_tokform.proofs.rising.paths_rise.Given as goal

abbrev pub invariant-loop-at : goal.invariant-loop-at
invariant-loop-at l = rise (λ (f g : FileRecord). is_before f.path g.path) (drop l.at l.files) ≡ rise is_path_before (map recorded l.files)

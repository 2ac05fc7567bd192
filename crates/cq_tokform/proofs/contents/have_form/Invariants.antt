use Rattle.std.proofs.Common.{◌≡◌, drop, map}
use Rattle.std.specs.List.{list_all}
use Rattle.cq_names.specs.Names.{is_path}
use Rattle.cq_tokform.specs.Spelling.{Recorded, recorded}
use Rattle.cq_tokform.proofs.contents.have_form.Given as goal

abbrev pub invariant-loop-file : goal.invariant-loop-file
invariant-loop-file l = list_all (λ (f : Recorded). is_path f.path) (map recorded (drop l.file-index l.files)) ≡ list_all (λ (f : Recorded). is_path f.path) (map recorded l.files)

-- The number of keys is that of changes.
use Rattle.std.specs.Prelude.{◌≡◌, List, length}
use Rattle.std.specs.Arc.{arc_value}
use Rattle.std.proofs.Common.{sym, ◌∙◌}
use Rattle.std.proofs.lemmas.List.{length-map}
use Rattle.cq_history.specs.Files.{File}
use Rattle.cq_work.specs.declared.work.Work.{Work}
use Rattle.cq_answer.specs.Works.{keys_in, numbers_in}

pub as_many : {L : Type 0} (files : List (File (Work L))) → length (keys_in files) ≡ length (numbers_in files)
as_many {L} files = length-map files (λ (f : File (Work L)). arc_value f.body.keys) ∙ sym (length-map files (λ (f : File (Work L)). f.number))

use Rattle.std.proofs.Common.{◌≡◌, ◌-◌, map}
use Rattle.cq_tokform.specs.Spelling.{recorded}
use Rattle.cq_tokform.specs.Reading.{file_at, items_at}
use Rattle.cq_tokform.proofs.Counted.{with_front}
use Rattle.cq_tokform.proofs.files.files_at.Given as goal

abbrev pub invariant-loop : goal.invariant-loop
invariant-loop l = with_front (map recorded l.files.items) (items_at (file_at l.settings l.version) (l.count - l.counter) l.rest) ≡ items_at (file_at l.settings l.version) l.count l.bytes

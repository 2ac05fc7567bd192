-- What the ends over std's readers and writers report: their faults, and nothing about their bytes.
use Rattle.std.specs.Prelude.{ℕ}
use Rattle.cq_io.specs.declared.standard.StdSource.{StdSource}
use Rattle.cq_io.specs.declared.standard.StdSink.{StdSink}

abbrev pub reader_faults : {R : Type 0} → StdSource R → ℕ
reader_faults s = s.faults

abbrev pub writer_faults : {W : Type 0} → StdSink W → ℕ
writer_faults s = s.faults

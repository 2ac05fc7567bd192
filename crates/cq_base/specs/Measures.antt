-- The measures by their metrics.
use Rattle.std.specs.Prelude.{ℕ}
use Rattle.cq_base.specs.declared.measures.Measures.{Measures}
use Rattle.cq_base.specs.declared.measures.Metric.{Metric}
use Rattle.cq_base.specs.declared.measures.Metric.TheVariants as metric

abbrev pub measure_of : Metric → Measures → ℕ
measure_of metric.Lines m = m.lines
measure_of metric.Ncloc m = m.ncloc
measure_of metric.Files m = m.files
measure_of metric.Complexity m = m.complexity
measure_of metric.DupLines m = m.dup_lines
measure_of metric.DupBlocks m = m.dup_blocks
measure_of metric.DupFiles m = m.dup_files
measure_of metric.Density m = m.density

-- those of no file
abbrev pub no_measures : Measures
no_measures = record { lines = 0; ncloc = 0; files = 0; complexity = 0; dup_lines = 0; dup_blocks = 0; dup_files = 0; density = 0 }

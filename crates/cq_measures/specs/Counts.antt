-- What some extents come to.
use Rattle.std.specs.Prelude.{◌≡◌, List}
use Rattle.cq_measures.specs.declared.extent.Extent.{Extent}
use Rattle.cq_measures.specs.declared.counting.Tally.{Tally}
use Rattle.cq_measures.specs.Extents.{covered_lines, different_extents, files_touched}

pub record IsTallyOf (extents : List Extent) (t : Tally) : Type 0 where
  pub lines : t.lines ≡ covered_lines extents
  pub extents_are : t.extents ≡ different_extents extents
  pub files : t.files ≡ files_touched extents

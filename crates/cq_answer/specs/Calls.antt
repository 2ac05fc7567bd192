-- What calls promise of the measures of files that owners hold.
use Rattle.std.specs.Prelude.{◌≡◌, ℕ, List}
use Rattle.cq_base.specs.declared.group.Group.{Group}
use Rattle.cq_base.specs.declared.measures.Measures.{Measures}
use Rattle.cq_measures.specs.Measures.{file_measures, project_measures}
use Rattle.cq_request.specs.declared.request.Query.{Query}
use Rattle.cq_answer.specs.declared.part.Part.{Part}
use Rattle.cq_answer.specs.Rows.{measures_of}
use Rattle.cq_answer.specs.Works.{Owner, works_in, facts_in, chosen_in}

module _ {L : Type 0} where
  -- they are those of all the files, or of one of them
  abbrev pub AreMeasuresOfAll : List (Owner L) → List Group → Measures → Type 0
  AreMeasuresOfAll files groups m = m ≡ project_measures (facts_in (works_in files)).counts (facts_in (works_in files)).spans groups

  abbrev pub AreMeasuresAt : List (Owner L) → ℕ → List Group → Measures → Type 0
  AreMeasuresAt files file groups m = m ≡ file_measures (facts_in (works_in files)).counts (facts_in (works_in files)).spans file groups

  -- they are those of the part, over the files that the query chooses
  abbrev pub AreMeasuresOf : List (Owner L) → Query → Part → List Group → Measures → Type 0
  AreMeasuresOf files q part groups m = m ≡ measures_of (facts_in (works_in files)) groups (chosen_in (works_in files) q) part

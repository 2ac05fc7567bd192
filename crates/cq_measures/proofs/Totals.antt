-- Sums of what is counted of files.
use Rattle.std.proofs.Common.{◌≡◌, ℕ, ◌+◌, ◌<◌, ◌≤◌, List, [], ◌∷◌, length, get_or, map, All, refl, sym, subst, ap, ◌∙◌, arith}
use Rattle.std.proofs.lemmas.List.{get_or-map, length-map}
use Rattle.std.proofs.lemmas.List.Elements.{All-get_or}
use Rattle.std.specs.List.{sum_by}
use Rattle.std.proofs.lemmas.List.Sums.{sum_by-cons}
use Rattle.cq_base.specs.declared.measures.FileCounts.{FileCounts}
use Rattle.cq_measures.specs.declared.extent.FileLines.{FileLines}
use Rattle.cq_measures.specs.Measures.{counts_of, total, no_counts, AreSmall}

sum_mapped : {X Y : Type 0} (v : X → Y) (g : Y → ℕ) (xs : List X) → sum_by g (map v xs) ≡ sum_by (λ x. g (v x)) xs
sum_mapped v g [] = refl
sum_mapped v g (x ∷ xs) = sum_by-cons g (v x) (map v xs) ∙ ap (λ n. g (v x) + n) (sum_mapped v g xs) ∙ sym (sum_by-cons (λ y. g (v y)) x xs)

-- the counts of the files together
abbrev pub total_of : List FileLines → FileCounts
total_of files = record { lines = sum_by (λ f. f.counts.lines) files; ncloc = sum_by (λ f. f.counts.ncloc) files; complexity = sum_by (λ f. f.counts.complexity) files }

pub total_of-is : (files : List FileLines) → total_of files ≡ total (counts_of files)
total_of-is files = λ i. record {
  lines = sym (sum_mapped (λ f. f.counts) (λ c. c.lines) files) i;
  ncloc = sym (sum_mapped (λ f. f.counts) (λ c. c.ncloc) files) i;
  complexity = sym (sum_mapped (λ f. f.counts) (λ c. c.complexity) files) i;
}

-- what is counted of the file at a position is small
pub small_at : (files : List FileLines) (at : ℕ) (d : FileLines) → at < length files → All AreSmall (counts_of files) → AreSmall (get_or files at d).counts
small_at files at d inside small =
    let as_many = length-map files (λ f. f.counts) in
    subst AreSmall (get_or-map (λ f. f.counts) files at d no_counts inside) (All-get_or AreSmall (counts_of files) at no_counts (omega (arith, as_many, inside)) small)

pub as_many_files : (files : List FileLines) (n : ℕ) → length (counts_of files) ≤ n → length files ≤ n
as_many_files files n few = let as_many = length-map files (λ f. f.counts) in omega (arith, as_many, few)

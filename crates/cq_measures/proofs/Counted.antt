-- What a count along extents in order has before each of them.
use Rattle.std.proofs.Common.{◌≡◌, ℕ, ◌+◌, ◌-◌, ◌*◌, ◌^◌, ◌<◌, ◌≤◌, List, ◌∷◌, arith}
use Rattle.std.specs.Prelude.{◌==◌, if◌then◌else◌}
use Rattle.std.specs.List.{AllByRecursion}
use Rattle.std.proofs.lemmas.Map.Keys.{sorted_head, sorted_tail}
use Rattle.cq_measures.specs.declared.extent.Extent.{Extent}
use Rattle.cq_measures.specs.Sorted.{extent_cmp, AreInOrder, AreBelow, AreIn, first_new, next_free, new_count, new_files}
use Rattle.cq_measures.proofs.Sweep.{no_earlier}

-- `lines` are counted, the last of them in `file`, where those below `free` are taken; these extents are left
pub record IsCounted (all left : List Extent) (file free lines : ℕ) : Type 0 where
  pub counted : lines + new_count file free left ≡ new_count 0 0 all
  pub ordered : AreInOrder left
  pub later : AllByRecursion (λ e. file ≤ e.file) left
  pub reach : (n : ℕ) → AreBelow n all → lines ≤ n * 2 ^ 32
  pub alone : (f : ℕ) → AreIn f all → lines ≤ (if file == f then free else 0)
  pub low : file < 262144
  pub bound : lines ≤ file * 2 ^ 32 + free
  pub small : free ≤ 2 ^ 32

-- one extent more
pub counted_more : (all left : List Extent) (file free lines : ℕ) (e : Extent) → e.last < 2 ^ 32 → e.file < 262144 → ((n : ℕ) → AreBelow n all → e.file < n) → ((f : ℕ) → AreIn f all → e.file ≡ f) → IsCounted all (e ∷ left) file free lines → IsCounted all left e.file (next_free file free e) (lines + (e.last + 1 - first_new file free e))
counted_more all left file free lines e fits few among within before = record {
  counted = let total = before.counted in omega (arith, total);
  ordered = sorted_tail extent_cmp e left before.ordered;
  later = no_earlier e left (sorted_head extent_cmp e left before.ordered);
  reach = λ n below. reach_more file free lines e n fits before.small before.later.0 before.bound (among n below);
  alone = λ f are. alone_more file free lines e f (within f are) (before.alone f are);
  low = few;
  bound = bound_more file free lines e fits before.small before.later.0 before.bound;
  small = small_more file free e fits before.small;
}
  where
    reach_more : (file free lines : ℕ) (e : Extent) (n : ℕ) → e.last < 2 ^ 32 → free ≤ 2 ^ 32 → file ≤ e.file → lines ≤ file * 2 ^ 32 + free → e.file < n → lines + (e.last + 1 - first_new file free e) ≤ n * 2 ^ 32
    reach_more file free lines e n fits small later bound below = grind arith

    alone_more : (file free lines : ℕ) (e : Extent) (f : ℕ) → e.file ≡ f → lines ≤ (if file == f then free else 0) → lines + (e.last + 1 - first_new file free e) ≤ (if e.file == f then next_free file free e else 0)
    alone_more file free lines e f is alone = grind arith

    small_more : (file free : ℕ) (e : Extent) → e.last < 2 ^ 32 → free ≤ 2 ^ 32 → next_free file free e ≤ 2 ^ 32
    small_more file free e fits small = grind arith

    bound_more : (file free lines : ℕ) (e : Extent) → e.last < 2 ^ 32 → free ≤ 2 ^ 32 → file ≤ e.file → lines ≤ file * 2 ^ 32 + free → lines + (e.last + 1 - first_new file free e) ≤ e.file * 2 ^ 32 + next_free file free e
    bound_more file free lines e fits small later bound = grind arith

-- `files` are counted, all below `next`
pub record AreFilesCounted (all left : List Extent) (next files : ℕ) : Type 0 where
  pub counted : files + new_files next left ≡ new_files 0 all
  pub few : files ≤ next
  pub small : next ≤ 2 ^ 32

-- Answers of comparisons, and texts compared by their bytes.
use Rattle.std.proofs.Common.{◌≡◌, true, List, ℕ, refl}
use Rattle.std.specs.Ordering.{nat_cmp, is_lt, ordering_then, ordering_reverse}
use Rattle.std.specs.declared.cmp.Ordering.{Ordering}
use Rattle.std.specs.declared.cmp.Ordering.TheVariants.{Less, Equal, Greater}
use Rattle.std.specs.Cmp.Lexicographic.{slice_cmp}
use Rattle.std.proofs.lemmas.Cmp.{nat_list_cmp_total}

pub Equal-from_reverse : (r : Ordering) → r ≡ ordering_reverse r → r ≡ Equal
Equal-from_reverse Less e = absurd (cc)
Equal-from_reverse Equal e = refl
Equal-from_reverse Greater e = absurd (cc)

pub Less-from_is_lt : (r : Ordering) → is_lt r ≡ true → r ≡ Less
Less-from_is_lt Less h = refl
Less-from_is_lt Equal h = absurd (cc)
Less-from_is_lt Greater h = absurd (cc)

-- a comparison by one thing and then another answers equal only where both do
pub then-parts : (r s : Ordering) → ordering_then r s ≡ Equal → (r ≡ Equal) × (s ≡ Equal)
then-parts Less s e = absurd (cc)
then-parts Equal s e = (refl, e)
then-parts Greater s e = absurd (cc)

pub bytes-tie : (p : List ℕ) → slice_cmp nat_cmp p p ≡ Equal
bytes-tie p = Equal-from_reverse (slice_cmp nat_cmp p p) (nat_list_cmp_total.antisymm p p)

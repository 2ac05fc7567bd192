-- Lists that are none of groups, places that are not kept, and what a listing may not cost.
use Rattle.std.specs.Prelude.{◌≡◌, ℕ, zero, suc, slice_index_or, ◌<◌, ◌≤◌, List, [], ◌∷◌, length, AllPairs, Some, None}
use Rattle.std.specs.declared.sync.ledger.Ledger as ledger
use Rattle.std.proofs.Common.{arith, ap, sym, subst, inl, inr}
use Rattle.std.proofs.lemmas.List.Elements.{Contains-get_or}
use Rattle.cq_base.specs.declared.group.Group.{Group}
use Rattle.cq_base.specs.declared.group.Place.{Place}
use Rattle.cq_clones.specs.Groups.{AreGroups, AreGroupsIn, ComesBefore, IsBefore, IsGroup, kept_of, token_before, token_behind}
use Rattle.cq_groups.specs.Listing.{AreAllRising, AsksKeysAtMostIn, IsKeyIn}
use Rattle.cq_groups.specs.Sets.{IsLongest, ReadsAtMost}
use Rattle.cq_tokens.specs.Parts.{keys_in}
use Rattle.cq_tokens.specs.declared.corpus.Corpus.{Corpus}
use Rattle.cq_tokens.specs.declared.files.Files as files

abbrev place : ℕ → ℕ → Place
place file at = record { file = file; at = at }

-- one file of three tokens
abbrev corpus : List (List ℕ)
corpus = (7 ∷ 8 ∷ 9 ∷ []) ∷ []

before_itself : (p : Place) → IsBefore p p → ⊥
before_itself p (inl less) = omega (arith, less)
before_itself p (inr same) = omega (arith, same.1)

never_before_itself : (g : Group) → ComesBefore g g → ⊥
never_before_itself g (inl before) = before_itself _ before
never_before_itself g (inr longer) = omega (arith, longer.1)

pub a_group_is_listed_once : (least : ℕ) (g : Group) → AreGroups corpus least (g ∷ g ∷ []) → ⊥
a_group_is_listed_once least g listed = never_before_itself g (listed.ordered 0 1 g (omega arith) (omega arith))

pub a_shorter_word_is_no_group : (places : List Place) → IsGroup corpus 3 (record { tokens = 2; places = places }) → ⊥
a_shorter_word_is_no_group places group = let long = group.long in omega (arith, long)

pub one_place_is_no_group : IsGroup corpus 2 (record { tokens = 2; places = place 0 0 ∷ [] }) → ⊥
one_place_is_no_group group = let several = group.several in omega (arith, several)

pub places_that_overlap_are_not_kept : length (kept_of 2 (place 0 0 ∷ place 0 1 ∷ [])) ≡ 2 → ⊥
places_that_overlap_are_not_kept e = omega (arith, e)

pub places_that_touch_are_kept : length (kept_of 2 (place 0 0 ∷ place 0 2 ∷ [])) ≡ 1 → ⊥
places_that_touch_are_kept e = omega (arith, e)

pub the_last_token_is_there : token_behind corpus (place 0 0) 2 ≡ None → ⊥
the_last_token_is_there e = grind (arith, e)

pub the_token_before_is_another : token_before corpus (place 0 1) ≡ Some 8 → ⊥
the_token_before_is_another e = grind (arith, e)

abbrev first_file_only : Group
first_file_only = record { tokens = 1; places = place 0 0 ∷ place 0 2 ∷ [] }

none_in_the_second : (k : ℕ) (p : Place) → k < 2 → slice_index_or first_file_only.places k p ≡ p → p.file ≡ 1 → ⊥
none_in_the_second zero p within is file = let e = ap (λ (q : Place). q.file) is in omega (arith, e, file)
none_in_the_second (suc zero) p within is file = let e = ap (λ (q : Place). q.file) is in omega (arith, e, file)
none_in_the_second (suc (suc k)) p within is file = omega (arith, within)

pub a_group_of_other_files_is_not_listed : (least : ℕ) → AreGroupsIn corpus least 1 (first_file_only ∷ []) → ⊥
a_group_of_other_files_is_not_listed least listed =
    let there = ((listed.each first_file_only).0 (Contains-get_or (first_file_only ∷ []) 0 first_file_only (omega arith))).1 in
    none_in_the_second there.0 there.1 there.2 there.3 there.4

-- ---- what a listing costs

-- no word stands twice: each place is read twice at most
pub a_place_is_read_no_more_often_than_its_word_is_long : IsLongest corpus 0 → ReadsAtMost corpus 1 0 3 → ⊥
a_place_is_read_no_more_often_than_its_word_is_long longest reads = let most : 3 ≤ 2 = reads 0 longest in omega (arith, most)

-- the window of the first file has key 5, and that of the second key 6
abbrev two_keys : List (List ℕ)
two_keys = (5 ∷ []) ∷ (6 ∷ []) ∷ []

one_key : AllPairs (λ (a b : ℕ). a < b) (5 ∷ [])
one_key i j d before within = absurd (omega (arith, before, within))

first_keys : AreAllRising (IsKeyIn two_keys 0) (5 ∷ [])
first_keys = record { ordered = one_key; each = λ k. (λ h. h, λ h. h) }

pub a_file_is_listed_by_its_own_keys : {F R : Type 0} {f : files.Ghosts F R} {g : ledger.Ghosts R} (of : Corpus F R f g) → keys_in of ≡ two_keys → AsksKeysAtMostIn of 0 0 2 → ⊥
a_file_is_listed_by_its_own_keys of keys asks =
    let most : 2 ≤ 1 = (asks (5 ∷ []) (subst (λ (ks : List (List ℕ)). AreAllRising (IsKeyIn ks 0) (5 ∷ [])) (sym keys) first_keys)).1 in omega (arith, most)

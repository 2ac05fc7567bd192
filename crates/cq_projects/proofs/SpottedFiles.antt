-- The files of a project with their spots, where one is put in or taken out, and where a path stands among them.
use Rattle.std.proofs.Common.{Global, ◌≡◌, ◌↔◌, ℕ, zero, suc, ◌+◌, ◌<◌, ◌≤◌, ◌^◌, List, [], ◌∷◌, ◌++◌, length, map, get_or, set, slice_get, Some, None, refl, sym, ap, ◌∙◌, subst, arith}
use Rattle.std.specs.Prelude.{All, insert, remove}
use Rattle.std.specs.Arc.{arc_value}
use Rattle.std.specs.declared.sync.Arc.{Arc}
use Rattle.std.proofs.lemmas.List.{length-append, length-map, map-set, length-set}
use Rattle.std.proofs.lemmas.List.Edits.{length-insert, length-remove}
use Rattle.std.proofs.lemmas.List.Elements.{Contains-get_or}
use Rattle.std.proofs.lemmas.Option.{same_Some, none-some}
use Rattle.cq_history.specs.Files.{File}
use Rattle.cq_order.specs.declared.spots.Spot.{Spot}
use Rattle.cq_order.specs.Spots.{AreSpots, Replaces, Inserts, Removes}
use Rattle.cq_order.proofs.Spotting.{spot_each}
use Rattle.cq_order.proofs.SpotEdits.{got_in}
use Rattle.cq_projects.specs.Projects.{path_in, path_of}
use Rattle.cq_projects.specs.Ordered.{AreRising, AreBelow, AreAbove, IsAt, IsGap}
use Rattle.cq_projects.specs.Spotted.{AreSpotted, AreOlder, IsPositionOfPath, numbers_of, paths_of}
use Rattle.cq_projects.proofs.FileLists.{insert-map, remove-map}
use Rattle.cq_projects.proofs.PathOrders.{rising_with, rising_without}
use Rattle.cq_history.proofs.PathOrder.{before_apart}
use Rattle.cq_projects.proofs.Putting.{replaced_at, inserted_at, removed_at}
use Rattle.cq_projects.proofs.SpotLists.{number_read, length_numbers}

abbrev pub spot_at : ℕ → ℕ → Spot
spot_at n i = record { change = n; file = i }

module _ {W : Type 0} (hs : List (Arc (File W) Global)) (spots : List Spot) (is : AreSpotted (map arc_value hs) spots) where
  numbers_set : (i : ℕ) (h : Arc (File W) Global) → numbers_of (map arc_value (set hs i h)) ≡ set (numbers_of (map arc_value hs)) i (arc_value h).number
  numbers_set i h = ap numbers_of (map-set arc_value hs i h) ∙ map-set (λ (f : File W). f.number) (map arc_value hs) i (arc_value h)

  numbers_insert : (i : ℕ) (h : Arc (File W) Global) → numbers_of (map arc_value (insert hs i h)) ≡ insert (numbers_of (map arc_value hs)) i (arc_value h).number
  numbers_insert i h = ap numbers_of (insert-map arc_value hs i h) ∙ insert-map (λ (f : File W). f.number) (map arc_value hs) i (arc_value h)

  numbers_remove : (i : ℕ) → numbers_of (map arc_value (remove hs i)) ≡ remove (numbers_of (map arc_value hs)) i
  numbers_remove i = ap numbers_of (remove-map arc_value hs i) ∙ remove-map (λ (f : File W). f.number) (map arc_value hs) i

  few_held : length hs < 2 ^ 32
  few_held = omega (arith, is.few, length-map hs (arc_value {X = File W} {Z = Global}))

  -- no spot's file is past the last position
  pub spots_within : length hs + 1 < 2 ^ 32 → All (λ (s : Spot). s.file + 1 < 2 ^ 32) spots
  spots_within few k d within =
      let s : Spot = get_or spots k d in
      let inside = (got_in (numbers_of (map arc_value hs)) s.file s.change ((spot_each (numbers_of (map arc_value hs)) spots is.are_spots s).0 (Contains-get_or spots k d within))).0 in
      omega (arith, inside, few, length_numbers hs)

  module _ (p : List ℕ) (i : ℕ) (new : List Spot) where
    at_within : IsAt path_in p hs i → i < length hs
    at_within at = omega (arith, ap length at.is, length-append at.before (at.item ∷ at.after), at.index)

    pub gap_within : IsGap path_in p hs i → i ≤ length hs
    gap_within gap = omega (arith, ap length gap.is, length-append gap.before gap.after, gap.index)

    pub spotted_set : (at : IsAt path_in p hs i) (h old : Arc (File W) Global) (n m : ℕ) → path_in h ≡ p → n ≡ (arc_value h).number → old ≡ get_or hs i old → m ≡ (arc_value old).number → AreOlder (arc_value h).number (map arc_value hs) → Replaces m (spot_at n i) spots new → AreSpotted (map arc_value (set hs i h)) new
    spotted_set at h old n m same number read gone older moved = record {
      rising = subst (AreRising path_of) (sym (replaced_at hs p i at h same)) (rising_with (arc_value h) (map arc_value hs) is.rising);
      are_spots = subst (λ ns. AreSpots ns new) (sym (numbers_set i h))
          (subst (λ k. AreSpots (set (numbers_of (map arc_value hs)) i k) new) number
          (moved (numbers_of (map arc_value hs)) is.are_spots (number_read hs i old (at_within at) read ∙ ap Some (sym gone)) (subst (λ k. All (λ c. c < k) (numbers_of (map arc_value hs))) (sym number) older)));
      few = omega (arith, few_held, length-map (set hs i h) (arc_value {X = File W} {Z = Global}), length-set hs i h);
    }

    pub spotted_insert : (gap : IsGap path_in p hs i) (h : Arc (File W) Global) (n len : ℕ) → path_in h ≡ p → n ≡ (arc_value h).number → len ≡ length hs → len + 1 < 2 ^ 32 → AreOlder (arc_value h).number (map arc_value hs) → Inserts len (spot_at n i) spots new → AreSpotted (map arc_value (insert hs i h)) new
    spotted_insert gap h n len same number size few older moved = record {
      rising = subst (AreRising path_of) (sym (inserted_at hs p i gap h same)) (rising_with (arc_value h) (map arc_value hs) is.rising);
      are_spots = subst (λ ns. AreSpots ns new) (sym (numbers_insert i h))
          (subst (λ k. AreSpots (insert (numbers_of (map arc_value hs)) i k) new) number
          (moved (numbers_of (map arc_value hs)) is.are_spots (length_numbers hs ∙ sym size) (subst (λ k. All (λ c. c < k) (numbers_of (map arc_value hs))) (sym number) older)));
      few = omega (arith, few, size, length-map (insert hs i h) (arc_value {X = File W} {Z = Global}), length-insert hs i h (gap_within gap));
    }

    pub spotted_remove : (at : IsAt path_in p hs i) (old : Arc (File W) Global) (m : ℕ) → old ≡ get_or hs i old → m ≡ (arc_value old).number → Removes (spot_at m i) spots new → AreSpotted (map arc_value (remove hs i)) new
    spotted_remove at old m read gone moved = record {
      rising = subst (AreRising path_of) (sym (removed_at hs p i at)) (rising_without p (map arc_value hs) is.rising);
      are_spots = subst (λ ns. AreSpots ns new) (sym (numbers_remove i))
          (moved (numbers_of (map arc_value hs)) is.are_spots (number_read hs i old (at_within at) read ∙ ap Some (sym gone)));
      few = omega (arith, few_held, length-map (remove hs i) (arc_value {X = File W} {Z = Global}), length-remove hs i (at_within at));
    }

-- ---- where a path stands

module _ {W : Type 0} (p : List ℕ) where
  abbrev paths : List (Arc (File W) Global) → List (List ℕ)
  paths hs = paths_of (map arc_value hs)

  none_above : (b : List (Arc (File W) Global)) (j : ℕ) → AreAbove path_in p b → slice_get (paths b) j ≡ Some p → ⊥
  none_above [] j high here = none-some p here
  none_above (x ∷ b) zero high here = before_apart p (path_in x) high.0 (sym (same_Some _ _ here))
  none_above (x ∷ b) (suc j) high here = none_above b j high.1 here

  found_once : (a b : List (Arc (File W) Global)) (x : Arc (File W) Global) (j : ℕ) → AreBelow path_in p a → AreAbove path_in p b → path_in x ≡ p → (length a ≡ j) ↔ (slice_get (paths (a ++ x ∷ b)) j ≡ Some p)
  found_once [] b x zero low high same = (λ e. ap Some same, λ h. refl)
  found_once [] b x (suc j) low high same = (λ e. absurd (omega (arith, e)), λ h. absurd (none_above b j high h))
  found_once (y ∷ a) b x zero low high same = (λ e. absurd (omega (arith, e)), λ h. absurd (before_apart (path_in y) p low.0 (same_Some _ _ h)))
  found_once (y ∷ a) b x (suc j) low high same =
      let rest = found_once a b x j low.1 high same in (λ e. rest.0 (omega (arith, e)), λ h. ap suc (rest.1 h))

  found_nowhere : (a b : List (Arc (File W) Global)) (j : ℕ) → AreBelow path_in p a → AreAbove path_in p b → slice_get (paths (a ++ b)) j ≡ Some p → ⊥
  found_nowhere [] b j low high h = none_above b j high h
  found_nowhere (y ∷ a) b zero low high h = before_apart (path_in y) p low.0 (same_Some _ _ h)
  found_nowhere (y ∷ a) b (suc j) low high h = found_nowhere a b j low.1 high h

  module _ (hs : List (Arc (File W) Global)) (i : ℕ) where
    pub path_at : IsAt path_in p hs i → IsPositionOfPath (map arc_value hs) p (Some i)
    path_at at j =
        let once = found_once at.before at.after at.item j at.low at.high at.same in (
          λ e. ap (λ ks. slice_get (paths ks) j) at.is ∙ once.0 (at.index ∙ same_Some i j e),
          λ h. ap Some (sym at.index ∙ once.1 (sym (ap (λ ks. slice_get (paths ks) j) at.is) ∙ h)),
        )

    pub path_nowhere : IsGap path_in p hs i → IsPositionOfPath (map arc_value hs) p None
    path_nowhere gap j = (
      λ e. absurd (none-some j e),
      λ h. absurd (found_nowhere gap.before gap.after j gap.low gap.high (sym (ap (λ ks. slice_get (paths ks) j) gap.is) ∙ h)),
    )

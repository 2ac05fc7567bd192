-- Changes and their positions, kept apart, and the spots that they are.
use Rattle.std.proofs.Common.{◌≡◌, ℕ, zero, suc, ◌<◌, List, [], ◌∷◌, ◌++◌, length, map, take, drop, set, get_or, Some, None, refl, sym, ap, ap₂, ◌∙◌, subst, arith}
use Rattle.std.specs.Prelude.{All, AllPairs, remove}
use Rattle.std.proofs.lemmas.List.{length-map, get_or-map, map-append}
use Rattle.std.proofs.lemmas.Option.{none-some, slice_get-get_or, slice_get_within, get_or_from_slice_get}
use Rattle.cq_base.proofs.Lists.{AllPairs-map}
use Rattle.cq_order.specs.declared.spots.Spot.{Spot}
use Rattle.cq_order.specs.Spots.{SpotBefore, IsPositionOf, spot_of, paired, changes_of}
use Rattle.cq_order.proofs.Spotting.{spot_at, spot_none}

abbrev pub moved_by : (ℕ → ℕ) → Spot → Spot
moved_by to s = record { change = s.change; file = to s.file }

abbrev pub change_in : Spot → ℕ
change_in s = s.change

abbrev pub file_in : Spot → ℕ
file_in s = s.file

paired_apart : (spots : List Spot) → paired (changes_of spots) (map file_in spots) ≡ spots
paired_apart [] = refl
paired_apart (s ∷ spots) = ap (λ ss. s ∷ ss) (paired_apart spots)

pub paired_map : (to : ℕ → ℕ) (cs fs : List ℕ) → paired cs (map to fs) ≡ map (moved_by to) (paired cs fs)
paired_map to [] fs = refl
paired_map to (c ∷ cs) [] = refl
paired_map to (c ∷ cs) (f ∷ fs) = ap (λ ss. (let s : Spot = record { change = c; file = to f } in s) ∷ ss) (paired_map to cs fs)

pub paired_push : (cs fs : List ℕ) (s : Spot) → length cs ≡ length fs → paired (cs ++ s.change ∷ []) (fs ++ s.file ∷ []) ≡ paired cs fs ++ s ∷ []
paired_push [] [] s e = refl
paired_push [] (f ∷ fs) s e = absurd (omega (arith, e))
paired_push (c ∷ cs) [] s e = absurd (omega (arith, e))
paired_push (c ∷ cs) (f ∷ fs) s e = ap (λ ss. (let t : Spot = record { change = c; file = f } in t) ∷ ss) (paired_push cs fs s (omega (arith, e)))

pub paired_remove : (cs fs : List ℕ) (i : ℕ) → length cs ≡ length fs → paired (remove cs i) (remove fs i) ≡ remove (paired cs fs) i
paired_remove [] [] zero e = refl
paired_remove [] [] (suc i) e = refl
paired_remove [] (f ∷ fs) i e = absurd (omega (arith, e))
paired_remove (c ∷ cs) [] i e = absurd (omega (arith, e))
paired_remove (c ∷ cs) (f ∷ fs) zero e = refl
paired_remove (c ∷ cs) (f ∷ fs) (suc i) e = ap (λ ss. (let t : Spot = record { change = c; file = f } in t) ∷ ss) (paired_remove cs fs i (omega (arith, e)))

-- what a slice of a whole list leaves of it
pub whole : (n : ℕ) (new old : List ℕ) → n ≡ length old → length new ≡ length old → take n (new ++ drop (length new) old) ≡ new
whole n new old e same = ap (λ m. take m (new ++ drop (length new) old)) e ∙ go new old same
  where
    go : (new old : List ℕ) → length new ≡ length old → take (length old) (new ++ drop (length new) old) ≡ new
    go [] [] e = refl
    go [] (o ∷ old) e = absurd (omega (arith, e))
    go (x ∷ new) [] e = absurd (omega (arith, e))
    go (x ∷ new) (o ∷ old) e = ap (λ ys. x ∷ ys) (go new old (omega (arith, e)))

-- the last of some that were moved is set
pub moved_but_last : (to : ℕ → ℕ) (fs : List ℕ) (n f : ℕ) → n ≡ length fs → set (map to (fs ++ f ∷ [])) n f ≡ map to fs ++ f ∷ []
moved_but_last to [] zero f e = refl
moved_but_last to [] (suc n) f e = absurd (omega (arith, e))
moved_but_last to (g ∷ fs) zero f e = absurd (omega (arith, e))
moved_but_last to (g ∷ fs) (suc n) f e = ap (λ xs. to g ∷ xs) (moved_but_last to fs n f (omega (arith, e)))

module _ (cs fs : List ℕ) (same : length cs ≡ length fs) where
  pub length_paired : length (paired cs fs) ≡ length cs
  length_paired = go cs fs same
    where
      go : (cs fs : List ℕ) → length cs ≡ length fs → length (paired cs fs) ≡ length cs
      go [] fs e = refl
      go (c ∷ cs) [] e = absurd (omega (arith, e))
      go (c ∷ cs) (f ∷ fs) e = ap suc (go cs fs (omega (arith, e)))

  pub changes_paired : changes_of (paired cs fs) ≡ cs
  changes_paired = go cs fs same
    where
      go : (cs fs : List ℕ) → length cs ≡ length fs → changes_of (paired cs fs) ≡ cs
      go [] fs e = refl
      go (c ∷ cs) [] e = absurd (omega (arith, e))
      go (c ∷ cs) (f ∷ fs) e = ap (λ xs. c ∷ xs) (go cs fs (omega (arith, e)))

  files_paired : map file_in (paired cs fs) ≡ fs
  files_paired = go cs fs same
    where
      go : (cs fs : List ℕ) → length cs ≡ length fs → map file_in (paired cs fs) ≡ fs
      go [] [] e = refl
      go [] (f ∷ fs) e = absurd (omega (arith, e))
      go (c ∷ cs) [] e = absurd (omega (arith, e))
      go (c ∷ cs) (f ∷ fs) e = ap (λ xs. f ∷ xs) (go cs fs (omega (arith, e)))

  -- all positions but the last one are moved
  pub last_kept : (to : ℕ → ℕ) (old : List Spot) (s : Spot) (n : ℕ) → paired cs fs ≡ old ++ s ∷ [] → n ≡ length old → paired cs (set (map to fs) n s.file) ≡ map (moved_by to) old ++ s ∷ []
  last_kept to old s n is at =
      let cs_are : cs ≡ changes_of old ++ s.change ∷ [] = sym changes_paired ∙ ap changes_of is ∙ map-append change_in old (s ∷ []) in
      let fs_are : fs ≡ map file_in old ++ s.file ∷ [] = sym files_paired ∙ ap (map file_in) is ∙ map-append file_in old (s ∷ []) in
      let files = length-map old file_in in
      let size : length (changes_of old) ≡ length (map to (map file_in old)) = length-map old change_in ∙ sym files ∙ sym (length-map (map file_in old) to) in
      ap₂ (λ xs ys. paired xs (set (map to ys) n s.file)) cs_are fs_are
      ∙ ap (paired (changes_of old ++ s.change ∷ [])) (moved_but_last to (map file_in old) n s.file (at ∙ sym files))
      ∙ paired_push (changes_of old) (map to (map file_in old)) s size
      ∙ ap (λ ss. ss ++ s ∷ []) (paired_map to (changes_of old) (map file_in old) ∙ ap (map (moved_by to)) (paired_apart old))

  pair_read : (i f : ℕ) (d : Spot) → i < length cs → f ≡ get_or fs i f → (get_or (paired cs fs) i d).file ≡ f
  pair_read i f d = go cs fs i same
    where
      go : (cs fs : List ℕ) (i : ℕ) → length cs ≡ length fs → i < length cs → f ≡ get_or fs i f → (get_or (paired cs fs) i d).file ≡ f
      go [] fs i e within is = absurd (omega (arith, within))
      go (c ∷ cs) [] i e within is = absurd (omega (arith, e))
      go (c ∷ cs) (g ∷ fs) zero e within is = sym is
      go (c ∷ cs) (g ∷ fs) (suc i) e within is = go cs fs i (omega (arith, e)) (omega (arith, within)) is

  pub changes_rise : AllPairs SpotBefore (paired cs fs) → AllPairs (λ a b. a < b) cs
  changes_rise rising = subst (AllPairs (λ a b. a < b)) changes_paired (AllPairs-map (λ a b. a < b) change_in (paired cs fs) rising)

  pub index_within : (change i : ℕ) → IsPositionOf (changes_of (paired cs fs)) change (Some i) → i < length cs
  index_within change i is =
      let inside = slice_get_within (changes_of (paired cs fs)) i change ((is i).0 refl) in
      omega (arith, inside, ap length changes_paired)

  pub spot_found : (change i f : ℕ) → AllPairs SpotBefore (paired cs fs) → IsPositionOf (changes_of (paired cs fs)) change (Some i) → f ≡ get_or fs i f → Some f ≡ spot_of (paired cs fs) change
  spot_found change i f rising is read =
      let spots = paired cs fs in
      let none : Spot = record { change = 0; file = 0 } in
      let inside = index_within change i is in
      let many = length_paired in
      let within : i < length spots = omega (arith, inside, many) in
      let at : (get_or spots i none).change ≡ change = sym (get_or-map change_in spots i none 0 within) ∙ get_or_from_slice_get (changes_of spots) i change 0 ((is i).0 refl) in
      ap Some (sym (pair_read i f none inside read)) ∙ sym (spot_at spots change i none rising within at)

pub absent_at : (spots : List Spot) (change : ℕ) → IsPositionOf (changes_of spots) change None → (k : ℕ) (d : Spot) → k < length spots → (get_or spots k d).change ≡ change → ⊥
absent_at spots change is k d within same =
    let many = length-map spots change_in in
    none-some k ((is k).1 (slice_get-get_or (changes_of spots) k d.change (omega (arith, within, many)) ∙ ap Some (get_or-map change_in spots k d d.change within ∙ same)))

pub spot_absent : (spots : List Spot) (change : ℕ) → IsPositionOf (changes_of spots) change None → None ≡ spot_of spots change
spot_absent spots change is = sym (spot_none spots change (λ k d within same. absent_at spots change is k d within same))

-- no position is past the last one that there is room for
pub files_within : (P : ℕ → Type 0) (cs fs : List ℕ) → length cs ≡ length fs → All (λ (s : Spot). P s.file) (paired cs fs) → All P fs
files_within P cs fs same all k d within =
    let none : Spot = record { change = 0; file = d } in
    let many = length_paired cs fs same in
    subst P (pair_read cs fs same k (get_or fs k d) none (omega (arith, within, same)) (read fs k d within)) (all k none (omega (arith, within, same, many)))
  where
    read : (fs : List ℕ) (k d : ℕ) → k < length fs → get_or fs k d ≡ get_or fs k (get_or fs k d)
    read [] k d w = absurd (omega (arith, w))
    read (f ∷ fs) zero d w = refl
    read (f ∷ fs) (suc k) d w = read fs k d (omega (arith, w))

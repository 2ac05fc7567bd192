-- Files in path order, with one put in or taken out where it belongs.
use Rattle.std.proofs.Common.{Global, ◌≡◌, ℕ, ◌+◌, true, false, cond, not, List, [], ◌∷◌, ◌++◌, length, map, get_or, set, Some, None, refl, sym, ap, ap₂, ◌∙◌, subst, arith}
use Rattle.std.specs.List.{AllByRecursion, insert, remove}
use Rattle.std.specs.Arc.{arc_value}
use Rattle.std.specs.declared.sync.Arc.{Arc}
use Rattle.std.specs.Str.{bytes_eq}
use Rattle.std.specs.Ordering.{is_lt}
use Rattle.std.proofs.Math.Seq.{get_or-append_seam, set-append_seam}
use Rattle.std.proofs.lemmas.Cmp.{nat_list_cmp_total}
use Rattle.std.proofs.lemmas.Slice.Eq.{bytes_eq-Decides}
use Rattle.std.proofs.lemmas.List.{map-append}
use Rattle.std.proofs.lemmas.Bool.{false_from_ne_true}
use Rattle.cq_base.proofs.Orderings.{Less-from_is_lt}
use Rattle.cq_history.specs.Files.{File, is_before, with_file, without_file, place_of, number_at}
use Rattle.cq_history.proofs.PathOrder.{before_apart, below_apart}
use Rattle.cq_projects.specs.Projects.{path_in}
use Rattle.cq_projects.specs.Ordered.{AreBelow, AreAbove, IsAt, IsGap}

pub above_apart : (p q : List ℕ) → is_before p q ≡ true → bytes_eq p q ≡ false
above_apart p q h = false_from_ne_true (bytes_eq p q) (λ e. before_apart p q h ((bytes_eq-Decides p q).0 e))

pub below_not_above : (p q : List ℕ) → is_before q p ≡ true → is_before p q ≡ false
below_not_above p q h = false_from_ne_true (is_before p q) (λ other. before_apart p p (ap is_lt (nat_list_cmp_total.trans p q p (Less-from_is_lt _ other) (Less-from_is_lt _ h))) refl)

pub insert_seam : {X : Type 0} (a b : List X) (f : X) → insert (a ++ b) (length a) f ≡ a ++ f ∷ b
insert_seam [] b f = refl
insert_seam (g ∷ a) b f = ap (λ r. g ∷ r) (insert_seam a b f)

pub remove_seam : {X : Type 0} (a b : List X) (f : X) → remove (a ++ f ∷ b) (length a) ≡ a ++ b
remove_seam [] b f = refl
remove_seam (g ∷ a) b f = ap (λ r. g ∷ r) (remove_seam a b f)

module _ {X : Type 0} where
  pub without_above : (p : List ℕ) (b : List (File X)) → AllByRecursion (λ f. is_before p f.path ≡ true) b → without_file p b ≡ b
  without_above p [] high = refl
  without_above p (g ∷ b) high = ap (λ t. cond (not t) (g ∷ without_file p b) (without_file p b)) (above_apart p g.path high.0) ∙ ap (λ r. g ∷ r) (without_above p b high.1)

  pub without_gap : (p : List ℕ) (a b : List (File X)) → AllByRecursion (λ f. is_before f.path p ≡ true) a → AllByRecursion (λ f. is_before p f.path ≡ true) b → without_file p (a ++ b) ≡ a ++ b
  without_gap p [] b low high = without_above p b high
  without_gap p (g ∷ a) b low high = ap (λ t. cond (not t) (g ∷ without_file p (a ++ b)) (without_file p (a ++ b))) (below_apart p g.path low.0) ∙ ap (λ r. g ∷ r) (without_gap p a b low.1 high)

  pub without_at : (p : List ℕ) (a b : List (File X)) (x : File X) → x.path ≡ p → AllByRecursion (λ f. is_before f.path p ≡ true) a → AllByRecursion (λ f. is_before p f.path ≡ true) b → without_file p (a ++ x ∷ b) ≡ a ++ b
  without_at p [] b x same low high = ap (λ t. cond (not t) (x ∷ without_file p b) (without_file p b)) ((bytes_eq-Decides p x.path).1 (sym same)) ∙ without_above p b high
  without_at p (g ∷ a) b x same low high = ap (λ t. cond (not t) (g ∷ without_file p (a ++ x ∷ b)) (without_file p (a ++ x ∷ b))) (below_apart p g.path low.0) ∙ ap (λ r. g ∷ r) (without_at p a b x same low.1 high)

  pub place_gap : (p : List ℕ) (a b : List (File X)) → AllByRecursion (λ f. is_before f.path p ≡ true) a → AllByRecursion (λ f. is_before p f.path ≡ true) b → place_of p (a ++ b) ≡ length a
  place_gap p [] [] low high = refl
  place_gap p [] (g ∷ b) low high = ap (λ t. cond (not t) (1 + place_of p b) 0) high.0
  place_gap p (g ∷ a) b low high = ap (λ t. cond (not t) (1 + place_of p (a ++ b)) 0) (below_not_above p g.path low.0) ∙ (let e = place_gap p a b low.1 high in omega (arith, e))

  pub with_gap : (f : File X) (a b : List (File X)) → AllByRecursion (λ g. is_before g.path f.path ≡ true) a → AllByRecursion (λ g. is_before f.path g.path ≡ true) b → with_file f (a ++ b) ≡ a ++ f ∷ b
  with_gap f a b low high =
      ap (λ r. insert r (place_of f.path r) f) (without_gap f.path a b low high)
      ∙ ap (λ n. insert (a ++ b) n f) (place_gap f.path a b low high) ∙ insert_seam a b f

  pub with_at : (f : File X) (a b : List (File X)) (x : File X) → x.path ≡ f.path → AllByRecursion (λ g. is_before g.path f.path ≡ true) a → AllByRecursion (λ g. is_before f.path g.path ≡ true) b → with_file f (a ++ x ∷ b) ≡ a ++ f ∷ b
  with_at f a b x same low high =
      ap (λ r. insert r (place_of f.path r) f) (without_at f.path a b x same low high)
      ∙ ap (λ n. insert (a ++ b) n f) (place_gap f.path a b low high) ∙ insert_seam a b f

  number_above : (p : List ℕ) (b : List (File X)) → AllByRecursion (λ f. is_before p f.path ≡ true) b → number_at p b ≡ None
  number_above p [] high = refl
  number_above p (g ∷ b) high = ap (λ t. cond t (Some g.number) (number_at p b)) (above_apart p g.path high.0) ∙ number_above p b high.1

  pub number_gap : (p : List ℕ) (a b : List (File X)) → AllByRecursion (λ f. is_before f.path p ≡ true) a → AllByRecursion (λ f. is_before p f.path ≡ true) b → number_at p (a ++ b) ≡ None
  number_gap p [] b low high = number_above p b high
  number_gap p (g ∷ a) b low high = ap (λ t. cond t (Some g.number) (number_at p (a ++ b))) (below_apart p g.path low.0) ∙ number_gap p a b low.1 high

  pub number_is : (p : List ℕ) (a b : List (File X)) (x : File X) → x.path ≡ p → AllByRecursion (λ f. is_before f.path p ≡ true) a → number_at p (a ++ x ∷ b) ≡ Some x.number
  number_is p [] b x same low = ap (λ t. cond t (Some x.number) (number_at p b)) ((bytes_eq-Decides p x.path).1 (sym same))
  number_is p (g ∷ a) b x same low = ap (λ t. cond t (Some g.number) (number_at p (a ++ x ∷ b))) (below_apart p g.path low.0) ∙ number_is p a b x same low.1

-- ---- the files that are held

module _ {W : Type 0} where
  pub all_below : (p : List ℕ) (hs : List (Arc (File W) Global)) → AreBelow path_in p hs → AllByRecursion (λ f. is_before f.path p ≡ true) (map arc_value hs)
  all_below p [] low = tt
  all_below p (h ∷ hs) low = (low.0, all_below p hs low.1)

  pub all_above : (p : List ℕ) (hs : List (Arc (File W) Global)) → AreAbove path_in p hs → AllByRecursion (λ f. is_before p f.path ≡ true) (map arc_value hs)
  all_above p [] high = tt
  all_above p (h ∷ hs) high = (high.0, all_above p hs high.1)

  module _ (hs : List (Arc (File W) Global)) (p : List ℕ) (i : ℕ) where
    split_at : (at : IsAt path_in p hs i) → map arc_value hs ≡ map arc_value at.before ++ arc_value at.item ∷ map arc_value at.after
    split_at at = ap (map arc_value) at.is ∙ map-append arc_value at.before (at.item ∷ at.after)

    split_gap : (gap : IsGap path_in p hs i) → map arc_value hs ≡ map arc_value gap.before ++ map arc_value gap.after
    split_gap gap = ap (map arc_value) gap.is ∙ map-append arc_value gap.before gap.after

    pub replaced_at : (at : IsAt path_in p hs i) (h : Arc (File W) Global) → path_in h ≡ p → map arc_value (set hs i h) ≡ with_file (arc_value h) (map arc_value hs)
    replaced_at at h same =
        ap₂ (λ ys n. map arc_value (set ys n h)) at.is (sym at.index)
        ∙ ap (map arc_value) (set-append_seam at.before at.item at.after h)
        ∙ map-append arc_value at.before (h ∷ at.after)
        ∙ sym (with_at (arc_value h) (map arc_value at.before) (map arc_value at.after) (arc_value at.item) (at.same ∙ sym same)
        (subst (λ q. AllByRecursion (λ f. is_before f.path q ≡ true) (map arc_value at.before)) (sym same) (all_below p at.before at.low))
        (subst (λ q. AllByRecursion (λ f. is_before q f.path ≡ true) (map arc_value at.after)) (sym same) (all_above p at.after at.high)))
        ∙ ap (with_file (arc_value h)) (sym (split_at at))

    pub removed_at : (at : IsAt path_in p hs i) → map arc_value (remove hs i) ≡ without_file p (map arc_value hs)
    removed_at at =
        ap₂ (λ ys n. map arc_value (remove ys n)) at.is (sym at.index)
        ∙ ap (map arc_value) (remove_seam at.before at.after at.item)
        ∙ map-append arc_value at.before at.after
        ∙ sym (without_at p (map arc_value at.before) (map arc_value at.after) (arc_value at.item) at.same (all_below p at.before at.low) (all_above p at.after at.high))
        ∙ ap (without_file p) (sym (split_at at))

    pub number_at_index : (at : IsAt path_in p hs i) (h : Arc (File W) Global) → h ≡ get_or hs i h → Some (arc_value h).number ≡ number_at p (map arc_value hs)
    number_at_index at h read =
        let here : h ≡ at.item = read ∙ ap₂ (λ ys n. get_or ys n h) at.is (sym at.index) ∙ get_or-append_seam at.before at.item at.after h in
        ap (λ (x : Arc (File W) Global). Some (arc_value x).number) here
        ∙ sym (number_is p (map arc_value at.before) (map arc_value at.after) (arc_value at.item) at.same (all_below p at.before at.low))
        ∙ ap (number_at p) (sym (split_at at))

    pub inserted_at : (gap : IsGap path_in p hs i) (h : Arc (File W) Global) → path_in h ≡ p → map arc_value (insert hs i h) ≡ with_file (arc_value h) (map arc_value hs)
    inserted_at gap h same =
        ap₂ (λ ys n. map arc_value (insert ys n h)) gap.is (sym gap.index)
        ∙ ap (map arc_value) (insert_seam gap.before gap.after h)
        ∙ map-append arc_value gap.before (h ∷ gap.after)
        ∙ sym (with_gap (arc_value h) (map arc_value gap.before) (map arc_value gap.after)
        (subst (λ q. AllByRecursion (λ f. is_before f.path q ≡ true) (map arc_value gap.before)) (sym same) (all_below p gap.before gap.low))
        (subst (λ q. AllByRecursion (λ f. is_before q f.path ≡ true) (map arc_value gap.after)) (sym same) (all_above p gap.after gap.high)))
        ∙ ap (with_file (arc_value h)) (sym (split_gap gap))

    pub none_at : IsGap path_in p hs i → without_file p (map arc_value hs) ≡ map arc_value hs
    none_at gap =
        ap (without_file p) (split_gap gap)
        ∙ without_gap p (map arc_value gap.before) (map arc_value gap.after) (all_below p gap.before gap.low) (all_above p gap.after gap.high)
        ∙ sym (split_gap gap)

    pub no_number_at : IsGap path_in p hs i → None ≡ number_at p (map arc_value hs)
    no_number_at gap =
        sym (number_gap p (map arc_value gap.before) (map arc_value gap.after) (all_below p gap.before gap.low) (all_above p gap.after gap.high))
        ∙ ap (number_at p) (sym (split_gap gap))

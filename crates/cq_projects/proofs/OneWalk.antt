-- A batch of edits in path order is made in one walk: an edit of a path that is after some files leaves them as they are.
use Rattle.std.proofs.Common.{Global, ◌≡◌, ℕ, suc, ◌+◌, ◌<◌, true, cond, not, List, [], ◌∷◌, ◌++◌, length, Option, Some, None, refl, sym, ap, ◌∙◌, subst, arith}
use Rattle.std.specs.Prelude.{All}
use Rattle.std.specs.Arc.{arc_value}
use Rattle.std.specs.Map.{keys_of}
use Rattle.std.specs.Ordering.{is_lt}
use Rattle.std.specs.BTreeMap.Range.{IsLtBy}
use Rattle.std.proofs.lemmas.List.Elements.{All-head, All-tail}
use Rattle.cq_projects.proofs.Gathering.{text_cmp}
use Rattle.std.specs.declared.sync.Arc.{Arc}
use Rattle.std.specs.List.{AllByRecursion, insert}
use Rattle.std.proofs.lemmas.List.{append_assoc}
use Rattle.std.proofs.lemmas.Slice.Eq.{bytes_eq-Decides}
use Rattle.cq_history.specs.Files.{File, is_before, with_file, without_file, place_of}
use Rattle.cq_projects.specs.Drafts.{edited_at, edited_all, IsOwn, AreOwn, one_or_none, Merges}
use Rattle.cq_projects.specs.Projects.{path_of}
use Rattle.cq_projects.specs.Ordered.{AreBelow, AreAbove}
use Rattle.cq_projects.proofs.PathOrders.{all_without, all_insert}
use Rattle.cq_projects.proofs.Putting.{below_not_above, without_above, place_gap}
use Rattle.cq_history.proofs.PathOrder.{before_chain, below_apart}

module _ {X : Type 0} where
  without_low : (p : List ℕ) (low files : List (File X)) → AreBelow path_of p low → without_file p (low ++ files) ≡ low ++ without_file p files
  without_low p [] files below = refl
  without_low p (g ∷ low) files below =
      ap (λ t. cond (not t) (g ∷ without_file p (low ++ files)) (without_file p (low ++ files))) (below_apart p g.path below.0) ∙ ap (λ r. g ∷ r) (without_low p low files below.1)

  place_low : (p : List ℕ) (low files : List (File X)) → AreBelow path_of p low → place_of p (low ++ files) ≡ length low + place_of p files
  place_low p [] files below = omega arith
  place_low p (g ∷ low) files below =
      ap (λ t. cond (not t) (1 + place_of p (low ++ files)) 0) (below_not_above p g.path below.0) ∙ (let e = place_low p low files below.1 in omega (arith, e))

  insert_low : (low files : List (File X)) (n : ℕ) (f : File X) → insert (low ++ files) (length low + n) f ≡ low ++ insert files n f
  insert_low [] files n f = ap (λ k. insert files k f) (let e : 0 + n ≡ n = omega arith in e)
  insert_low (g ∷ low) files n f =
      ap (λ k. insert (g ∷ (low ++ files)) k f) (let e : length (g ∷ low) + n ≡ suc (length low + n) = omega arith in e) ∙ ap (λ r. g ∷ r) (insert_low low files n f)

  -- a file that is put after some leaves them as they are
  pub with_low : (f : File X) (low files : List (File X)) → AreBelow path_of f.path low → with_file f (low ++ files) ≡ low ++ with_file f files
  with_low f low files below =
      ap (λ r. insert r (place_of f.path r) f) (without_low f.path low files below)
      ∙ ap (λ n. insert (low ++ without_file f.path files) n f) (place_low f.path low (without_file f.path files) below)
      ∙ insert_low low (without_file f.path files) (place_of f.path (without_file f.path files)) f

  without_same : (p : List ℕ) (same files : List (File X)) → AllByRecursion (λ (f : File X). f.path ≡ p) same → AreAbove path_of p files → without_file p (same ++ files) ≡ files
  without_same p [] files at above = without_above p files above
  without_same p (g ∷ same) files at above =
      ap (λ t. cond (not t) (g ∷ without_file p (same ++ files)) (without_file p (same ++ files))) ((bytes_eq-Decides p g.path).1 (sym at.0)) ∙ without_same p same files at.1 above

  with_same : (f : File X) (same files : List (File X)) → AllByRecursion (λ (g : File X). g.path ≡ f.path) same → AreAbove path_of f.path files → with_file f (same ++ files) ≡ f ∷ files
  with_same f same files at above =
      ap (λ r. insert r (place_of f.path r) f) (without_same f.path same files at above) ∙ ap (λ n. insert files n f) (place_gap f.path [] files tt above)

  pub below_both : (p : List ℕ) (a b : List (File X)) → AreBelow path_of p a → AreBelow path_of p b → AreBelow path_of p (a ++ b)
  below_both p [] b low high = high
  below_both p (x ∷ a) b low high = (low.0, below_both p a b low.1 high)

  -- what is below or at a path is below each later one
  pub below_later : (p q : List ℕ) (files : List (File X)) → is_before p q ≡ true → AreBelow path_of p files → AreBelow path_of q files
  below_later p q [] before below = tt
  below_later p q (x ∷ files) before below = (before_chain x.path p q below.0 before, below_later p q files before below.1)

  pub at_later : (p q : List ℕ) (files : List (File X)) → is_before p q ≡ true → AllByRecursion (λ (f : File X). f.path ≡ p) files → AreBelow path_of q files
  at_later p q [] before at = tt
  at_later p q (x ∷ files) before at = (ap (λ r. is_before r q) at.0 ∙ before, at_later p q files before at.1)

module _ {W : Type 0} where
  -- each later edit is at a path after this one
  abbrev pub AreLater : List ℕ → List (Arc (List ℕ) Global × Option (Arc (File W) Global)) → Type 0
  AreLater p es = AllByRecursion (λ (e : Arc (List ℕ) Global × Option (Arc (File W) Global)). is_before p (arc_value e.0) ≡ true) es

  -- the files are below the path of each edit
  abbrev pub AreBelowAll : List (File W) → List (Arc (List ℕ) Global × Option (Arc (File W) Global)) → Type 0
  AreBelowAll files es = AllByRecursion (λ (e : Arc (List ℕ) Global × Option (Arc (File W) Global)). AreBelow path_of (arc_value e.0) files) es

  edited_low : (p : List ℕ) (file : Option (Arc (File W) Global)) (low files : List (File W)) → IsOwn p file → AreBelow path_of p low → edited_at p file (low ++ files) ≡ low ++ edited_at p file files
  edited_low p None low files own below = without_low p low files below
  edited_low p (Some held) low files own below = with_low (arc_value held) low files (subst (λ q. AreBelow path_of q low) (sym own) below)

  all_low : (es : List (Arc (List ℕ) Global × Option (Arc (File W) Global))) (low files : List (File W)) → AreOwn es → AreBelowAll low es → edited_all es (low ++ files) ≡ low ++ edited_all es files
  all_low [] low files own below = refl
  all_low (e ∷ es) low files own below =
      ap (edited_at (arc_value e.0) e.1) (all_low es low files own.1 below.1) ∙ edited_low (arc_value e.0) e.1 low (edited_all es files) own.0 below.0

  edited_above : (p q : List ℕ) (file : Option (Arc (File W) Global)) (files : List (File W)) → IsOwn q file → is_before p q ≡ true → AreAbove path_of p files → AreAbove path_of p (edited_at q file files)
  edited_above p q None files own before above = all_without (λ (g : File W). is_before p g.path ≡ true) q files above
  edited_above p q (Some held) files own before above =
      all_insert (λ (g : File W). is_before p g.path ≡ true) (without_file (arc_value held).path files) _ (arc_value held)
      (all_without (λ (g : File W). is_before p g.path ≡ true) (arc_value held).path files above) (ap (is_before p) own ∙ before)

  all_above : (p : List ℕ) (es : List (Arc (List ℕ) Global × Option (Arc (File W) Global))) (files : List (File W)) → AreOwn es → AreLater p es → AreAbove path_of p files → AreAbove path_of p (edited_all es files)
  all_above p [] files own later above = above
  all_above p (e ∷ es) files own later above = edited_above p (arc_value e.0) e.1 (edited_all es files) own.0 later.0 (all_above p es files own.1 later.1 above)

  edited_same : (p : List ℕ) (file : Option (Arc (File W) Global)) (same files : List (File W)) → IsOwn p file → AllByRecursion (λ (f : File W). f.path ≡ p) same → AreAbove path_of p files → edited_at p file (same ++ files) ≡ one_or_none file ++ files
  edited_same p None same files own at above = without_same p same files at above
  edited_same p (Some held) same files own at above =
      with_same (arc_value held) same files (subst (λ q. AllByRecursion (λ (f : File W). f.path ≡ q) same) (sym own) at) (subst (λ q. AreAbove path_of q files) (sym own) above)

  below_all : (p : List ℕ) (files : List (File W)) (es : List (Arc (List ℕ) Global × Option (Arc (File W) Global))) → AreLater p es → ((q : List ℕ) → is_before p q ≡ true → AreBelow path_of q files) → AreBelowAll files es
  below_all p files [] later each = tt
  below_all p files (e ∷ es) later each = (each (arc_value e.0) later.0, below_all p files es later.1 each)

  one_below : (p q : List ℕ) (file : Option (Arc (File W) Global)) → IsOwn p file → is_before p q ≡ true → AreBelow path_of q (one_or_none file)
  one_below p q None own before = tt
  one_below p q (Some held) own before = (ap (λ r. is_before r q) own ∙ before, tt)

  module _ (path : Arc (List ℕ) Global) (file : Option (Arc (File W) Global)) (es : List (Arc (List ℕ) Global × Option (Arc (File W) Global))) (own : IsOwn (arc_value path) file) (all_own : AreOwn es) (later : AreLater (arc_value path) es)
      (done now rest left : List (File W)) (is : Merges (arc_value path) file done now rest left) where
    abbrev p : List ℕ
    p = arc_value path

    -- the edits that are left make of what is left what was wanted
    pub merged_on : done ++ edited_all ((path, file) ∷ es) rest ≡ now ++ edited_all es left
    merged_on =
        let y : List (File W) = edited_all es left in
        let front : List (File W) = is.low ++ is.same in
        let split : edited_all es rest ≡ is.low ++ (is.same ++ y) =
        ap (edited_all es) (is.is ∙ sym (append_assoc is.low is.same left))
        ∙ all_low es front left all_own (below_all (arc_value path) front es later (λ q before. below_both q is.low is.same (below_later (arc_value path) q is.low before is.low_below) (at_later (arc_value path) q is.same before is.same_at)))
        ∙ append_assoc is.low is.same y in
        let one : edited_at (arc_value path) file (edited_all es rest) ≡ is.low ++ (one_or_none file ++ y) =
        ap (edited_at (arc_value path) file) split ∙ edited_low (arc_value path) file is.low (is.same ++ y) own is.low_below
        ∙ ap (λ r. is.low ++ r) (edited_same (arc_value path) file is.same y own is.same_at (all_above (arc_value path) es left all_own later is.left_above)) in
        ap (λ r. done ++ r) (one ∙ sym (append_assoc is.low (one_or_none file) y)) ∙ sym (append_assoc done (is.low ++ one_or_none file) y) ∙ ap (λ r. r ++ y) (sym is.now_is)

    -- what is done stays below each edit that is left
    pub below_on : AreBelow path_of (arc_value path) done → AreBelowAll now es
    below_on below =
        below_all (arc_value path) now es later
        (λ q before. subst (AreBelow path_of q) (sym is.now_is)
        (below_both q done (is.low ++ one_or_none file) (below_later (arc_value path) q done before below)
        (below_both q is.low (one_or_none file) (below_later (arc_value path) q is.low before is.low_below) (one_below (arc_value path) q file own before))))

  pub below_none : (es : List (Arc (List ℕ) Global × Option (Arc (File W) Global))) → AreBelowAll [] es
  below_none [] = tt
  below_none (e ∷ es) = (tt, below_none es)

  pub later_from : (path : Arc (List ℕ) Global) (es : List (Arc (List ℕ) Global × Option (Arc (File W) Global))) → All (IsLtBy text_cmp path) (keys_of es) → AreLater (arc_value path) es
  later_from path [] all = tt
  later_from path (e ∷ es) all = (ap is_lt (All-head (IsLtBy text_cmp path) e.0 (keys_of es) all), later_from path es (All-tail (IsLtBy text_cmp path) e.0 (keys_of es) all))

pub none_left : {X : Type 0} (xs : List X) → (0 < length xs → ⊥) → xs ≡ []
none_left [] few = refl
none_left (x ∷ xs) few = absurd (few (omega arith))

-- The owners of projects: their order, and one that is added.
use Rattle.std.proofs.Common.{Global, ◌≡◌, ℕ, ◌+◌, ◌<◌, true, false, cond, not, List, [], ◌∷◌, ◌++◌, length, map, get_or, set, refl, sym, ap, ap₂, ◌∙◌, subst, arith, length-append}
use Rattle.std.specs.List.{AllByRecursion, insert, position_or_len}
use Rattle.std.specs.Arc.{arc_value}
use Rattle.std.specs.declared.sync.Arc.{Arc}
use Rattle.std.specs.Str.{bytes_eq}
use Rattle.std.proofs.lemmas.List.{map-append, map-set, set-get_or, get_or-map}
use Rattle.std.proofs.lemmas.Slice.Eq.{bytes_eq-Decides}
use Rattle.cq_history.specs.Files.{is_before, File}
use Rattle.cq_projects.specs.Projects.{owner_name, projects_in, name_in, path_in, path_of, files_in, conditions_in, position_of, ListedProject}
use Rattle.cq_projects.specs.Ordered.{AreRising, AreBelow, AreAbove, IsAt, IsGap}
use Rattle.cq_history.proofs.PathOrder.{below_apart}
use Rattle.cq_projects.proofs.Putting.{above_apart, insert_seam}
use Rattle.cq_projects.proofs.ProjectLists.{files_in-seam, conditions_in-seam}

-- ---- an order goes by the texts alone

module _ {X Y : Type 0} (text : X → List ℕ) (other : Y → List ℕ) where
  head_of : (x : X) (xs : List X) (y : Y) (ys : List Y) → text x ∷ map text xs ≡ other y ∷ map other ys → text x ≡ other y
  head_of x xs y ys e = cc e

  tail_of : (x : X) (xs : List X) (y : Y) (ys : List Y) → text x ∷ map text xs ≡ other y ∷ map other ys → map text xs ≡ map other ys
  tail_of x xs y ys e = cc e

  all_same : (P : List ℕ → Type 0) (xs : List X) (ys : List Y) → map text xs ≡ map other ys → AllByRecursion (λ x. P (text x)) xs → AllByRecursion (λ y. P (other y)) ys
  all_same P [] [] same all = tt
  all_same P (x ∷ xs) (y ∷ ys) same all = (subst P (head_of x xs y ys same) all.0, all_same P xs ys (tail_of x xs y ys same) all.1)
  all_same P [] (y ∷ ys) same all = absurd (cc)
  all_same P (x ∷ xs) [] same all = absurd (cc)

  pub rising_same : (xs : List X) (ys : List Y) → map text xs ≡ map other ys → AreRising text xs → AreRising other ys
  rising_same [] [] same rising = tt
  rising_same (x ∷ xs) (y ∷ ys) same rising = (
    subst (λ p. AllByRecursion (λ (z : Y). is_before p (other z) ≡ true) ys) (head_of x xs y ys same) (all_same (λ q. is_before (text x) q ≡ true) xs ys (tail_of x xs y ys same) rising.0),
    rising_same xs ys (tail_of x xs y ys same) rising.1,
  )
  rising_same [] (y ∷ ys) same rising = absurd (cc)
  rising_same (x ∷ xs) [] same rising = absurd (cc)

module _ {X : Type 0} (text : X → List ℕ) where
  all_both : (P : X → Type 0) (a b : List X) → AllByRecursion P (a ++ b) → AllByRecursion P a × AllByRecursion P b
  all_both P [] b all = (tt, all)
  all_both P (x ∷ a) b all = let rest = all_both P a b all.1 in ((all.0, rest.0), rest.1)

  all_join : (P : X → Type 0) (a : List X) (x : X) (b : List X) → AllByRecursion P a → P x → AllByRecursion P b → AllByRecursion P (a ++ x ∷ b)
  all_join P [] x b low here high = (here, high)
  all_join P (y ∷ a) x b low here high = (low.0, all_join P a x b low.1 here high)

  -- one more between those below and those above
  pub rising_insert : (a b : List X) (x : X) → AreBelow text (text x) a → AreAbove text (text x) b → AreRising text (a ++ b) → AreRising text (a ++ x ∷ b)
  rising_insert [] b x low high rising = (high, rising)
  rising_insert (y ∷ a) b x low high rising =
      let both = all_both (λ (z : X). is_before (text y) (text z) ≡ true) a b rising.0 in
      (all_join (λ (z : X). is_before (text y) (text z) ≡ true) a x b both.0 low.0 both.1, rising_insert a b x low.1 high rising.1)

  pub rising_set : (xs : List X) (i : ℕ) (x y : X) → i < length xs → x ≡ get_or xs i x → text y ≡ text x → AreRising text xs → AreRising text (set xs i y)
  rising_set xs i x y within read same rising =
      rising_same text text xs (set xs i y)
      (sym (map-set text xs i y ∙ ap (set (map text xs) i) (same ∙ ap text read ∙ sym (get_or-map text xs i x (text x) within)) ∙ set-get_or (map text xs) i (text x))) rising

  -- the first with a text is the one at which it was found
  pub position_seam : (p : List ℕ) (a b : List X) (x : X) → AreBelow text p a → text x ≡ p → position_or_len (λ (y : X). bytes_eq p (text y)) (a ++ x ∷ b) ≡ length a
  position_seam p [] b x low same = ap (λ t. cond (not t) (1 + position_or_len (λ (y : X). bytes_eq p (text y)) b) 0) ((bytes_eq-Decides p (text x)).1 (sym same))
  position_seam p (y ∷ a) b x low same =
      ap (λ t. cond (not t) (1 + position_or_len (λ (z : X). bytes_eq p (text z)) (a ++ x ∷ b)) 0) (below_apart p (text y) low.0)
      ∙ (let e = position_seam p a b x low.1 same in omega (arith, e))

-- ---- what is shown of the projects

module _ {W : Type 0} where
  -- files in path order, as they are held
  held_paths : (hs : List (Arc (File W) Global)) → map path_of (map arc_value hs) ≡ map path_in hs
  held_paths [] = refl
  held_paths (h ∷ hs) = ap (λ ps. path_in h ∷ ps) (held_paths hs)

  pub rising_held : (hs : List (Arc (File W) Global)) → AreRising path_of (map arc_value hs) → AreRising path_in hs
  rising_held hs rising = rising_same path_of path_in (map arc_value hs) hs (held_paths hs) rising

  pub rising_alike : (hs ks : List (Arc (File W) Global)) → map arc_value ks ≡ map arc_value hs → AreRising path_in hs → AreRising path_in ks
  rising_alike hs ks same rising = rising_held ks (subst (AreRising path_of) (sym same) (rising_same path_in path_of hs (map arc_value hs) (sym (held_paths hs)) rising))

  -- ---- the owner at an index

  position_owners : (name : List ℕ) (owners : List (Arc (ListedProject W) Global)) → position_of name (projects_in owners) ≡ position_or_len (λ (p : Arc (ListedProject W) Global). bytes_eq name (owner_name p)) owners
  position_owners name [] = refl
  position_owners name (p ∷ owners) = ap (λ n. cond (not (bytes_eq name (owner_name p))) (1 + n) 0) (position_owners name owners)

  pub position_at : (name : List ℕ) (owners : List (Arc (ListedProject W) Global)) (i : ℕ) → IsAt owner_name name owners i → i ≡ position_of name (projects_in owners)
  position_at name owners i at =
      sym at.index ∙ sym (position_seam owner_name name at.before at.after at.item at.low at.same)
      ∙ ap (position_or_len (λ (p : Arc (ListedProject W) Global). bytes_eq name (owner_name p))) (sym at.is) ∙ sym (position_owners name owners)

  -- ---- a project that is added

  module _ (name : List ℕ) (owners : List (Arc (ListedProject W) Global)) (i : ℕ) (gap : IsGap owner_name name owners i) (part : Arc (ListedProject W) Global) (named : owner_name part ≡ name) where
    abbrev project : ListedProject W
    project = arc_value part

    seam : insert owners i part ≡ gap.before ++ part ∷ gap.after
    seam = ap₂ (λ ps n. insert ps n part) gap.is (sym gap.index) ∙ insert_seam gap.before gap.after part

    pub added_rising : AreRising owner_name owners → AreRising owner_name (insert owners i part)
    added_rising rising =
        subst (AreRising owner_name) (sym seam)
        (rising_insert owner_name gap.before gap.after part
        (subst (λ p. AreBelow owner_name p gap.before) (sym named) gap.low)
        (subst (λ p. AreAbove owner_name p gap.after) (sym named) gap.high)
        (subst (AreRising owner_name) gap.is rising))

    pub added_within : i < length (insert owners i part)
    added_within = omega (arith, ap length seam, length-append gap.before (part ∷ gap.after), gap.index)

    pub added_position : i ≡ position_of name (projects_in (insert owners i part))
    added_position =
        sym gap.index ∙ sym (position_seam owner_name name gap.before gap.after part gap.low named)
        ∙ ap (position_or_len (λ (p : Arc (ListedProject W) Global). bytes_eq name (owner_name p))) (sym seam) ∙ sym (position_owners name (insert owners i part))

    projects_seam : projects_in (insert owners i part) ≡ projects_in gap.before ++ project ∷ projects_in gap.after
    projects_seam = ap projects_in seam ∙ map-append arc_value gap.before (part ∷ gap.after)

    projects_gap : projects_in owners ≡ projects_in gap.before ++ projects_in gap.after
    projects_gap = ap projects_in gap.is ∙ map-append arc_value gap.before gap.after

    others : (P : List ℕ → Type 0) (ps : List (Arc (ListedProject W) Global)) → AllByRecursion (λ p. P (owner_name p)) ps → ((q : List ℕ) → P q → bytes_eq project.name q ≡ false) → AllByRecursion (λ p. bytes_eq project.name p.name ≡ false) (projects_in ps)
    others P [] all apart = tt
    others P (p ∷ ps) all apart = (apart (owner_name p) all.0, others P ps all.1 apart)

    low_apart : AllByRecursion (λ p. bytes_eq project.name p.name ≡ false) (projects_in gap.before)
    low_apart = others (λ q. is_before q name ≡ true) gap.before gap.low (λ q h. ap (λ n. bytes_eq n q) named ∙ below_apart name q h)

    high_apart : AllByRecursion (λ p. bytes_eq project.name p.name ≡ false) (projects_in gap.after)
    high_apart = others (λ q. is_before name q ≡ true) gap.after gap.high (λ q h. ap (λ n. bytes_eq n q) named ∙ above_apart name q h)

    pub added_files : project.files ≡ [] → (q : List ℕ) → files_in (projects_in (insert owners i part)) q ≡ files_in (projects_in owners) q
    added_files none q = ap (λ ps. files_in ps q) projects_seam ∙ files_in-seam (projects_in gap.before) (projects_in gap.after) project none low_apart high_apart q ∙ ap (λ ps. files_in ps q) (sym projects_gap)

    pub added_conditions : project.conditions ≡ [] → (q : List ℕ) → conditions_in (projects_in (insert owners i part)) q ≡ conditions_in (projects_in owners) q
    added_conditions none q = ap (λ ps. conditions_in ps q) projects_seam ∙ conditions_in-seam (projects_in gap.before) (projects_in gap.after) project none low_apart high_apart q ∙ ap (λ ps. conditions_in ps q) (sym projects_gap)

  pub owner_names : (projects : List (Arc (ListedProject W) Global)) → map name_in (map arc_value projects) ≡ map owner_name projects
  owner_names [] = refl
  owner_names (p ∷ projects) = ap (λ ns. owner_name p ∷ ns) (owner_names projects)

  pub rising_owners : (projects : List (Arc (ListedProject W) Global)) → AreRising name_in (projects_in projects) → AreRising owner_name projects
  rising_owners projects rising = rising_same name_in owner_name (projects_in projects) projects (owner_names projects) rising

  pub rising_projects : (projects : List (Arc (ListedProject W) Global)) → AreRising owner_name projects → AreRising name_in (projects_in projects)
  rising_projects projects rising = rising_same owner_name name_in projects (projects_in projects) (sym (owner_names projects)) rising

  -- the one at the index of a search
  pub found_within : (name : List ℕ) (projects : List (Arc (ListedProject W) Global)) (i : ℕ) → IsAt owner_name name projects i → i < length projects
  found_within name projects i at = omega (arith, ap length at.is, length-append at.before (at.item ∷ at.after), at.index)

-- ---- the same of the projects of drafts, which have no owners

module _ {W : Type 0} (name : List ℕ) (projects : List (ListedProject W)) (i : ℕ) where
  pub listed_position : IsAt name_in name projects i → i ≡ position_of name projects
  listed_position at = sym at.index ∙ sym (position_seam name_in name at.before at.after at.item at.low at.same) ∙ ap (position_of name) (sym at.is)

  pub listed_within : IsAt name_in name projects i → i < length projects
  listed_within at = omega (arith, ap length at.is, length-append at.before (at.item ∷ at.after), at.index)

  module _ (gap : IsGap name_in name projects i) (part : ListedProject W) (named : part.name ≡ name) where
    listed_seam : insert projects i part ≡ gap.before ++ part ∷ gap.after
    listed_seam = ap₂ (λ ps n. insert ps n part) gap.is (sym gap.index) ∙ insert_seam gap.before gap.after part

    pub listed_rising : AreRising name_in projects → AreRising name_in (insert projects i part)
    listed_rising rising =
        subst (AreRising name_in) (sym listed_seam)
        (rising_insert name_in gap.before gap.after part
        (subst (λ p. AreBelow name_in p gap.before) (sym named) gap.low)
        (subst (λ p. AreAbove name_in p gap.after) (sym named) gap.high)
        (subst (AreRising name_in) gap.is rising))

    pub listed_inserted : i < length (insert projects i part)
    listed_inserted = omega (arith, ap length listed_seam, length-append gap.before (part ∷ gap.after), gap.index)

    pub listed_first : i ≡ position_of name (insert projects i part)
    listed_first = sym gap.index ∙ sym (position_seam name_in name gap.before gap.after part gap.low named) ∙ ap (position_of name) (sym listed_seam)

    apart : (P : List ℕ → Type 0) (ps : List (ListedProject W)) → AllByRecursion (λ p. P (name_in p)) ps → ((q : List ℕ) → P q → bytes_eq part.name q ≡ false) → AllByRecursion (λ p. bytes_eq part.name (name_in p) ≡ false) ps
    apart P [] all each = tt
    apart P (p ∷ ps) all each = (each (name_in p) all.0, apart P ps all.1 each)

    low_no : AllByRecursion (λ p. bytes_eq part.name (name_in p) ≡ false) gap.before
    low_no = apart (λ q. is_before q name ≡ true) gap.before gap.low (λ q h. ap (λ n. bytes_eq n q) named ∙ below_apart name q h)

    high_no : AllByRecursion (λ p. bytes_eq part.name (name_in p) ≡ false) gap.after
    high_no = apart (λ q. is_before name q ≡ true) gap.after gap.high (λ q h. ap (λ n. bytes_eq n q) named ∙ above_apart name q h)

    pub listed_files : part.files ≡ [] → (q : List ℕ) → files_in (insert projects i part) q ≡ files_in projects q
    listed_files none q = ap (λ ps. files_in ps q) listed_seam ∙ files_in-seam gap.before gap.after part none low_no high_no q ∙ ap (λ ps. files_in ps q) (sym gap.is)

    pub listed_conditions : part.conditions ≡ [] → (q : List ℕ) → conditions_in (insert projects i part) q ≡ conditions_in projects q
    listed_conditions none q = ap (λ ps. conditions_in ps q) listed_seam ∙ conditions_in-seam gap.before gap.after part none low_no high_no q ∙ ap (λ ps. conditions_in ps q) (sym gap.is)

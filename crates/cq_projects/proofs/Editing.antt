-- A list of projects of which one was edited.
use Rattle.std.proofs.Common.{Global, ◌≡◌, ◌<◌, ℕ, List, length, get_or, set, cond, Ok, Err, Result, sym, ap, ◌∙◌, arith}
use Rattle.std.specs.Prelude.{OnOk}
use Rattle.std.specs.Arc.{arc_value}
use Rattle.std.specs.declared.sync.Arc.{Arc}
use Rattle.std.specs.Str.{bytes_eq}
use Rattle.std.proofs.lemmas.List.{length-map, map-set, get_or-map}
use Rattle.cq_base.proofs.Bools.{cond-same}
use Rattle.cq_base.specs.declared.change.Condition.{Condition}
use Rattle.cq_history.specs.Files.{File}
use Rattle.cq_projects.specs.Projects.{owner_name, projects_in, files_in, conditions_in, position_of, ListedProject}
use Rattle.cq_projects.specs.Ordered.{AreRising}
use Rattle.cq_projects.proofs.OwnerLists.{rising_set}
use Rattle.cq_projects.proofs.ProjectLists.{files_at-position, put_at, gate_at}

pub ok_both : {T E P Q R : Type 0} (r : Result T E) → (P → Q → R) → OnOk r P → OnOk r Q → OnOk r R
ok_both (Ok x) f a b = f a b
ok_both (Err e) f a b = tt

module _ {W : Type 0} (name : List ℕ) (old now : List (Arc (ListedProject W) Global)) (i : ℕ) (first : i ≡ position_of name (projects_in now)) (in_range : i < length now) (was : Arc (ListedProject W) Global) (read : was ≡ get_or now i was) where
  within : i < length (projects_in now)
  within = omega (arith, in_range, length-map now (arc_value {X = ListedProject W} {Z = Global}))

  read_project : arc_value was ≡ get_or (projects_in now) i (arc_value was)
  read_project = ap arc_value read ∙ sym (get_or-map arc_value now i was (arc_value was) in_range)

  set_project : (new : Arc (ListedProject W) Global) → projects_in (set now i new) ≡ set (projects_in now) i (arc_value new)
  set_project new = map-set arc_value now i new

  pub names_stay : (new : Arc (ListedProject W) Global) → owner_name new ≡ owner_name was → AreRising owner_name now → AreRising owner_name (set now i new)
  names_stay new named rising = rising_set owner_name now i was new in_range read named rising

  module _ (files_stayed : (q : List ℕ) → files_in (projects_in now) q ≡ files_in (projects_in old) q) where
    pub files_here : (arc_value was).files ≡ files_in (projects_in old) name
    files_here = sym (files_at-position name (projects_in now) i (arc_value was) first within read_project).1 ∙ files_stayed name

    pub files_edited : (new : Arc (ListedProject W) Global) (change : List (File W) → List (File W)) → owner_name new ≡ owner_name was → (arc_value new).files ≡ change ((arc_value was).files) →
        (q : List ℕ) → files_in (projects_in (set now i new)) q ≡ cond (bytes_eq q name) (change (files_in (projects_in old) q)) (files_in (projects_in old) q)
    files_edited new change named done q =
        ap (λ ps. files_in ps q) (set_project new)
        ∙ put_at name (projects_in now) i (arc_value was) (arc_value new) change first within read_project named done q
        ∙ ap (λ fs. cond (bytes_eq q name) (change fs) fs) (files_stayed q)

    pub files_same : (new : Arc (ListedProject W) Global) → owner_name new ≡ owner_name was → (arc_value new).files ≡ (arc_value was).files → (q : List ℕ) → files_in (projects_in (set now i new)) q ≡ files_in (projects_in old) q
    files_same new named same q = files_edited new (λ fs. fs) named same q ∙ cond-same (bytes_eq q name) (files_in (projects_in old) q)

  module _ (conditions_stayed : (q : List ℕ) → conditions_in (projects_in now) q ≡ conditions_in (projects_in old) q) where
    pub conditions_edited : (new : Arc (ListedProject W) Global) (change : List Condition → List Condition) → owner_name new ≡ owner_name was → (arc_value new).conditions ≡ change ((arc_value was).conditions) →
        (q : List ℕ) → conditions_in (projects_in (set now i new)) q ≡ cond (bytes_eq q name) (change (conditions_in (projects_in old) q)) (conditions_in (projects_in old) q)
    conditions_edited new change named done q =
        ap (λ ps. conditions_in ps q) (set_project new)
        ∙ gate_at name (projects_in now) i (arc_value was) (arc_value new) change first within read_project named done q
        ∙ ap (λ cs. cond (bytes_eq q name) (change cs) cs) (conditions_stayed q)

    pub conditions_same : (new : Arc (ListedProject W) Global) → owner_name new ≡ owner_name was → (arc_value new).conditions ≡ (arc_value was).conditions → (q : List ℕ) → conditions_in (projects_in (set now i new)) q ≡ conditions_in (projects_in old) q
    conditions_same new named same q = conditions_edited new (λ cs. cs) named same q ∙ cond-same (bytes_eq q name) (conditions_in (projects_in old) q)

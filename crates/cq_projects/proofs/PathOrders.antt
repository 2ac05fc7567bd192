-- Files in path order stay so where one is taken out or put in.
use Rattle.std.proofs.Common.{◌≡◌, ℕ, zero, suc, ◌+◌, Bool, true, false, cond, not, List, [], ◌∷◌, refl, subst, arith}
use Rattle.std.specs.List.{AllByRecursion, insert}
use Rattle.std.specs.Str.{bytes_eq}
use Rattle.cq_history.specs.Files.{File, is_before, place_of, with_file, without_file}
use Rattle.cq_projects.specs.Projects.{path_of}
use Rattle.cq_projects.specs.Ordered.{AreRising}
use Rattle.cq_history.proofs.PathOrder.{before_chain, before_other}

one_more : (n : ℕ) → suc n ≡ 1 + n
one_more n = omega arith

module _ {X : Type 0} where
  abbrev AreElsewhere : List ℕ → List (File X) → Type 0
  AreElsewhere p files = AllByRecursion (λ (g : File X). bytes_eq p g.path ≡ false) files

  pub all_without : (P : File X → Type 0) (p : List ℕ) (files : List (File X)) → AllByRecursion P files → AllByRecursion P (without_file p files)
  all_without P p [] all = tt
  all_without P p (g ∷ files) all = go (not (bytes_eq p g.path)) (all_without P p files all.1)
    where
      go : (b : Bool) → AllByRecursion P (without_file p files) → AllByRecursion P (cond b (g ∷ without_file p files) (without_file p files))
      go true rest = (all.0, rest)
      go false rest = rest

  pub rising_without : (p : List ℕ) (files : List (File X)) → AreRising path_of files → AreRising path_of (without_file p files)
  rising_without p [] rising = tt
  rising_without p (g ∷ files) rising = go (not (bytes_eq p g.path)) (rising_without p files rising.1)
    where
      go : (b : Bool) → AreRising path_of (without_file p files) → AreRising path_of (cond b (g ∷ without_file p files) (without_file p files))
      go true rest = (all_without (λ (f : File X). is_before g.path f.path ≡ true) p files rising.0, rest)
      go false rest = rest

  pub elsewhere : (p : List ℕ) (files : List (File X)) → AreElsewhere p (without_file p files)
  elsewhere p [] = tt
  elsewhere p (g ∷ files) = go (bytes_eq p g.path) refl (elsewhere p files)
    where
      go : (b : Bool) → bytes_eq p g.path ≡ b → AreElsewhere p (without_file p files) → AreElsewhere p (cond (not b) (g ∷ without_file p files) (without_file p files))
      go true e rest = rest
      go false e rest = (e, rest)

  pub all_insert : (P : File X → Type 0) (files : List (File X)) (n : ℕ) (g : File X) → AllByRecursion P files → P g → AllByRecursion P (insert files n g)
  all_insert P files zero g all here = (here, all)
  all_insert P [] (suc n) g all here = (here, tt)
  all_insert P (x ∷ files) (suc n) g all here = (all.0, all_insert P files n g all.1 here)

  pub all_behind : (p q : List ℕ) (files : List (File X)) → is_before p q ≡ true → AllByRecursion (λ (g : File X). is_before q g.path ≡ true) files → AllByRecursion (λ (g : File X). is_before p g.path ≡ true) files
  all_behind p q [] before all = tt
  all_behind p q (g ∷ files) before all = (before_chain p q g.path before all.0, all_behind p q files before all.1)

  rising_put : (files : List (File X)) (f : File X) → AreRising path_of files → AreElsewhere f.path files → AreRising path_of (insert files (place_of f.path files) f)
  rising_put [] f rising apart = (tt, tt)
  rising_put (x ∷ files) f rising apart = go (is_before f.path x.path) refl (rising_put files f rising.1 apart.1)
    where
      go : (b : Bool) → is_before f.path x.path ≡ b → AreRising path_of (insert files (place_of f.path files) f) → AreRising path_of (insert (x ∷ files) (cond (not b) (1 + place_of f.path files) 0) f)
      go true e rest = ((e, all_behind f.path x.path files e rising.0), rising)
      go false e rest =
          subst (λ n. AreRising path_of (insert (x ∷ files) n f)) (one_more (place_of f.path files))
          (all_insert (λ (g : File X). is_before x.path g.path ≡ true) files (place_of f.path files) f rising.0 (before_other f.path x.path e apart.0), rest)

  pub rising_with : (f : File X) (files : List (File X)) → AreRising path_of files → AreRising path_of (with_file f files)
  rising_with f files rising = rising_put (without_file f.path files) f (rising_without f.path files rising) (elsewhere f.path files)

-- Files in path order are told by what stands at each path.
use Rattle.std.proofs.Common.{◌≡◌, ℕ, zero, suc, Bool, true, false, true≢false, cond, not, List, [], ◌∷◌, Option, Some, None, refl, sym, ap, ap₂, ◌∙◌, subst, ⊎_elim}
use Rattle.std.specs.Prelude.{option_map}
use Rattle.std.specs.List.{AllByRecursion, insert}
use Rattle.std.specs.Str.{bytes_eq}
use Rattle.std.proofs.lemmas.Option.{none-some}
use Rattle.std.proofs.lemmas.Slice.Eq.{bytes_eq-Decides}
use Rattle.std.proofs.lemmas.Bool.{cases_Bool}
use Rattle.cq_base.proofs.Bools.{cond-same}
use Rattle.cq_history.specs.Files.{File, is_before, with_file, without_file, place_of, number_at}
use Rattle.cq_projects.specs.Projects.{path_of}
use Rattle.cq_projects.specs.Ordered.{AreRising}
use Rattle.cq_projects.proofs.Putting.{above_apart}
use Rattle.cq_projects.proofs.PathOrders.{elsewhere}
use Rattle.cq_history.proofs.PathOrder.{before_chain, before_apart}

some_same : {X : Type 0} {x y : X} → Some x ≡ Some y → x ≡ y
some_same e = cc e

itself : (p : List ℕ) → bytes_eq p p ≡ true
itself p = (bytes_eq-Decides p p).1 refl

module _ {X : Type 0} where
  -- the file at a path
  abbrev pub file_at : List ℕ → List (File X) → Option (File X)
  file_at p [] = None
  file_at p (f ∷ files) = cond (bytes_eq p f.path) (Some f) (file_at p files)

  pub number_file : (p : List ℕ) (files : List (File X)) → number_at p files ≡ option_map (λ (f : File X). f.number) (file_at p files)
  number_file p [] = refl
  number_file p (f ∷ files) =
      elim (bytes_eq p f.path) as (λ b. cond b (Some f.number) (number_at p files) ≡ option_map (λ (g : File X). g.number) (cond b (Some f) (file_at p files)))
      [ true ↦ refl | false ↦ number_file p files ]

  -- ---- one file, or none, at a path

  -- r: the path that is asked; a: it is the path; b: it is the file's; c: the path is the file's
  taken_case : (a b c : Bool) (x y : Option (File X)) → (c ≡ true → a ≡ b) → (c ≡ false → a ≡ true → b ≡ true → ⊥) → cond (not c) (cond b x (cond a None y)) (cond a None y) ≡ cond a None (cond b x y)
  taken_case true true true x y same apart = refl
  taken_case true false true x y same apart = let e : true ≡ false = same refl in absurd (cc)
  taken_case false true true x y same apart = let e : false ≡ true = same refl in absurd (cc)
  taken_case false false true x y same apart = refl
  taken_case true true false x y same apart = absurd (apart refl refl refl)
  taken_case true false false x y same apart = refl
  taken_case false true false x y same apart = refl
  taken_case false false false x y same apart = refl

  file_at-cond : (r : List ℕ) (t : Bool) (g : File X) (xs ys : List (File X)) → file_at r (cond t (g ∷ xs) ys) ≡ cond t (cond (bytes_eq r g.path) (Some g) (file_at r xs)) (file_at r ys)
  file_at-cond r true g xs ys = refl
  file_at-cond r false g xs ys = refl

  pub file_at-without : (r p : List ℕ) (files : List (File X)) → file_at r (without_file p files) ≡ cond (bytes_eq r p) None (file_at r files)
  file_at-without r p [] = let none : Option (File X) = None in sym (cond-same (bytes_eq r p) none)
  file_at-without r p (g ∷ files) =
      file_at-cond r (not (bytes_eq p g.path)) g (without_file p files) (without_file p files)
      ∙ ap (λ o. cond (not (bytes_eq p g.path)) (cond (bytes_eq r g.path) (Some g) o) o) (file_at-without r p files)
      ∙ taken_case (bytes_eq r p) (bytes_eq r g.path) (bytes_eq p g.path) (Some g) (file_at r files)
      (λ same. ap (bytes_eq r) ((bytes_eq-Decides p g.path).0 same))
      (λ other here there. true≢false (sym ((bytes_eq-Decides p g.path).1 (sym ((bytes_eq-Decides r p).0 here) ∙ (bytes_eq-Decides r g.path).0 there)) ∙ other))

  put_case : (a b : Bool) (x y z : Option (File X)) → (a ≡ true → b ≡ true → ⊥) → cond b x (cond a y z) ≡ cond a y (cond b x z)
  put_case true true x y z apart = absurd (apart refl refl)
  put_case true false x y z apart = refl
  put_case false b x y z apart = refl

  file_at-insert : (r : List ℕ) (files : List (File X)) (n : ℕ) (f : File X) → AllByRecursion (λ (g : File X). bytes_eq f.path g.path ≡ false) files → file_at r (insert files n f) ≡ cond (bytes_eq r f.path) (Some f) (file_at r files)
  file_at-insert r files zero f apart = refl
  file_at-insert r [] (suc n) f apart = refl
  file_at-insert r (g ∷ files) (suc n) f apart =
      ap (cond (bytes_eq r g.path) (Some g)) (file_at-insert r files n f apart.1)
      ∙ put_case (bytes_eq r f.path) (bytes_eq r g.path) (Some g) (Some f) (file_at r files)
      (λ here there. true≢false (sym ((bytes_eq-Decides f.path g.path).1 (sym ((bytes_eq-Decides r f.path).0 here) ∙ (bytes_eq-Decides r g.path).0 there)) ∙ apart.0))

  twice : (a : Bool) (x y : Option (File X)) → cond a x (cond a None y) ≡ cond a x y
  twice true x y = refl
  twice false x y = refl

  pub file_at-with : (r : List ℕ) (f : File X) (files : List (File X)) → file_at r (with_file f files) ≡ cond (bytes_eq r f.path) (Some f) (file_at r files)
  file_at-with r f files =
      file_at-insert r (without_file f.path files) (place_of f.path (without_file f.path files)) f (elsewhere f.path files)
      ∙ ap (cond (bytes_eq r f.path) (Some f)) (file_at-without r f.path files)
      ∙ twice (bytes_eq r f.path) (Some f) (file_at r files)

  -- ---- the same at each path

  found : (P : File X → Type 0) (p : List ℕ) (files : List (File X)) (f : File X) → AllByRecursion P files → file_at p files ≡ Some f → P f × (f.path ≡ p)
  found P p [] f all h = absurd (none-some f h)
  found P p (g ∷ files) f all h = go (bytes_eq p g.path) refl h (λ later. found P p files f all.1 later)
    where
      go : (b : Bool) → bytes_eq p g.path ≡ b → cond b (Some g) (file_at p files) ≡ Some f → (file_at p files ≡ Some f → P f × (f.path ≡ p)) → P f × (f.path ≡ p)
      go true e h rest = subst (λ (x : File X). P x × (x.path ≡ p)) (some_same h) (all.0, sym ((bytes_eq-Decides p g.path).0 e))
      go false e h rest = rest h

  none_above : (p : List ℕ) (files : List (File X)) → AllByRecursion (λ (g : File X). is_before p g.path ≡ true) files → file_at p files ≡ None
  none_above p [] high = refl
  none_above p (g ∷ files) high = ap (λ b. cond b (Some g) (file_at p files)) (above_apart p g.path high.0) ∙ none_above p files high.1

  pub same_files : (xs ys : List (File X)) → AreRising path_of xs → AreRising path_of ys → ((p : List ℕ) → file_at p xs ≡ file_at p ys) → xs ≡ ys
  same_files [] [] up also same = refl
  same_files [] (y ∷ ys) up also same = absurd (none-some y (same y.path ∙ ap (λ b. cond b (Some y) (file_at y.path ys)) (itself y.path)))
  same_files (x ∷ xs) [] up also same = absurd (none-some x (sym (same x.path) ∙ ap (λ b. cond b (Some x) (file_at x.path xs)) (itself x.path)))
  same_files (x ∷ xs) (y ∷ ys) up also same =
      ap₂ (λ (f : File X) (fs : List (File X)). f ∷ fs) first (same_files xs ys up.1 also.1 tails)
    where
      mine : file_at x.path (x ∷ xs) ≡ Some x
      mine = ap (λ b. cond b (Some x) (file_at x.path xs)) (itself x.path)

      other : file_at y.path (y ∷ ys) ≡ Some y
      other = ap (λ b. cond b (Some y) (file_at y.path ys)) (itself y.path)

      -- where the first paths differ, each is before the other
      clash : bytes_eq x.path y.path ≡ false → bytes_eq y.path x.path ≡ false → ⊥
      clash a b =
          let below : is_before y.path x.path ≡ true = (found (λ (g : File X). is_before y.path g.path ≡ true) x.path ys x also.0 (ap (λ t. cond t (Some y) (file_at x.path ys)) (sym a) ∙ sym (same x.path) ∙ mine)).0 in
          let above : is_before x.path y.path ≡ true = (found (λ (g : File X). is_before x.path g.path ≡ true) y.path xs y up.0 (ap (λ t. cond t (Some x) (file_at y.path xs)) (sym b) ∙ same y.path ∙ other)).0 in
          before_apart x.path x.path (before_chain x.path y.path x.path above below) refl

      turned : bytes_eq x.path y.path ≡ false → bytes_eq y.path x.path ≡ false
      turned a = ⊎_elim (λ here. absurd (true≢false (sym ((bytes_eq-Decides x.path y.path).1 (sym ((bytes_eq-Decides y.path x.path).0 here))) ∙ a))) (λ no. no) (cases_Bool (bytes_eq y.path x.path))

      paths : bytes_eq x.path y.path ≡ true
      paths = ⊎_elim (λ yes. yes) (λ no. absurd (clash no (turned no))) (cases_Bool (bytes_eq x.path y.path))

      first : x ≡ y
      first = some_same (sym mine ∙ same x.path ∙ ap (λ b. cond b (Some y) (file_at x.path ys)) paths)

      tails : (p : List ℕ) → file_at p xs ≡ file_at p ys
      tails p =
          ⊎_elim
          (λ (here : bytes_eq p x.path ≡ true).
          let at : p ≡ x.path = (bytes_eq-Decides p x.path).0 here in
          ap (λ q. file_at q xs) at ∙ none_above x.path xs up.0 ∙ sym (ap (λ q. file_at q ys) (at ∙ ap (λ (f : File X). f.path) first) ∙ none_above y.path ys also.0))
          (λ (no : bytes_eq p x.path ≡ false).
          ap (λ b. cond b (Some x) (file_at p xs)) (sym no) ∙ same p
          ∙ ap (λ b. cond b (Some y) (file_at p ys)) (ap (λ (f : File X). bytes_eq p f.path) (sym first) ∙ no))
          (cases_Bool (bytes_eq p x.path))

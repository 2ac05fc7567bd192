-- The number at a path, after one change more.
use Rattle.std.proofs.Common.{◌≡◌, ℕ, ◌+◌, Bool, true, false, cond, not, ◌&&◌, ◌||◌, List, [], ◌∷◌, ◌++◌, length, take, drop, Option, Some, None, refl, sym, ap, ◌∙◌}
use Rattle.std.specs.Prelude.{is_some}
use Rattle.std.specs.Str.{bytes_eq}
use Rattle.std.proofs.lemmas.List.{take-append-drop}
use Rattle.std.proofs.lemmas.Slice.Eq.{bytes_eq-Decides}
use Rattle.cq_base.specs.declared.lang.Lang.{Lang}
use Rattle.cq_base.specs.declared.change.Condition.{Condition}
use Rattle.cq_base.specs.declared.change.Change.{Change}
use Rattle.cq_base.specs.declared.change.Change.TheVariants.{Put, Drop, Gate}
use Rattle.cq_history.specs.Files.{Source, files_of, has_file, with_file, without_file, place_of, number_at}
use Rattle.cq_history.proofs.Prefixes.{files_of_push}
use Rattle.cq_history.proofs.Presence.{bytes_eq-sym}

-- there is a number where there is a file
pub numbered : (p : List ℕ) (files : List Source) → is_some (number_at p files) ≡ has_file p files
numbered p [] = refl
numbered p (f ∷ files) =
    elim (bytes_eq p f.path) as (λ b. is_some (cond b (Some f.number) (number_at p files)) ≡ (b || has_file p files)) [ true ↦ refl | false ↦ numbered p files ]

-- a: r is f's path; b: p is f's path; c: r is p
without_case : (a b c : Bool) (x y : Option ℕ) → (a ≡ true → b ≡ c) → (a ≡ false → b ≡ true → c ≡ false) → cond a (cond c None y) (cond b x (cond c None y)) ≡ cond c None (cond b x y)
without_case true true true x y e n = refl
without_case true true false x y e n = let no : true ≡ false = e refl in absurd (cc)
without_case true false true x y e n = refl
without_case true false false x y e n = refl
without_case false true true x y e n = let no : true ≡ false = n refl refl in absurd (cc)
without_case false true false x y e n = refl
without_case false false true x y e n = refl
without_case false false false x y e n = refl

either_way : (b : Bool) (o : Option ℕ) → o ≡ cond b o o
either_way true o = refl
either_way false o = refl

number-without : (p r : List ℕ) (fs : List Source) → number_at p (without_file r fs) ≡ cond (bytes_eq r p) None (number_at p fs)
number-without p r [] = either_way (bytes_eq r p) None
number-without p r (f ∷ fs) =
    let rest : List Source = without_file r fs in
    let split : number_at p (without_file r (f ∷ fs)) ≡ cond (bytes_eq r f.path) (number_at p rest) (cond (bytes_eq p f.path) (Some f.number) (number_at p rest)) =
    elim (bytes_eq r f.path) as (λ v. number_at p (cond (not v) (f ∷ rest) rest) ≡ cond v (number_at p rest) (cond (bytes_eq p f.path) (Some f.number) (number_at p rest))) [ true ↦ refl | false ↦ refl ] in
    split ∙ ap (λ h. cond (bytes_eq r f.path) h (cond (bytes_eq p f.path) (Some f.number) h)) (number-without p r fs)
    ∙ without_case (bytes_eq r f.path) (bytes_eq p f.path) (bytes_eq r p) (Some f.number) (number_at p fs)
    (λ a. let same : r ≡ f.path = (bytes_eq-Decides r f.path).0 a in ap (bytes_eq p) (sym same) ∙ bytes_eq-sym p r)
    (λ a b. let same : p ≡ f.path = (bytes_eq-Decides p f.path).0 b in ap (bytes_eq r) same ∙ a)

-- t: p is g's path; h: p is f's path
inserted_case : (t h : Bool) (g f : ℕ) (rest n : Option ℕ) → (h ≡ true → cond t (Some g) n ≡ None) → ((h ≡ true → n ≡ None) → rest ≡ cond h (Some f) n) → cond t (Some g) rest ≡ cond h (Some f) (cond t (Some g) n)
inserted_case true true g f rest n none later = let no : Some g ≡ None = none refl in absurd (cc)
inserted_case true false g f rest n none later = refl
inserted_case false true g f rest n none later = later none
inserted_case false false g f rest n none later = later none

-- a file is put in where none has its path
number-inserted : (p : List ℕ) (a b : List Source) (f : Source) → (bytes_eq p f.path ≡ true → number_at p (a ++ b) ≡ None) → number_at p (a ++ f ∷ b) ≡ cond (bytes_eq p f.path) (Some f.number) (number_at p (a ++ b))
number-inserted p [] b f none = refl
number-inserted p (g ∷ a) b f none =
    inserted_case (bytes_eq p g.path) (bytes_eq p f.path) g.number f.number (number_at p (a ++ f ∷ b)) (number_at p (a ++ b)) none (number-inserted p a b f)

twice : (t : Bool) (x y : Option ℕ) → cond t x (cond t None y) ≡ cond t x y
twice true x y = refl
twice false x y = refl

number-with : (p : List ℕ) (f : Source) (fs : List Source) → number_at p (with_file f fs) ≡ cond (bytes_eq p f.path) (Some f.number) (number_at p fs)
number-with p f fs =
    let rest : List Source = without_file f.path fs in
    let n : ℕ = place_of f.path rest in
    let others : number_at p (take n rest ++ drop n rest) ≡ cond (bytes_eq p f.path) None (number_at p fs) =
    ap (number_at p) (take-append-drop n rest) ∙ number-without p f.path fs ∙ ap (λ b. cond b None (number_at p fs)) (bytes_eq-sym f.path p) in
    number-inserted p (take n rest) (drop n rest) f (λ same. others ∙ ap (λ b. cond b None (number_at p fs)) same)
    ∙ ap (cond (bytes_eq p f.path) (Some f.number)) others ∙ twice (bytes_eq p f.path) (Some f.number) (number_at p fs)

module _ (changes : List Change) (q p : List ℕ) where
  pub number_put : (project path : List ℕ) (lang : Lang) (text : List ℕ) →
      number_at p (files_of q (changes ++ Put project path lang text ∷ [])) ≡ cond (bytes_eq q project && bytes_eq p path) (Some (length changes + 1)) (number_at p (files_of q changes))
  number_put project path lang text =
      let files : List Source = files_of q changes in
      let f : Source = record { path = path; number = length changes + 1; lang = lang; body = text } in
      ap (number_at p) (files_of_push q changes (Put project path lang text))
      ∙ elim (bytes_eq q project) as (λ v. number_at p (cond v (with_file f files) files) ≡ cond (v && bytes_eq p path) (Some (length changes + 1)) (number_at p files)) [ true ↦ number-with p f files | false ↦ refl ]

  pub number_dropped : (project path : List ℕ) → number_at p (files_of q (changes ++ Drop project path ∷ [])) ≡ cond (bytes_eq q project && bytes_eq p path) None (number_at p (files_of q changes))
  number_dropped project path =
      let files : List Source = files_of q changes in
      ap (number_at p) (files_of_push q changes (Drop project path))
      ∙ elim (bytes_eq q project) as (λ v. number_at p (cond v (without_file path files) files) ≡ cond (v && bytes_eq p path) None (number_at p files))
      [ true ↦ number-without p path files ∙ ap (λ b. cond b None (number_at p files)) (bytes_eq-sym path p) | false ↦ refl ]

  pub number_gated : (project : List ℕ) (conditions : List Condition) → number_at p (files_of q (changes ++ Gate project conditions ∷ [])) ≡ number_at p (files_of q changes)
  number_gated project conditions = ap (number_at p) (files_of_push q changes (Gate project conditions))

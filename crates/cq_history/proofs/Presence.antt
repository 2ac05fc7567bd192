-- Whether a file is there, change by change.
use Rattle.std.proofs.Common.{◌≡◌, ℕ, Bool, true, false, cond, not, ◌&&◌, ◌||◌, List, [], ◌∷◌, take, drop, refl, sym, ap, ◌∙◌}
use Rattle.std.proofs.lemmas.List.{take-append-drop}
use Rattle.std.specs.List.{list_any}
use Rattle.std.proofs.lemmas.List.Folds.{list_any-append}
use Rattle.std.proofs.lemmas.Bool.Decides.{same_from_decides}
use Rattle.std.specs.Str.{bytes_eq}
use Rattle.std.proofs.lemmas.Slice.Eq.{bytes_eq-Decides}
use Rattle.cq_base.specs.declared.change.Change.{Change}
use Rattle.cq_base.specs.declared.change.Change.TheVariants.{Put, Drop, Gate}
use Rattle.cq_history.specs.Files.{Source, has_file, with_file, without_file, place_of, files_after, is_path_put}

or_false : (b : Bool) → b ≡ (b || false)
or_false true = refl
or_false false = refl

and_true : (b : Bool) → b ≡ (b && true)
and_true true = refl
and_true false = refl

pub bytes_eq-sym : (x y : List ℕ) → bytes_eq x y ≡ bytes_eq y x
bytes_eq-sym x y =
    let there = bytes_eq-Decides x y in
    let back = bytes_eq-Decides y x in
    same_from_decides {P = x ≡ y} (bytes_eq x y) (bytes_eq y x) there (λ h. sym (back.0 h), λ e. back.1 (sym e))

-- a: r is f's path; b: p is f's path; c: r is p; h: p is among the rest
without_case : (a b c h : Bool) → (a ≡ true → b ≡ c) → (a ≡ false → b ≡ true → c ≡ false) → cond a (h && not c) (b || (h && not c)) ≡ ((b || h) && not c)
without_case true true true true e n = refl
without_case true true true false e n = refl
without_case true true false h e n = let no : true ≡ false = e refl in absurd (cc)
without_case true false true h e n = let no : false ≡ true = e refl in absurd (cc)
without_case true false false h e n = refl
without_case false true true h e n = let no : true ≡ false = n refl refl in absurd (cc)
without_case false true false h e n = refl
without_case false false c h e n = refl

has-without : (p r : List ℕ) (fs : List Source) → has_file p (without_file r fs) ≡ (has_file p fs && not (bytes_eq r p))
has-without p r [] = refl
has-without p r (f ∷ fs) =
    let rest : List Source = without_file r fs in
    let split : has_file p (without_file r (f ∷ fs)) ≡ cond (bytes_eq r f.path) (has_file p rest) (bytes_eq p f.path || has_file p rest) =
    elim (bytes_eq r f.path) as (λ v. has_file p (cond (not v) (f ∷ rest) rest) ≡ cond v (has_file p rest) (bytes_eq p f.path || has_file p rest)) [ true ↦ refl | false ↦ refl ] in
    split ∙ ap (λ h. cond (bytes_eq r f.path) h (bytes_eq p f.path || h)) (has-without p r fs)
    ∙ without_case (bytes_eq r f.path) (bytes_eq p f.path) (bytes_eq r p) (has_file p fs)
    (λ a. let same : r ≡ f.path = (bytes_eq-Decides r f.path).0 a in ap (bytes_eq p) (sym same) ∙ bytes_eq-sym p r)
    (λ a b. let same : p ≡ f.path = (bytes_eq-Decides p f.path).0 b in ap (bytes_eq r) same ∙ a)

with_case : (t d b h c : Bool) → (t || d) ≡ (h && not c) → c ≡ b → (t || (b || d)) ≡ (h || b)
with_case true true true true true e s = refl
with_case true true true true false e s = refl
with_case true true true false true e s = refl
with_case true true true false false e s = refl
with_case true true false true true e s = refl
with_case true true false true false e s = refl
with_case true true false false true e s = let no : true ≡ false = s in absurd (cc)
with_case true true false false false e s = let no : true ≡ false = e in absurd (cc)
with_case true false true true true e s = refl
with_case true false true true false e s = refl
with_case true false true false true e s = refl
with_case true false true false false e s = refl
with_case true false false true true e s = refl
with_case true false false true false e s = refl
with_case true false false false true e s = let no : true ≡ false = s in absurd (cc)
with_case true false false false false e s = let no : true ≡ false = e in absurd (cc)
with_case false true true true true e s = refl
with_case false true true true false e s = refl
with_case false true true false true e s = refl
with_case false true true false false e s = refl
with_case false true false true true e s = refl
with_case false true false true false e s = refl
with_case false true false false true e s = let no : true ≡ false = s in absurd (cc)
with_case false true false false false e s = let no : true ≡ false = e in absurd (cc)
with_case false false true true true e s = refl
with_case false false true true false e s = refl
with_case false false true false true e s = refl
with_case false false true false false e s = refl
with_case false false false true true e s = let no : true ≡ false = s in absurd (cc)
with_case false false false true false e s = let no : false ≡ true = e in absurd (cc)
with_case false false false false true e s = refl
with_case false false false false false e s = refl

has-with : (p : List ℕ) (f : Source) (fs : List Source) → has_file p (with_file f fs) ≡ (has_file p fs || bytes_eq p f.path)
has-with p f fs =
    let test : Source → Bool = λ g. bytes_eq p g.path in
    let rest : List Source = without_file f.path fs in
    let n : ℕ = place_of f.path rest in
    let whole : (list_any test (take n rest) || list_any test (drop n rest)) ≡ (has_file p fs && not (bytes_eq f.path p)) =
    sym (list_any-append test (take n rest) (drop n rest)) ∙ ap (list_any test) (take-append-drop n rest) ∙ has-without p f.path fs in
    list_any-append test (take n rest) (f ∷ drop n rest) ∙ with_case (list_any test (take n rest)) (list_any test (drop n rest)) (bytes_eq p f.path) (has_file p fs) (bytes_eq f.path p) whole (bytes_eq-sym f.path p)

pub has_file_after : (q p : List ℕ) (r : ℕ) (fs : List Source) (c : Change) → has_file p (files_after q r fs c) ≡ is_path_put q p (has_file p fs) c
has_file_after q p r fs (Put project path lang text) =
    let f : Source = record { path = path; number = r; lang = lang; body = text } in
    elim (bytes_eq q project) as (λ v. has_file p (cond v (with_file f fs) fs) ≡ (has_file p fs || v && bytes_eq p path)) [ true ↦ has-with p f fs | false ↦ or_false (has_file p fs) ]
has_file_after q p r fs (Drop project path) =
    elim (bytes_eq q project) as (λ v. has_file p (cond v (without_file path fs) fs) ≡ (has_file p fs && not (v && bytes_eq p path)))
    [ true ↦ has-without p path fs ∙ ap (λ b. has_file p fs && not b) (bytes_eq-sym path p) | false ↦ and_true (has_file p fs) ]
has_file_after q p r fs (Gate project conditions) = refl

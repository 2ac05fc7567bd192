-- The files of a version from the floor on were put by changes that are kept, so there are no more of them than these.
use Rattle.std.proofs.Common.{◌≡◌, ℕ, zero, suc, ◌-◌, ◌≤◌, true, false, min, Some, List, [], ◌∷◌, length, take, drop, map, refl, sym, subst, ap, ◌∙◌, inl, inr, arith, Contains}
use Rattle.std.specs.Prelude.{nat_eq}
use Rattle.std.specs.List.{AllByRecursion, IsDistinct}
use Rattle.std.specs.Cmp.{nat_eq_equiv}
use Rattle.std.specs.Set.{is_member}
use Rattle.std.specs.declared.cmp.Ordering.TheVariants.{Less, Greater}
use Rattle.std.specs.Ordering.{ordering_reverse}
use Rattle.std.proofs.lemmas.Bool.{ne_eqb}
use Rattle.std.proofs.lemmas.Bool.Decides.{Decides-eqb}
use Rattle.std.proofs.lemmas.Cmp.{nat_list_cmp_total}
use Rattle.std.proofs.lemmas.List.{length-map, length-take, take-append-drop}
use Rattle.std.proofs.lemmas.Map.Made.{length-le_from_is_member, is_member-Decides}
use Rattle.std.proofs.lemmas.Option.{slice_get_within}
use Rattle.cq_base.specs.declared.lang.Lang.{Lang}
use Rattle.cq_base.specs.declared.change.Change.{Change}
use Rattle.cq_base.specs.declared.change.Change.TheVariants.{Put}
use Rattle.cq_base.proofs.Lists.{Contains-from_map}
use Rattle.cq_base.proofs.Orderings.{Less-from_is_lt}
use Rattle.cq_history.specs.Changes.{change_at, is_of_file, IsNumber}
use Rattle.cq_history.specs.Files.{Source, files_at, is_before}
use Rattle.cq_history.specs.Standing.{Has, AreInPathOrder, IsLastPut}
use Rattle.cq_history.specs.Gone.{IsOver, IsKept, IsFollowed, kept_numbers, kept_count}
use Rattle.cq_history.proofs.Numbers.{change_at-append}
use Rattle.cq_history.proofs.Standing.{files_stand}
use Rattle.cq_history.proofs.Forgetting.{kept_are}

-- ---- each was put by a change that is kept

-- the first changes have their numbers among all
pub change_in_front : (changes : List Change) (v r : ℕ) → IsNumber (take v changes) r → change_at changes r ≡ change_at (take v changes) r
change_in_front changes v r is = ap (λ cs. change_at cs r) (sym (take-append-drop v changes)) ∙ change_at-append (take v changes) (drop v changes) r is

front_number : (changes : List Change) (v r : ℕ) → IsNumber (take v changes) r → IsNumber changes r × (r ≤ v)
front_number changes v r is = let many = length-take v changes in let low : r ≤ min v (length changes) = omega (arith, is.1, many) in ((is.0, grind (arith, low)), grind (arith, low))

module _ (changes : List Change) (floor v : ℕ) (q : List ℕ) (low : floor ≤ v) (f : Source) (is : IsLastPut (take v changes) q f) where
  put_there : change_at changes f.number ≡ Some (Put q f.path f.lang f.body)
  put_there = change_in_front changes v f.number is.accepted ∙ is.put

  not_followed : IsFollowed (is_of_file q f.path) changes floor f.number → ⊥
  not_followed later =
      let inside = slice_get_within changes (later.later - 1) later.change later.next in
      let many = length-take v changes in
      let number : IsNumber (take v changes) later.later = (omega (arith, later.behind), grind (arith, inside, many, low, later.within, later.behind)) in
      is.last later.later later.change later.behind (sym (change_in_front changes v later.later number) ∙ later.next) later.passes

  last_is_kept : IsKept changes floor f.number
  last_is_kept = (
    (front_number changes v f.number is.accepted).0,
    λ g. let same : g.change ≡ Put q f.path f.lang f.body = some_same (sym g.is ∙ put_there) in not_followed (subst (IsOver changes floor f.number) same g.over),
  )
    where
      some_same : {c d : Change} → Some c ≡ Some d → c ≡ d
      some_same e = cc e

pub files_kept : (changes : List Change) (floor version : ℕ) (project : List ℕ) (f : Source) → floor ≤ version → Has (files_at changes version project) f → IsKept changes floor f.number
files_kept changes floor version project f low has = last_is_kept changes floor version project low f (((files_stand (take version changes) project).each f).0 has)

-- ---- so they are few

not_before_itself : (p : List ℕ) → is_before p p ≡ true → ⊥
not_before_itself p h =
    let less = Less-from_is_lt _ h in
    let clash : Less ≡ Greater = sym less ∙ nat_list_cmp_total.antisymm p p ∙ ap ordering_reverse less in
    absurd (cc)

-- files in path order, each put by the change of its number, have different numbers
apart : (changes : List Change) (q : List ℕ) (f : Source) (files : List Source) → change_at changes f.number ≡ Some (Put q f.path f.lang f.body) → AllByRecursion (λ (g : Source). is_before f.path g.path ≡ true) files
    → ((g : Source) → Has files g → change_at changes g.number ≡ Some (Put q g.path g.lang g.body)) → AllByRecursion (λ n. nat_eq f.number n ≡ false) (map (λ (g : Source). g.number) files)
apart changes q f [] put before puts = tt
apart changes q f (g ∷ files) put before puts = (
  ne_eqb f.number g.number (λ same. let path : f.path ≡ g.path = put_same (sym put ∙ ap (change_at changes) same ∙ puts g (inl refl)) in not_before_itself f.path (subst (λ p. is_before f.path p ≡ true) (sym path) before.0)),
  apart changes q f files put before.1 (λ h has. puts h (inr has)),
)
  where
    put_same : {p r : List ℕ} {l m : Lang} {t u : List ℕ} → Some (Put q p l t) ≡ Some (Put q r m u) → p ≡ r
    put_same e = cc e

distinct_numbers : (changes : List Change) (q : List ℕ) (files : List Source) → AreInPathOrder files → ((g : Source) → Has files g → change_at changes g.number ≡ Some (Put q g.path g.lang g.body)) → IsDistinct nat_eq (map (λ (g : Source). g.number) files)
unfolding IsDistinct
distinct_numbers changes q [] order puts = tt
distinct_numbers changes q (f ∷ files) order puts = (apart changes q f files (puts f (inl refl)) order.0 (λ g has. puts g (inr has)), distinct_numbers changes q files order.1 (λ g has. puts g (inr has)))

has_it : (files : List Source) (f : Source) → Contains files f → Has files f
has_it [] f (k, within, at) = absurd (omega (arith, within))
has_it (g ∷ files) f (zero, within, at) = inl at
has_it (g ∷ files) f (suc k, within, at) = inr (has_it files f (k, omega (arith, within), at))

pub files_few : (changes : List Change) (floor version : ℕ) (project : List ℕ) → floor ≤ version → length (files_at changes version project) ≤ kept_count changes floor
files_few changes floor version project low =
    let files = files_at changes version project in
    let stand = files_stand (take version changes) project in
    let numbers = map (λ (g : Source). g.number) files in
    let distinct : IsDistinct nat_eq numbers = distinct_numbers changes project files stand.ordered (λ g has. put_there changes floor version project low g ((stand.each g).0 has)) in
    let within : (r : ℕ) → is_member nat_eq numbers r ≡ true → is_member nat_eq (kept_numbers changes floor) r ≡ true =
    λ r h.
    let (g, there, number) = Contains-from_map (λ (g : Source). g.number) files r ((is_member-Decides Decides-eqb numbers r).0 h) in
    let kept = files_kept changes floor version project g low (has_it files g there) in
    (is_member-Decides Decides-eqb (kept_numbers changes floor) r).1 (((kept_are changes floor).each r).1 (subst (IsKept changes floor) number kept))
    in
    omega (arith, length-le_from_is_member nat_eq_equiv numbers (kept_numbers changes floor) distinct within, length-map files (λ (g : Source). g.number))

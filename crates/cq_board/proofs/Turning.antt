-- The numbers that are left of some, and what comes next after one change more.
use Rattle.std.specs.Arc.{arc_value}
use Rattle.std.proofs.Common.{◌≡◌, ◌≢◌, ◌⊎◌, ◌↔◌, ℕ, zero, suc, ◌+◌, ◌<◌, ◌≤◌, nat_eq, not, true≢false, cond, List, [], ◌∷◌, ◌++◌, length, take, get_or, Option, Some, None, Ok, Err, Result, refl, sym, ap, ◌∙◌, subst, subst₂, inl, inr, ⊎_elim, arith, rules}
use Rattle.std.specs.Prelude.{Contains, IfOk, OnOk, OnErr}
use Rattle.std.specs.List.{list_any}
use Rattle.std.specs.List.Sorted.{IsStrictlyIncreasing}
use Rattle.std.specs.Str.{bytes_eq}
use Rattle.std.proofs.lemmas.Bool.{eqb-true, false_from_ne_true}
use Rattle.std.proofs.lemmas.Option.{none-some}
use Rattle.std.proofs.lemmas.List.{append-nil, append_assoc, length-append, take_more}
use Rattle.std.proofs.lemmas.List.Elements.{Contains-append_left, Contains-append_right, Contains-append_cases}
use Rattle.std.proofs.lemmas.List.Kept.{AllPairs-filter, AllPairs-from_increasing}
use Rattle.std.proofs.lemmas.Map.Views.{Contains-from_any}
use Rattle.cq_base.specs.declared.lang.Lang.{Lang}
use Rattle.cq_base.specs.declared.change.Condition.{Condition}
use Rattle.cq_base.specs.declared.change.Change.{Change}
use Rattle.cq_base.specs.declared.change.Change.TheVariants.{Put, Drop, Gate}
use Rattle.cq_history.specs.Files.{File, files_of, with_file, without_file, number_at}
use Rattle.cq_base.proofs.Bools.{cond-same}
use Rattle.cq_shard.proofs.Entries.{any_of, from_filter, to_filter}
use Rattle.cq_board.specs.Related.{IsSameFile, AreSameFiles}
use Rattle.cq_projects.specs.declared.projects.ProjectEdit.{ProjectEdit}
use Rattle.cq_projects.specs.declared.projects.ProjectEdit.TheVariants as edit
use Rattle.cq_board.specs.Edits.{IsEditFor, project_named, put_by}
use Rattle.cq_projects.specs.Edits.{edited_files, edited_conditions, replaced_by}
use Rattle.cq_board.specs.Listings.{Listed, listed, HaveSame, AreLive, IsListing}
use Rattle.cq_projects.specs.Projects.{name_in, files_in, conditions_in, ListedProject}
use Rattle.cq_projects.specs.Ordered.{AreRising}
use Rattle.cq_board.specs.Turnover.{IsNext, AddsChange, left, from_option}
use Rattle.cq_board.proofs.Numbers.{rising-from_pairs, rising_push}
use Rattle.cq_board.proofs.Living.{live_within, numbered_live}
use Rattle.cq_board.proofs.Advances.{number_here, advance_put, advance_drop, advance_gate}

pub always_err : {T E : Type 0} {P : Type 0} (r : Result T E) → P → OnErr r P
always_err (Ok x) h = tt
always_err (Err e) h = h

-- ---- what is left

pub left_has : (xs gone : List ℕ) (r : ℕ) → Contains (left xs gone) r ↔ (Contains xs r × (Contains gone r → ⊥))
left_has xs gone r = (
  λ h. let p = from_filter (λ q. not (list_any (nat_eq q) gone)) xs r h in
      (p.0, λ there. true≢false (sym p.1 ∙ ap not (any_of r gone there))),
  λ (here, free). to_filter (λ q. not (list_any (nat_eq q) gone)) xs r here (ap not (false_from_ne_true (list_any (nat_eq r) gone) (λ h. free (Contains-from_any eqb-true r gone h)))),
)

pub left_rises : (xs gone : List ℕ) → IsStrictlyIncreasing xs → IsStrictlyIncreasing (left xs gone)
left_rises xs gone rising = rising-from_pairs (left xs gone) (AllPairs-filter (λ a b. a < b) (λ q. not (list_any (nat_eq q) gone)) xs (AllPairs-from_increasing xs rising))

left_all : (xs : List ℕ) → left xs [] ≡ xs
left_all [] = refl
left_all (x ∷ xs) = ap (λ ys. x ∷ ys) (left_all xs)

pub single : (k r : ℕ) → Contains (k ∷ []) r → k ≡ r
single k r (zero, within, at) = at
single k r (suc i, within, at) = absurd (omega (arith, within))

from_some : (o : Option ℕ) (r : ℕ) → o ≡ Some r → Contains (from_option o) r
from_some None r e = absurd (none-some r e)
from_some (Some k) r e = (0, omega arith, same e)
  where
    same : Some k ≡ Some r → k ≡ r
    same h = cc h

some_from : (o : Option ℕ) (r : ℕ) → Contains (from_option o) r → o ≡ Some r
some_from None r (i, within, at) = absurd (omega (arith, within))
some_from (Some k) r c = ap Some (single k r c)

-- more are gone
left_less : (xs gone : List ℕ) (o : Option ℕ) (r : ℕ) → Contains (left xs (gone ++ from_option o)) r ↔ (Contains (left xs gone) r × (o ≢ Some r))
left_less xs gone o r = (
  λ h. let p = (left_has xs (gone ++ from_option o) r).0 h in
      ((left_has xs gone r).1 (p.0, λ g. p.1 (Contains-append_left gone (from_option o) r g)), λ e. p.1 (Contains-append_right gone (from_option o) r (from_some o r e))),
  λ (h, other). let p = (left_has xs gone r).0 h in
      (left_has xs (gone ++ from_option o) r).1 (p.0, λ g. ⊎_elim p.1 (λ c. other (some_from o r c)) (Contains-append_cases gone (from_option o) r g)),
)

-- a number more, which isn't gone
left_more : (xs gone : List ℕ) (n r : ℕ) → (Contains gone n → ⊥) → Contains (left (xs ++ n ∷ []) gone) r ↔ ((r ≡ n) ⊎ Contains (left xs gone) r)
left_more xs gone n r free = (
  λ h. let p = (left_has (xs ++ n ∷ []) gone r).0 h in
      ⊎_elim (λ c. inr ((left_has xs gone r).1 (c, p.1))) (λ c. inl (sym (single n r c))) (Contains-append_cases xs (n ∷ []) r p.0),
  λ either. ⊎_elim
      (λ e. (left_has (xs ++ n ∷ []) gone r).1 (Contains-append_right xs (n ∷ []) r (0, omega arith, sym e), λ g. free (subst (Contains gone) e g)))
      (λ h. let p = (left_has xs gone r).0 h in (left_has (xs ++ n ∷ []) gone r).1 (Contains-append_left xs (n ∷ []) r p.0, p.1))
      either,
)

-- of the first numbers
pub taken_more : (xs : List ℕ) (i r : ℕ) → i < length xs → Contains (take (i + 1) xs) r ↔ (Contains (take i xs) r ⊎ (get_or xs i 0 ≡ r))
taken_more xs i r lt =
    let e = take_more xs i 0 lt in (
      λ h. ⊎_elim (λ c. inl c) (λ c. inr (single (get_or xs i 0) r c)) (Contains-append_cases (take i xs) (get_or xs i 0 ∷ []) r (subst (λ ys. Contains ys r) e h)),
      λ either. subst (λ ys. Contains ys r) (sym e)
          (⊎_elim (λ c. Contains-append_left (take i xs) (get_or xs i 0 ∷ []) r c) (λ at. Contains-append_right (take i xs) (get_or xs i 0 ∷ []) r (0, omega arith, at)) either),
    )

-- ---- what comes next

module _ {W : Type 0} (IsWork : Lang → List ℕ → W → Type 0) where
  -- nothing was put and nothing is gone
  pub next_first : (changes : List Change) (l : Listed W) → IsListing IsWork changes l → IsNext IsWork changes l.live l.projects [] []
  next_first changes l is =
      let none = append-nil l.live in
      let all : left (l.live ++ []) [] ≡ l.live = ap (λ xs. left xs []) none ∙ left_all l.live in
      record {
        listing = subst (λ xs. IsListing IsWork changes (listed l.projects xs)) (sym all) is;
        rising = subst IsStrictlyIncreasing (sym none) is.numbers.rising;
        known = λ r here. let h = live_within changes r ((is.numbers.each r).0 (subst (λ xs. Contains xs r) none here)) in omega (arith, h);
        gone_known = λ r (i, within, at). absurd (omega (arith, within));
      }

  -- a listing with its projects, whose numbers are those that are left
  pub next_listed : (changes : List Change) (base : List ℕ) (ps : List (ListedProject W)) (put gone : List ℕ) (l : Listed W) → IsNext IsWork changes base ps put gone → l.projects ≡ ps → IsStrictlyIncreasing l.live → ((r : ℕ) → Contains l.live r ↔ (Contains (base ++ put) r × (Contains gone r → ⊥))) → IsListing IsWork changes l
  next_listed changes base ps put gone l is same rising which = record {
    names = subst (AreRising name_in) (sym same) is.listing.names;
    files = λ q. subst (λ xs. AreSameFiles IsWork (files_of q changes) (files_in xs q)) (sym same) (is.listing.files q);
    conditions = λ q. ap (λ xs. conditions_in xs q) same ∙ is.listing.conditions q;
    numbers = record {
      rising = rising;
      each = λ r. let left_is = left_has (base ++ put) gone r in let lives = is.listing.numbers.each r in (
        λ h. lives.0 (left_is.1 ((which r).0 h)),
        λ k. (which r).1 (left_is.0 (lives.1 k)),
      );
    };
  }

  -- the listing of no changes
  pub no_listing : (changes : List Change) → IsListing IsWork (take 0 changes) (listed [] [])
  no_listing changes = search rules

  -- a listing with the same files and conditions
  pub listing_same : (changes : List Change) (l m : Listed W) → IsListing IsWork changes l → HaveSame l.projects m.projects → AreRising name_in m.projects → m.live ≡ l.live → IsListing IsWork changes m
  listing_same changes l m is same names live = record {
    names = names;
    files = λ q. subst (AreSameFiles IsWork (files_of q changes)) (sym (same.files q)) (is.files q);
    conditions = λ q. same.conditions q ∙ is.conditions q;
    numbers = subst (AreLive changes) (sym live) is.numbers;
  }

  module _ (changes : List Change) (number : ℕ) (n : length changes + 1 ≡ number) (base : List ℕ) (old : List (ListedProject W)) (put gone : List ℕ) (is : IsNext IsWork changes base old put gone) where
    longer : (c : Change) (r : ℕ) → r ≤ length changes → r ≤ length (changes ++ c ∷ [])
    longer c r le = let e = length-append changes (c ∷ []) in omega (arith, le, e)

    -- what is replaced was there
    replaced_known : (project path : List ℕ) (o : Option ℕ) (r : ℕ) → o ≡ number_at path (files_in old project) → o ≡ Some r → r ≤ length changes
    replaced_known project path o r which is_some =
        let h = live_within changes r (numbered_live changes project path r (sym (number_here IsWork changes number n old (left (base ++ put) gone) is.listing project path) ∙ sym which ∙ is_some)) in omega (arith, h)

    gone_then : (c : Change) (project path : List ℕ) (o : Option ℕ) → o ≡ number_at path (files_in old project) → (r : ℕ) → Contains (gone ++ from_option o) r → r ≤ length (changes ++ c ∷ [])
    gone_then c project path o which r here =
        longer c r (⊎_elim (λ g. is.gone_known r g) (λ k. replaced_known project path o r which (some_from o r k)) (Contains-append_cases gone (from_option o) r here))

    module _ (new : List (ListedProject W)) (names : AreRising name_in new) where
      pub next_put : (project path : List ℕ) (lang : Lang) (text : List ℕ) (f : File W) (o : Option ℕ) → o ≡ number_at path (files_in old project) →
          ((q : List ℕ) → files_in new q ≡ cond (bytes_eq q project) (with_file f (files_in old q)) (files_in old q)) → ((q : List ℕ) → conditions_in new q ≡ conditions_in old q) →
          IsSameFile IsWork (record { path = path; number = number; lang = lang; body = text }) f → IsNext IsWork (changes ++ Put project path lang text ∷ []) base new (put ++ number ∷ []) (gone ++ from_option o)
      next_put project path lang text f o which files conditions same =
          let c : Change = Put project path lang text in
          let xs : List ℕ = (base ++ put) ++ number ∷ [] in
          let e : xs ≡ base ++ (put ++ number ∷ []) = append_assoc base put (number ∷ []) in
          let size = length-append changes (c ∷ []) in
          let up : IsStrictlyIncreasing xs = rising_push (base ++ put) number is.rising (λ r here. let h = is.known r here in omega (arith, h, n)) in
          let apart : (r : ℕ) → Contains (gone ++ from_option o) r → r ≡ number → ⊥ = λ r here at.
          let h = ⊎_elim (λ g. is.gone_known r g) (λ k. replaced_known project path o r which (some_from o r k)) (Contains-append_cases gone (from_option o) r here) in omega (arith, h, n, at) in
          let moved : (r : ℕ) → Contains (left xs (gone ++ from_option o)) r ↔ ((r ≡ number) ⊎ (Contains (left (base ++ put) gone) r × (o ≢ Some r))) = λ r.
          let more = left_more (base ++ put) (gone ++ from_option o) number r (λ here. apart number here refl) in
          let less = left_less (base ++ put) gone o r in (
            λ h. ⊎_elim (λ at. inl at) (λ k. inr (less.0 k)) (more.0 h),
            λ either. more.1 (⊎_elim (λ at. inl at) (λ k. inr (less.1 k)) either),
          ) in
          let listing = advance_put IsWork changes number n old (left (base ++ put) gone) is.listing new (left xs (gone ++ from_option o)) names (left_rises xs (gone ++ from_option o) up) project path lang text f o which moved files conditions same in
          record {
            listing = subst (λ ys. IsListing IsWork (changes ++ c ∷ []) (listed new (left ys (gone ++ from_option o)))) e listing;
            rising = subst IsStrictlyIncreasing e up;
            known = λ r here. ⊎_elim
                (λ k. longer c r (is.known r k))
                (λ k. let at = single number r k in omega (arith, at, n, size))
                (Contains-append_cases (base ++ put) (number ∷ []) r (subst (λ ys. Contains ys r) (sym e) here));
            gone_known = gone_then c project path o which;
          }

      pub next_drop : (project path : List ℕ) (o : Option ℕ) → o ≡ number_at path (files_in old project) →
          ((q : List ℕ) → files_in new q ≡ cond (bytes_eq q project) (without_file path (files_in old q)) (files_in old q)) → ((q : List ℕ) → conditions_in new q ≡ conditions_in old q) →
          IsNext IsWork (changes ++ Drop project path ∷ []) base new put (gone ++ from_option o)
      next_drop project path o which files conditions = record {
        listing = advance_drop IsWork changes number n old (left (base ++ put) gone) is.listing new (left (base ++ put) (gone ++ from_option o)) names (left_rises (base ++ put) (gone ++ from_option o) is.rising) project path o which (left_less (base ++ put) gone o) files conditions;
        rising = is.rising;
        known = λ r here. longer (Drop project path) r (is.known r here);
        gone_known = gone_then (Drop project path) project path o which;
      }

      pub next_gate : (project : List ℕ) (cs : List Condition) →
          ((q : List ℕ) → files_in new q ≡ files_in old q) → ((q : List ℕ) → conditions_in new q ≡ cond (bytes_eq q project) cs (conditions_in old q)) →
          IsNext IsWork (changes ++ Gate project cs ∷ []) base new put gone
      next_gate project cs files conditions = record {
        listing = advance_gate IsWork changes number n old (left (base ++ put) gone) is.listing new (left (base ++ put) gone) names (left_rises (base ++ put) gone is.rising) project cs refl files conditions;
        rising = is.rising;
        known = λ r here. longer (Gate project cs) r (is.known r here);
        gone_known = λ r here. longer (Gate project cs) r (is.gone_known r here);
      }

      -- an edit that the change asks for
      pub next_edit : (c : Change) (e : ProjectEdit W) → IsEditFor IsWork number c e → (o : Option ℕ) → o ≡ replaced_by e (files_in old (project_named c)) →
          ((q : List ℕ) → files_in new q ≡ cond (bytes_eq q (project_named c)) (edited_files e (files_in old q)) (files_in old q)) →
          ((q : List ℕ) → conditions_in new q ≡ cond (bytes_eq q (project_named c)) (edited_conditions e (conditions_in old q)) (conditions_in old q)) →
          IsNext IsWork (changes ++ c ∷ []) base new (put ++ put_by c number) (gone ++ from_option o)
      next_edit (Put project path lang text) (edit.Put held) is_edit o which files conditions =
          next_put project path lang text (arc_value held) o (which ∙ ap (λ p. number_at p (files_in old project)) (sym is_edit.path)) files
          (λ q. conditions q ∙ cond-same (bytes_eq q project) (conditions_in old q)) is_edit
      next_edit (Drop project path) (edit.Drop p) is_edit o which files conditions =
          subst (λ ns. IsNext IsWork (changes ++ Drop project path ∷ []) base new ns (gone ++ from_option o)) (sym (append-nil put))
          (next_drop project path o (which ∙ ap (λ r. number_at r (files_in old project)) is_edit)
          (λ q. files q ∙ ap (λ r. cond (bytes_eq q project) (without_file r (files_in old q)) (files_in old q)) is_edit)
          (λ q. conditions q ∙ cond-same (bytes_eq q project) (conditions_in old q)))
      next_edit (Gate project cs) (edit.Gate set_to) is_edit o which files conditions =
          subst₂ (λ ns ms. IsNext IsWork (changes ++ Gate project cs ∷ []) base new ns ms) (sym (append-nil put)) (sym (ap (λ k. gone ++ from_option k) which ∙ append-nil gone))
          (next_gate project cs (λ q. files q ∙ cond-same (bytes_eq q project) (files_in old q))
          (λ q. conditions q ∙ ap (λ ds. cond (bytes_eq q project) ds (conditions_in old q)) is_edit))
      next_edit (Put project path lang text) (edit.Drop p) is_edit o which files conditions = absurd is_edit
      next_edit (Put project path lang text) (edit.Gate set_to) is_edit o which files conditions = absurd is_edit
      next_edit (Drop project path) (edit.Put held) is_edit o which files conditions = absurd is_edit
      next_edit (Drop project path) (edit.Gate set_to) is_edit o which files conditions = absurd is_edit
      next_edit (Gate project cs) (edit.Put held) is_edit o which files conditions = absurd is_edit
      next_edit (Gate project cs) (edit.Drop p) is_edit o which files conditions = absurd is_edit

module _ {W : Type 0} (IsWork : Lang → List ℕ → W → Type 0) (number : ℕ) (c : Change) (e : ProjectEdit W) (is_edit : IsEditFor IsWork number c e) (old new : List (ListedProject W)) (names : AreRising name_in new) where
  -- an edit that the change asks for adds it, where it is made
  pub edit_adds : {E : Type 0} (name : List ℕ) → name ≡ project_named c → (r : Result (Option ℕ) E) →
      IfOk r (λ o. o ≡ replaced_by e (files_in old name)) →
      OnOk r ((q : List ℕ) → files_in new q ≡ cond (bytes_eq q name) (edited_files e (files_in old q)) (files_in old q)) →
      OnOk r ((q : List ℕ) → conditions_in new q ≡ cond (bytes_eq q name) (edited_conditions e (conditions_in old q)) (conditions_in old q)) →
      IfOk r (AddsChange IsWork number c old new)
  edit_adds name named (Err err) which files conditions = tt
  edit_adds name named (Ok o) which files conditions = λ changes base put gone n is.
      next_edit IsWork changes number n base old put gone is new names c e is_edit o
      (which ∙ ap (λ p. replaced_by e (files_in old p)) named)
      (λ q. files q ∙ ap (λ p. cond (bytes_eq q p) (edited_files e (files_in old q)) (files_in old q)) named)
      (λ q. conditions q ∙ ap (λ p. cond (bytes_eq q p) (edited_conditions e (conditions_in old q)) (conditions_in old q)) named)

module _ {W : Type 0} (IsWork : Lang → List ℕ → W → Type 0) (number : ℕ) (c : Change) (e : ProjectEdit W) (is_edit : IsEditFor IsWork number c e) (old new : List (ListedProject W)) where
  -- the same where the order of names is told with the rest
  pub draft_adds : {E : Type 0} (name : List ℕ) → name ≡ project_named c → (r : Result (Option ℕ) E) → OnOk r (AreRising name_in new) →
      IfOk r (λ o. o ≡ replaced_by e (files_in old name)) →
      OnOk r ((q : List ℕ) → files_in new q ≡ cond (bytes_eq q name) (edited_files e (files_in old q)) (files_in old q)) →
      OnOk r ((q : List ℕ) → conditions_in new q ≡ cond (bytes_eq q name) (edited_conditions e (conditions_in old q)) (conditions_in old q)) →
      IfOk r (AddsChange IsWork number c old new)
  draft_adds {E = E} name named (Err err) names which files conditions = tt
  draft_adds {E = E} name named (Ok o) names which files conditions = edit_adds IsWork number c e is_edit old new names {E = E} name named (Ok o) which files conditions

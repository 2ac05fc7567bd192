-- The listing of changes among which some are gone: what is skipped leaves the files and the conditions.
use Rattle.std.proofs.Common.{◌≡◌, ◌⊎◌, ℕ, ◌+◌, ◌-◌, ◌<◌, ◌≤◌, List, [], ◌∷◌, ◌++◌, length, take, sym, ap, ◌∙◌, subst, ⊎_elim, arith}
use Rattle.std.specs.List.{prefix_len}
use Rattle.std.proofs.lemmas.List.{length-map, get_or-map}
use Rattle.std.proofs.lemmas.List.Sums.{prefix_len-le-length}
use Rattle.cq_base.specs.declared.lang.Lang.{Lang}
use Rattle.cq_base.specs.declared.change.Change.{Change}
use Rattle.cq_history.specs.Changes.{no_change}
use Rattle.cq_history.specs.Files.{Source, files_of, conditions_of}
use Rattle.cq_history.specs.Standing.{Has}
use Rattle.cq_history.specs.State.{Slot, no_slot, is_done}
use Rattle.cq_history.proofs.Blanks.{blanked_up_to, length_blanked, kept_stands, files_skipped, conditions_skipped, files_blanked, conditions_blanked}
use Rattle.cq_kept.specs.Accepted.{Accepted, Holds, IsNextHeld}
use Rattle.cq_board.specs.Related.{AreSameFiles}
use Rattle.cq_kept.specs.Slots.{slot_at, changes_of}
use Rattle.cq_board.specs.Listings.{Listed, IsListing}
use Rattle.cq_board.specs.Turnover.{IsNext}
use Rattle.cq_projects.specs.Projects.{ListedProject, files_in}

-- both leave the same files and conditions of each project
pub record LeaveTheSame (cs ds : List Change) : Type 0 where
  pub files : (q : List ℕ) → files_of q ds ≡ files_of q cs
  pub conditions : (q : List ℕ) → conditions_of q ds ≡ conditions_of q cs

module _ {W : Type 0} (IsWork : Lang → List ℕ → W → Type 0) (cs ds : List Change) (same : LeaveTheSame cs ds) where
  pub listing_of : (l : Listed W) → IsListing IsWork cs l → IsListing IsWork ds l
  listing_of l is = record {
    names = is.names;
    files = λ q. subst (λ fs. AreSameFiles IsWork fs (files_in l.projects q)) (sym (same.files q)) (is.files q);
    conditions = λ q. is.conditions q ∙ sym (same.conditions q);
    numbers = record {
      rising = is.numbers.rising;
      each = λ r. (
        λ here. let (q, f, has, at) = (is.numbers.each r).0 here in (q, f, subst (λ (fs : List Source). Has fs f) (sym (same.files q)) has, at),
        λ (q, f, has, at). (is.numbers.each r).1 (q, f, subst (λ (fs : List Source). Has fs f) (same.files q) has, at),
      );
    };
  }

  pub next_of : length cs ≤ length ds → (base : List ℕ) (ps : List (ListedProject W)) (put gone : List ℕ) → IsNext IsWork cs base ps put gone → IsNext IsWork ds base ps put gone
  next_of longer base ps put gone is = record {
    listing = listing_of _ is.listing;
    rising = is.rising;
    known = λ r here. let h = is.known r here in omega (arith, h, longer);
    gone_known = λ r here. let h = is.gone_known r here in omega (arith, h, longer);
  }

-- the changes up to a version, where one that changes nothing stands for each that is gone
abbrev pub blanks : Accepted → ℕ → List Change
blanks a version = blanked_up_to (changes_of a.slots) a.floor version

pub all_accepted : (slots : List Slot) → length (changes_of slots) ≡ length slots
all_accepted slots = length-map slots (λ (s : Slot). s.change)

pub done_few : (slots : List Slot) (v : ℕ) → v ≤ prefix_len is_done slots → v ≤ length (changes_of slots)
done_few slots v done = omega (arith, done, prefix_len-le-length is_done slots, all_accepted slots)

module _ (a : Accepted) where
  -- none is kept from one version to another one
  abbrev pub NoneIsHeld : ℕ → ℕ → Type 0
  NoneIsHeld from to = (r : ℕ) → from < r → r ≤ to → Holds a r → ⊥

  skip_leaves : (from to : ℕ) → from ≤ to → to ≤ length (changes_of a.slots) → NoneIsHeld from to → LeaveTheSame (blanks a from) (blanks a to)
  skip_leaves from to order within none = record {
    files = λ q. files_skipped (changes_of a.slots) a.floor q from to order within none;
    conditions = λ q. conditions_skipped (changes_of a.slots) a.floor q from to order within none;
  }

  pub blanks_long : (number : ℕ) → Holds a number → length (blanks a (number - 1)) + 1 ≡ number
  blanks_long number held =
      let few = length_blanked (changes_of a.slots) a.floor (number - 1) (omega (arith, held.0.1)) in
      omega (arith, few, held.0.0)

  -- a change that is kept stands among them
  pub blanks_more : (number : ℕ) (c : Change) → Holds a number → c ≡ (slot_at a.slots number).change → blanks a number ≡ blanks a (number - 1) ++ c ∷ []
  blanks_more number c held is =
      let n = number - 1 in
      let up : n + 1 ≡ number = omega (arith, held.0.0) in
      let within : n < length (changes_of a.slots) = omega (arith, held.0.0, held.0.1) in
      ap (blanks a) (sym up)
      ∙ kept_stands (changes_of a.slots) a.floor n within (subst (Holds a) (sym up) held)
      ∙ ap (λ (d : Change). blanks a n ++ d ∷ []) (get_or-map (λ (s : Slot). s.change) a.slots n no_slot no_change (omega (arith, within, all_accepted a.slots)) ∙ sym is)

  -- a change above the floor is kept
  pub held_behind : (before version : ℕ) → before + 1 ≡ version → a.floor ≤ before → version ≤ prefix_len is_done a.slots → Holds a version
  held_behind before version one behind done = ((omega (arith, one), done_few a.slots version done), λ gone. omega (arith, gone.within, one, behind))

  module _ {W : Type 0} (IsWork : Lang → List ℕ → W → Type 0) where
    pub skip : (from to : ℕ) → from ≤ to → to ≤ length (changes_of a.slots) → NoneIsHeld from to → (base : List ℕ) (ps : List (ListedProject W)) (put gone : List ℕ) → IsNext IsWork (blanks a from) base ps put gone → IsNext IsWork (blanks a to) base ps put gone
    skip from to order within none base ps put gone is =
        let short = length_blanked (changes_of a.slots) a.floor from (omega (arith, order, within)) in
        let long = length_blanked (changes_of a.slots) a.floor to within in
        next_of IsWork (blanks a from) (blanks a to) (skip_leaves from to order within none) (omega (arith, short, long, order)) base ps put gone is

    pub skip_before : (at number : ℕ) → IsNextHeld a at number → (base : List ℕ) (ps : List (ListedProject W)) (put gone : List ℕ) → IsNext IsWork (blanks a at) base ps put gone → IsNext IsWork (blanks a (number - 1)) base ps put gone
    skip_before at number next base ps put gone is =
        skip at (number - 1) (omega (arith, next.behind)) (omega (arith, next.held.0.1)) (λ r low below held. next.first r low (omega (arith, below, next.behind)) held) base ps put gone is

    -- the listing of a version from the floor on, or of no changes
    pub to_blanks : (before : ℕ) → before ≤ length (changes_of a.slots) → (a.floor ≤ before) ⊎ (before ≡ 0) → (l : Listed W) → IsListing IsWork (take before (changes_of a.slots)) l → IsListing IsWork (blanks a before) l
    to_blanks before within from l is =
        ⊎_elim
        (λ (low : a.floor ≤ before). listing_of IsWork (take before (changes_of a.slots)) (blanks a before)
        (record {
          files = λ q. files_blanked (changes_of a.slots) a.floor q before within low;
          conditions = λ q. conditions_blanked (changes_of a.slots) a.floor q before within low;
        }) l is)
        (λ (none : before ≡ 0). subst (λ n. IsListing IsWork (take n (changes_of a.slots)) l → IsListing IsWork (blanks a n) l) (sym none) (λ h. h) is)
        from

    pub from_blanks : (version : ℕ) → version ≤ length (changes_of a.slots) → a.floor ≤ version → (l : Listed W) → IsListing IsWork (blanks a version) l → IsListing IsWork (take version (changes_of a.slots)) l
    from_blanks version within low l is =
        listing_of IsWork (blanks a version) (take version (changes_of a.slots))
        (record {
          files = λ q. sym (files_blanked (changes_of a.slots) a.floor q version within low);
          conditions = λ q. sym (conditions_blanked (changes_of a.slots) a.floor q version within low);
        }) l is

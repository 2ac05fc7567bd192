-- What lines hold, as more lines come.
use Rattle.std.proofs.Common.{◌≡◌, ℕ, Bool, true, false, if◌then◌else◌, List, [], ◌∷◌, ◌++◌, fold, Option, Some, None, Ok, Err, refl, sym, ap, ◌∙◌, subst, append_assoc, append-nil}
use Rattle.std.specs.List.{AllByRecursion}
use Rattle.std.proofs.lemmas.List.Sums.{fold-append}
use Rattle.cq_base.specs.declared.change.Change.{Change}
use Rattle.cq_base.specs.declared.settings.Settings.{Settings}
use Rattle.cq_log.specs.Laws.{HoldsFirst}
use Rattle.cq_log.specs.Logs.{Front, front_of, no_front, is_accepted, is_torn, after_whole, after_torn, after_line, onto, held_in}
use Rattle.cq_request.specs.declared.request.Request.TheVariants as request
use Rattle.cq_talk.specs.Said.{Said, TooLong, Read, said}

-- the second are the first and more
abbrev Later : List Change → List Change → Type 0
Later before now = (later : List Change) × (before ++ later ≡ now)

same_later : (changes now : List Change) → changes ≡ now → Later changes now
same_later changes now is = ([], append-nil changes ∙ is)

later_later : (a b c : List Change) → Later a b → Later b c → Later a c
later_later a b c one two = (one.0 ++ two.0, sym (append_assoc a one.0 two.0) ∙ (ap (λ (cs : List Change). cs ++ two.0) one.1 ∙ two.1))

module _ (set : Settings) where
  pub held_more : (lines more : List (List ℕ)) → held_in set (lines ++ more) ≡ fold (onto set) (held_in set lines) more
  held_more lines more = fold-append (onto set) (Some no_front) lines more

  -- one line more
  pub held_push : (lines : List (List ℕ)) (line : List ℕ) → held_in set (lines ++ line ∷ []) ≡ onto set (held_in set lines) line
  held_push lines line = held_more lines (line ∷ [])

  -- nothing is held from a refused line on
  pub none_stays : (more : List (List ℕ)) → fold (onto set) None more ≡ None
  none_stays [] = refl
  none_stays (line ∷ more) = none_stays more

-- What holds of what lines hold, if each line that is accepted keeps it, and so does each that changes only whether the last line
-- was cut off.
module _ (set : Settings) (Is : List ℕ → Type 0) (P : Front → Type 0)
    (takes : (front : Front) (line : List ℕ) (change : Change) → Is line → P front → said set.chunk line ≡ Read (Ok (request.Change change)) → is_accepted set front.changes change ≡ true → P (front_of (front.own ++ line ∷ []) (front.changes ++ change ∷ []) false))
    (turns : (front : Front) (torn : Bool) → P front → P (front_of front.own front.changes torn)) where
  accepted_is : (front : Front) (line : List ℕ) (change : Change) (now : Front) → said set.chunk line ≡ Read (Ok (request.Change change)) → Is line → P front → (b : Bool) → is_accepted set front.changes change ≡ b
      → (if b then Some (front_of (front.own ++ line ∷ []) (front.changes ++ change ∷ []) false) else None) ≡ Some now → P now
  accepted_is front line change now says here so true accepted is =
      let same : front_of (front.own ++ line ∷ []) (front.changes ++ change ∷ []) false ≡ now = cc in
      subst P same (takes front line change here so says accepted)
  accepted_is front line change now says here so false accepted is = absurd (cc)

  cut_off_is : (front : Front) (b : Bool) (now : Front) → P front → (if b then Some (front_of front.own front.changes true) else None) ≡ Some now → P now
  cut_off_is front true now so is =
      let same : front_of front.own front.changes true ≡ now = cc in
      subst P same (turns front true so)
  cut_off_is front false now so is = absurd (cc)

  torn_is : (front : Front) (line : List ℕ) (now : Front) → P front → after_torn front line ≡ Some now → P now
  torn_is front [] now so is =
      let same : front_of front.own front.changes false ≡ now = cc in
      subst P same (turns front false so)
  torn_is front (b ∷ line) now so is = absurd (cc)

  whole_is : (front : Front) (line : List ℕ) (says : Said) (now : Front) → said set.chunk line ≡ says → Is line → P front → after_whole set front line says ≡ Some now → P now
  whole_is front line TooLong now says here so is = absurd (cc)
  whole_is front line (Read (Ok (request.Change change))) now says here so is = accepted_is front line change now says here so (is_accepted set front.changes change) refl is
  whole_is front line (Read (Ok (request.Query query))) now says here so is = absurd (cc)
  whole_is front line (Read (Ok request.State)) now says here so is = absurd (cc)
  whole_is front line (Read (Err why)) now says here so is = cut_off_is front (is_torn why) now so is

  by_torn : (front : Front) (torn : Bool) (line : List ℕ) (now : Front) → Is line → P front → (if torn then after_torn front line else after_whole set front line (said set.chunk line)) ≡ Some now → P now
  by_torn front true line now here so is = torn_is front line now so is
  by_torn front false line now here so is = whole_is front line (said set.chunk line) now refl here so is

  line_is : (front : Front) (line : List ℕ) (now : Front) → Is line → P front → after_line set front line ≡ Some now → P now
  line_is front line now here so is = by_torn front front.torn line now here so is

  lines_are_on : (now : Front) (more : List (List ℕ)) (o : Option Front) → fold (onto set) o more ≡ Some now → ((mid : Front) → o ≡ Some mid → fold (onto set) (Some mid) more ≡ Some now → P now) → P now
  lines_are_on now more None held rest = let none : None ≡ Some now = sym (none_stays set more) ∙ held in absurd (cc)
  lines_are_on now more (Some mid) held rest = rest mid refl held

  pub lines_are : (more : List (List ℕ)) (front now : Front) → AllByRecursion Is more → P front → fold (onto set) (Some front) more ≡ Some now → P now
  lines_are [] front now all so held =
      let same : front ≡ now = cc in
      subst P same so
  lines_are (line ∷ more) front now all so held =
      lines_are_on now more (after_line set front line) held (λ mid is rest. lines_are more mid now all.1 (line_is front line mid all.0 so is) rest)

-- of any lines
any_lines : (lines : List (List ℕ)) → AllByRecursion (λ _. Unit {0}) lines
any_lines [] = tt
any_lines (line ∷ lines) = (tt, any_lines lines)

module _ (set : Settings) where
  pub lines_grow : (more : List (List ℕ)) (front now : Front) → fold (onto set) (Some front) more ≡ Some now → Later front.changes now.changes
  lines_grow more front now held =
      lines_are set (λ _. Unit {0}) (λ mid. Later front.changes mid.changes)
      (λ mid line change here later says accepted. later_later front.changes mid.changes (mid.changes ++ change ∷ []) later (change ∷ [], refl)) (λ mid torn later. later)
      more front now (any_lines more) (same_later front.changes front.changes refl) held

  first_of_more : (lines more : List (List ℕ)) (now : Front) (o : Option Front) → held_in set lines ≡ o → fold (onto set) o more ≡ Some now → HoldsFirst set lines now.changes
  first_of_more lines more now None is held = let none : None ≡ Some now = sym (none_stays set more) ∙ held in absurd (cc)
  first_of_more lines more now (Some front) is held =
      let grown = lines_grow more front now held in
      record { front = front; held = is; later = grown.0; parts = grown.1 }

  pub log_grows : (lines more : List (List ℕ)) (now : Front) → held_in set (lines ++ more) ≡ Some now → HoldsFirst set lines now.changes
  log_grows lines more now held = first_of_more lines more now (held_in set lines) refl (sym (held_more set lines more) ∙ held)

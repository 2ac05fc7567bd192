-- What a line adds to what the lines before it hold, by what it says.
use Rattle.std.proofs.Common.{◌≡◌, ℕ, ◌<◌, ◌≤◌, Bool, true, false, if◌then◌else◌, List, [], ◌∷◌, ◌++◌, length, Option, Some, None, Ok, Err, Result, refl, sym, ap, ◌∙◌, subst, arith}
use Rattle.std.proofs.lemmas.Bool.{lt-ltb, le-ltb}
use Rattle.cq_base.specs.declared.change.Change.{Change}
use Rattle.cq_base.specs.declared.settings.Settings.{Settings}
use Rattle.cq_lines.specs.Pieces.{line_limit}
use Rattle.cq_log.specs.Logs.{Front, front_of, is_accepted, after_whole, after_torn, onto, held_in}
use Rattle.cq_log.specs.Takers.{HasHeld, IsCutOff, IsOther, TakesLine, TakesOne, mended_by}
use Rattle.cq_log.proofs.Growing.{held_push}
use Rattle.cq_request.specs.Reading.{line_says}
use Rattle.cq_base.specs.declared.refusal.Refusal.{Refusal}
use Rattle.cq_request.specs.declared.request.Request.{Request}
use Rattle.cq_request.specs.declared.request.Request.TheVariants as request
use Rattle.cq_talk.specs.Said.{Said, TooLong, Read, said}

-- ---- what a line says

was_read : (chunk : ℕ) (line : List ℕ) (says : Result Request Refusal) → length line ≤ line_limit → line_says chunk line ≡ says → said chunk line ≡ Read says
was_read chunk line says short is = ap (λ (b : Bool). if b then TooLong else Read (line_says chunk line)) (le-ltb _ _ short) ∙ ap Read is

was_long : (chunk : ℕ) (line : List ℕ) → line_limit < length line → said chunk line ≡ TooLong
was_long chunk line long = ap (λ (b : Bool). if b then TooLong else Read (line_says chunk line)) (lt-ltb _ _ long)

module _ {T : Type 0} (Has : T → Settings → List (List ℕ) → List Change → Type 0) (set : Settings) where
  -- one line more, after lines of which it is known what they hold
  next_held : (lines : List (List ℕ)) (line : List ℕ) (front : Front) → held_in set lines ≡ Some front → held_in set (lines ++ line ∷ []) ≡ onto set (Some front) line
  next_held lines line front is = held_push set lines line ∙ ap (λ (o : Option Front). onto set o line) is

  -- after a whole line
  whole_held : (lines : List (List ℕ)) (line : List ℕ) (own : List (List ℕ)) (changes : List Change) (says : Said) → held_in set lines ≡ Some (front_of own changes false) → said set.chunk line ≡ says
      → held_in set (lines ++ line ∷ []) ≡ after_whole set (front_of own changes false) line says
  whole_held lines line own changes says is here = next_held lines line (front_of own changes false) is ∙ ap (after_whole set (front_of own changes false) line) here

  torn_held : (front : Front) (line : List ℕ) (says : Result Request Refusal) → IsCutOff says → after_whole set front line (Read says) ≡ Some (front_of front.own front.changes true)
  torn_held front line (Ok request) cut = absurd cut
  torn_held front line (Err why) cut = ap (λ (b : Bool). if b then Some (front_of front.own front.changes true) else None) cut

  pub cut_off : (line : List ℕ) (t : T) → length line ≤ line_limit → IsCutOff (line_says set.chunk line) → TakesLine Has set false line t t (Some true)
  cut_off line t short cut lines has = record {
    own = has.own;
    changes = has.changes;
    held =
        whole_held lines line has.own has.changes (Read (line_says set.chunk line)) has.held (was_read set.chunk line (line_says set.chunk line) short refl)
        ∙ torn_held (front_of has.own has.changes false) line (line_says set.chunk line) cut;
    has = has.has;
  }

  other_held : (front : Front) (line : List ℕ) (says : Result Request Refusal) → IsOther says → after_whole set front line (Read says) ≡ None
  other_held front line (Ok (request.Change change)) other = absurd other
  other_held front line (Ok (request.Query query)) other = refl
  other_held front line (Ok request.State) other = refl
  other_held front line (Err why) other = ap (λ (b : Bool). if b then Some (front_of front.own front.changes true) else None) other

  pub other_refused : (line : List ℕ) (old new : T) → length line ≤ line_limit → IsOther (line_says set.chunk line) → TakesLine Has set false line old new None
  other_refused line old new short other lines has =
      whole_held lines line has.own has.changes (Read (line_says set.chunk line)) has.held (was_read set.chunk line (line_says set.chunk line) short refl) ∙ other_held (front_of has.own has.changes false) line (line_says set.chunk line) other

  module _ (line : List ℕ) (old new : T) (change : Change) (short : length line ≤ line_limit) (is : line_says set.chunk line ≡ Ok (request.Change change)) where
    change_held : (lines own : List (List ℕ)) (changes : List Change) (b : Bool) → held_in set lines ≡ Some (front_of own changes false) → is_accepted set changes change ≡ b
        → held_in set (lines ++ line ∷ []) ≡ (if b then Some (front_of (own ++ line ∷ []) (changes ++ change ∷ []) false) else None)
    change_held lines own changes b held accepted =
        whole_held lines line own changes (Read (Ok (request.Change change))) held (was_read set.chunk line (Ok (request.Change change)) short is)
        ∙ ap (λ (b : Bool). if b then Some (front_of (own ++ line ∷ []) (changes ++ change ∷ []) false) else None) accepted

    pub change_taken : TakesOne Has set old new line change true → TakesLine Has set false line old new (Some false)
    change_taken takes lines has =
        let more = takes has.own has.changes has.has in
        record { own = has.own ++ line ∷ []; changes = has.changes ++ change ∷ []; held = change_held lines has.own has.changes true has.held more.0; has = more.1 }

    pub change_refused : TakesOne Has set old new line change false → TakesLine Has set false line old new None
    change_refused takes lines has = change_held lines has.own has.changes false has.held (takes has.own has.changes has.has)

  -- after a line that was cut off
  pub mends : (t : T) → TakesLine Has set true [] t t (Some false)
  mends t lines has = record { own = has.own; changes = has.changes; held = next_held lines [] (front_of has.own has.changes true) has.held; has = has.has }

  some_torn : (front : Front) (line : List ℕ) → 0 < length line → after_torn front line ≡ None
  some_torn front [] some = absurd (omega (arith, some))
  some_torn front (b ∷ line) some = refl

  pub does_not_mend : (line : List ℕ) (old new : T) → 0 < length line → TakesLine Has set true line old new None
  does_not_mend line old new some lines has = next_held lines line (front_of has.own has.changes true) has.held ∙ some_torn (front_of has.own has.changes true) line some

  -- whatever the line is
  pub mended_or_not : (line : List ℕ) (t : T) → TakesLine Has set true line t t (mended_by line)
  mended_or_not [] t = mends t
  mended_or_not (b ∷ line) t = does_not_mend (b ∷ line) t t (omega arith)

  pub mended_if : (line : List ℕ) (t : T) (torn : Bool) (now : Option Bool) → torn ≡ true → now ≡ mended_by line → TakesLine Has set torn line t t now
  mended_if line t torn now is same = subst (λ (o : Option Bool). TakesLine Has set torn line t t o) (sym same) (subst (λ (b : Bool). TakesLine Has set b line t t (mended_by line)) (sym is) (mended_or_not line t))

  -- a line that is too long
  pub long_refused : (torn : Bool) (line : List ℕ) (t : T) (lines : List (List ℕ)) → line_limit < length line → HasHeld Has set lines torn t → held_in set (lines ++ line ∷ []) ≡ None
  long_refused true line t lines long has = does_not_mend line t t (omega (arith, long)) lines has
  long_refused false line t lines long has = whole_held lines line has.own has.changes TooLong has.held (was_long set.chunk line long)

-- The lines that are needed, up to one number after the other.
use Rattle.std.proofs.Common.{◌≡◌, ℕ, ◌-◌, ◌<◌, ◌≤◌, Bool, cond, nat_le, List, [], ◌∷◌, ◌++◌, length, map, flat_map, filter, get_or, Option, Some, None, refl, sym, ap, ap₂, ◌∙◌, subst, ⊎_elim, append_assoc, append-nil, Bor, arith}
use Rattle.std.specs.Prelude.{AllPairs, Contains, Vec, option_copied}
use Rattle.std.specs.BTreeMap.{get}
use Rattle.std.specs.Ordering.{nat_cmp}
use Rattle.std.specs.declared.alloc.Global.{Global}
use Rattle.std.specs.Io.KnownBytes.{Appends}
use Rattle.std.proofs.KnownBytes.{Appends-nil, Appends-trans}
use Rattle.std.proofs.lemmas.Bool.{cases_lt, le-leb, lt-leb}
use Rattle.std.proofs.lemmas.Grind.{flat_map-append}
use Rattle.std.proofs.lemmas.List.{length-map, map-append}
use Rattle.std.proofs.lemmas.List.Kept.{AllPairs-from_increasing}
use Rattle.cq_base.proofs.Lists.{Contains-here, Contains-there, Contains-cases, AllPairs-head, AllPairs-tail}
use Rattle.cq_base.specs.declared.change.Change.{Change}
use Rattle.cq_base.specs.declared.settings.Settings.{Settings}
use Rattle.cq_history.proofs.Forgetting.{kept_are}
use Rattle.cq_history.specs.Gone.{IsKept}
use Rattle.cq_history.specs.State.{Slot}
use Rattle.cq_kept.specs.Accepted.{Accepted, Holds, HoldsNoneBehind, IsNextHeld}
use Rattle.cq_lines.specs.Pieces.{ended}
use Rattle.cq_shorten.specs.Needed.{needed, needed_lines}
use Rattle.cq_shorten.specs.Keeping.{Has, HasLine, SentUpTo, needed_up_to}
use Rattle.cq_shorten.specs.declared.held.Shortener.{Shortener}
use Rattle.cq_talk.proofs.Causing.{changes_new}

-- ---- rising numbers up to one of them

abbrev Rising : List ℕ → Type 0
Rising ns = AllPairs (λ (a b : ℕ). a < b) ns

abbrev up_to : ℕ → List ℕ → List ℕ
up_to last ns = filter (λ (n : ℕ). nat_le n last) ns

none_up_to : (last : ℕ) (ns : List ℕ) → ((n : ℕ) → Contains ns n → last < n) → up_to last ns ≡ []
none_up_to last [] above = refl
none_up_to last (n ∷ ns) above =
    ap (λ (b : Bool). cond b (n ∷ up_to last ns) (up_to last ns)) (lt-leb n last (above n (Contains-here n ns))) ∙ none_up_to last ns (λ m there. above m (Contains-there n m ns there))

all_up_to : (last : ℕ) (ns : List ℕ) → ((n : ℕ) → Contains ns n → n ≤ last) → up_to last ns ≡ ns
all_up_to last [] low = refl
all_up_to last (n ∷ ns) low =
    ap (λ (b : Bool). cond b (n ∷ up_to last ns) (up_to last ns)) (le-leb n last (low n (Contains-here n ns)))
    ∙ ap (λ (ms : List ℕ). n ∷ ms) (all_up_to last ns (λ m there. low m (Contains-there n m ns there)))

first_in : (last m : ℕ) (ns : List ℕ) → m ≤ last → up_to last (m ∷ ns) ≡ m ∷ up_to last ns
first_in last m ns low = ap (λ (b : Bool). cond b (m ∷ up_to last ns) (up_to last ns)) (le-leb m last low)

-- those after the first are greater than what is below the first
none_below : (last m : ℕ) (ns : List ℕ) → last < m → Rising (m ∷ ns) → up_to last (m ∷ ns) ≡ []
none_below last m ns past rising =
    none_up_to last (m ∷ ns) (λ n there.
    ⊎_elim (λ (here : m ≡ n). let less : last < n = omega (arith, past, here) in less)
    (λ later. let less = AllPairs-head (λ (a b : ℕ). a < b) m n ns rising later in let less_too : last < n = omega (arith, past, less) in less_too) (Contains-cases m n ns there))

-- the next number of those, and none in between
next_up_to : (after number : ℕ) → after < number → (ns : List ℕ) → Rising ns → Contains ns number → ((r : ℕ) → after < r → r < number → Contains ns r → ⊥) → up_to number ns ≡ up_to after ns ++ number ∷ []
next_up_to after number low [] rising (k, within, at) between = absurd (omega (arith, within))
next_up_to after number low (m ∷ ns) rising has between =
    ⊎_elim
    (λ (past : after < m).
    ⊎_elim
    (λ (same : m ≡ number).
    first_in number m ns (omega (arith, same))
    ∙ ap₂ (λ (n : ℕ) (ms : List ℕ). n ∷ ms) same (none_up_to number ns (λ n later. let less = AllPairs-head (λ (a b : ℕ). a < b) m n ns rising later in omega (arith, same, less)))
    ∙ ap (λ (ms : List ℕ). ms ++ number ∷ []) (sym (none_below after m ns past rising)))
    (λ later. absurd (between m past (AllPairs-head (λ (a b : ℕ). a < b) m number ns rising later) (Contains-here m ns)))
    (Contains-cases m number ns has))
    (λ (early : m ≤ after).
    let later : Contains ns number = ⊎_elim (λ (same : m ≡ number). absurd (omega (arith, same, early, low))) (λ there. there) (Contains-cases m number ns has) in
    first_in number m ns (omega (arith, early, low))
    ∙ ap (λ (ms : List ℕ). m ∷ ms) (next_up_to after number low ns (AllPairs-tail (λ (a b : ℕ). a < b) m ns rising) later (λ r above below there. between r above below (Contains-there m r ns there)))
    ∙ ap (λ (ms : List ℕ). ms ++ number ∷ []) (sym (first_in after m ns early)))
    (cases_lt after m)

-- the numbers up to one come first
up_to_front : (last : ℕ) (ns : List ℕ) → Rising ns → (more : List ℕ) × (up_to last ns ++ more ≡ ns)
up_to_front last [] rising = ([], refl)
up_to_front last (m ∷ ns) rising =
    ⊎_elim (λ (past : last < m). (m ∷ ns, ap (λ (ms : List ℕ). ms ++ m ∷ ns) (none_below last m ns past rising)))
    (λ (early : m ≤ last).
    let rest = up_to_front last ns (AllPairs-tail (λ (a b : ℕ). a < b) m ns rising) in
    (rest.0, ap (λ (ms : List ℕ). ms ++ rest.0) (first_in last m ns early) ∙ ap (λ (ms : List ℕ). m ∷ ms) rest.1))
    (cases_lt last m)

-- ---- their lines

module _ (s : Shortener) (set : Settings) (own : List (List ℕ)) (changes : List Change) (has : Has s set own changes) where
  abbrev line_of : ℕ → List ℕ
  line_of number = get_or own (number - 1) []

  abbrev bytes_of : List ℕ → List ℕ
  bytes_of ns = flat_map ended (map line_of ns)

  bytes_join : (ms ns : List ℕ) → bytes_of (ms ++ ns) ≡ bytes_of ms ++ bytes_of ns
  bytes_join ms ns = ap (flat_map ended) (map-append line_of ms ns) ∙ flat_map-append ended (map line_of ms) (map line_of ns)

  rising : Rising (needed changes)
  rising = AllPairs-from_increasing (needed changes) (kept_are changes (length changes)).rising

  pub kept_held : (n : ℕ) → Holds s.changes n → IsKept changes (length changes) n
  kept_held n holds = subst (λ (cs : List Change). IsKept cs (length changes) n) (changes_new changes) (subst (λ (a : Accepted). Holds a n) has.changes_are holds)

  held_needed : (n : ℕ) → Contains (needed changes) n → Holds s.changes n
  held_needed n there =
      subst (λ (a : Accepted). Holds a n) (sym has.changes_are) (subst (λ (cs : List Change). IsKept cs (length changes) n) (sym (changes_new changes)) (((kept_are changes (length changes)).each n).0 there))

  pub none_needed : needed_up_to changes own 0 ≡ []
  none_needed = ap bytes_of (none_up_to 0 (needed changes) (λ n there. (((kept_are changes (length changes)).each n).0 there).0.0))

  module _ (after number : ℕ) (next : IsNextHeld s.changes after number) where
    pub one_more_needed : needed_up_to changes own number ≡ needed_up_to changes own after ++ ended (line_of number)
    one_more_needed =
        ap bytes_of
        (next_up_to after number next.behind (needed changes) rising (((kept_are changes (length changes)).each number).1 (kept_held number next.held)) (λ r above below there. next.first r above below (held_needed r there)))
        ∙ bytes_join (up_to after (needed changes)) (number ∷ []) ∙ ap (λ (bs : List ℕ). needed_up_to changes own after ++ bs) (append-nil (ended (line_of number)))

  pub all_needed : (after : ℕ) → HoldsNoneBehind s.changes after → needed_up_to changes own after ≡ flat_map ended (needed_lines changes own)
  all_needed after none =
      ap bytes_of (all_up_to after (needed changes) (λ n there. ⊎_elim (λ (past : after < n). absurd (none n past (held_needed n there))) (λ (low : n ≤ after). low) (cases_lt after n)))

  pub front_needed : (last : ℕ) → (more : List ℕ) × (needed_up_to changes own last ++ more ≡ flat_map ended (needed_lines changes own))
  front_needed last =
      let front = up_to_front last (needed changes) rising in
      (bytes_of front.0, sym (bytes_join (up_to last (needed changes)) front.0) ∙ ap bytes_of front.1)

-- ---- what is written of them

-- what is found at a number is the line that is held there
module _ (s : Shortener) (number : ℕ) (found : Option (Bor (Vec ℕ Global))) (at : option_copied found ≡ get nat_cmp s.lines number) where
  pub found_held : (k : Bor (Vec ℕ Global)) → found ≡ Some k → (line : List ℕ) → HasLine s number line → k.now.items ≡ line
  found_held k is line has =
      let both : Some k.now ≡ Some has.0 = sym (ap option_copied is) ∙ at ∙ has.1 in
      let same : k.now ≡ has.0 = cc in
      ap (λ (v : Vec ℕ Global). v.items) same ∙ has.2

  -- and if nothing is found, none is
  pub found_none : found ≡ None → (line : List ℕ) → HasLine s number line → ⊥
  found_none is line has = let none : None ≡ Some has.0 = sym (ap option_copied is) ∙ at ∙ has.1 in absurd (cc)

-- nothing, at first
pub none_sent : (s : Shortener) (written : Option (List ℕ)) → SentUpTo s 0 written written
none_sent s written set own changes has = subst (λ (bs : List ℕ). Appends written written bs) (sym (none_needed s set own changes has)) (Appends-nil written)

module _ (s : Shortener) (after number : ℕ) (a b c : Option (List ℕ)) (next : IsNextHeld s.changes after number) (sent : SentUpTo s after a b) where
  -- the line of the next that is held
  pub line_sent : ((line : List ℕ) → HasLine s number line → Appends b c (ended line)) → SentUpTo s number a c
  line_sent sends set own changes has =
      let line : List ℕ = get_or own (number - 1) [] in
      subst (λ (bs : List ℕ). Appends a c bs) (sym (one_more_needed s set own changes has after number next))
      (Appends-trans a b c (needed_up_to changes own after) (ended line) (sent set own changes has) (sends line (has.lines number (kept_held s set own changes has number next.held))))

  -- or a front of it
  pub line_broken : ((line : List ℕ) → HasLine s number line → (front more : List ℕ) × (front ++ more ≡ ended line) × Appends b c front) → (set : Settings) (own : List (List ℕ)) (changes : List Change) → Has s set own changes
      → (front more : List ℕ) × (front ++ more ≡ flat_map ended (needed_lines changes own)) × Appends a c front
  line_broken breaks set own changes has =
      let line : List ℕ = get_or own (number - 1) [] in
      let broken = breaks line (has.lines number (kept_held s set own changes has number next.held)) in
      let before : List ℕ = needed_up_to changes own after in
      let rest = front_needed s set own changes has number in (
        before ++ broken.0,
        broken.1 ++ rest.0,
        append_assoc before broken.0 (broken.1 ++ rest.0) ∙ ap (λ (bs : List ℕ). before ++ bs) (sym (append_assoc broken.0 broken.1 rest.0) ∙ ap (λ (bs : List ℕ). bs ++ rest.0) broken.2)
            ∙ sym (append_assoc before (ended line) rest.0) ∙ ap (λ (bs : List ℕ). bs ++ rest.0) (sym (one_more_needed s set own changes has after number next)) ∙ rest.1,
        Appends-trans a b c before broken.0 (sent set own changes has) broken.3,
      )

-- all of them, once no more is held
pub all_sent : (s : Shortener) (after : ℕ) (a b : Option (List ℕ)) → SentUpTo s after a b → HoldsNoneBehind s.changes after → (set : Settings) (own : List (List ℕ)) (changes : List Change) → Has s set own changes
    → Appends a b (flat_map ended (needed_lines changes own))
all_sent s after a b sent none set own changes has = subst (λ (bs : List ℕ). Appends a b bs) (all_needed s set own changes has after none) (sent set own changes has)

-- a number that is held is that of a change
pub held_within : (s : Shortener) (number : ℕ) → Holds s.changes number → number ≤ length s.changes.slots
held_within s number holds = omega (arith, holds.0.1, length-map s.changes.slots (λ (slot : Slot). slot.change))

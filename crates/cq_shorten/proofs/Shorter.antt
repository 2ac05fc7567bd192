-- The lines that are needed are a log of their own: each says its change, and each change is accepted after those before it.
use Rattle.std.proofs.Common.{◌≡◌, ◌≢◌, ℕ, zero, suc, ◌+◌, ◌-◌, ◌<◌, ◌≤◌, ◌^◌, Bool, true, false, cond, eqb, nat_le, List, [], ◌∷◌, ◌++◌, length, map, flat_map, drop, take, get_or, Some, Ok, refl, sym, ap, ◌∙◌, subst, ⊎_elim, append_assoc, length-append, arith}
use Rattle.std.specs.Prelude.{Contains, sum_by}
use Rattle.std.specs.List.{AllByRecursion}
use Rattle.std.proofs.Math.ListN.{get_or-append}
use Rattle.std.proofs.Math.Seq.{get_or-append_seam}
use Rattle.std.proofs.lemmas.Bool.{and_from, cases_lt, false_from_ne_true, le-leb, le-ltb, leb-false, lt-leb, ltb-false, or_from, or_parts}
use Rattle.std.proofs.lemmas.List.{length-map, map-append}
use Rattle.std.proofs.lemmas.List.Sums.{sum_by-append, sum_by-cons}
use Rattle.cq_base.specs.declared.change.Change.{Change}
use Rattle.cq_base.specs.declared.change.Change.TheVariants.{Put, Drop, Gate}
use Rattle.cq_base.specs.declared.settings.Settings.{Settings}
use Rattle.cq_history.proofs.Forgetting.{gone_is, kept_are}
use Rattle.cq_history.proofs.Keeping.{all_kept, kept_falls, one_more}
use Rattle.cq_history.specs.Changes.{no_change, text_len}
use Rattle.cq_history.specs.Gone.{IsKept, bytes_at, is_over, kept_bytes, kept_count}
use Rattle.cq_history.specs.Lawful.{is_absent, is_full, is_long, kept_changes, kept_text_bytes}
use Rattle.cq_history.specs.State.{State, new_slot}
use Rattle.cq_lines.specs.Pieces.{HasNoFeed, ended, split, onto_split, last_line, all_lines}
use Rattle.cq_log.proofs.Growing.{lines_are}
use Rattle.cq_log.proofs.Mended.{continued}
use Rattle.cq_log.specs.Laws.{ContinueWith, IsMended}
use Rattle.cq_log.specs.Logs.{Front, front_of, no_front, is_accepted, held_by}
use Rattle.cq_shorten.specs.Needed.{needed, needed_changes, needed_lines}
use Rattle.cq_request.specs.declared.request.Request.TheVariants as request
use Rattle.cq_shorten.proofs.Deciding.{accepted_without, none_passed}
use Rattle.cq_talk.proofs.Causing.{changes_new}
use Rattle.cq_talk.specs.Causes.{state_at}
use Rattle.cq_talk.specs.Said.{Read, said}

-- ---- no line of bytes has a line feed

none_clean : HasNoFeed []
none_clean k low feed = omega (arith, low)

cons_clean : (b : ℕ) (bytes : List ℕ) → b ≢ 10 → HasNoFeed bytes → HasNoFeed (b ∷ bytes)
cons_clean b bytes other clean zero low feed = other feed
cons_clean b bytes other clean (suc k) low feed = clean k (omega (arith, low)) feed

-- lines and what follows them have none
abbrev AreClean : List (List ℕ) × List ℕ → Type 0
AreClean p = AllByRecursion HasNoFeed p.0 × HasNoFeed p.1

onto_clean : (b : ℕ) (lines : List (List ℕ)) (rest : List ℕ) → b ≢ 10 → AreClean (lines, rest) → AreClean (onto_split b lines rest)
onto_clean b [] rest other clean = (tt, cons_clean b rest other clean.1)
onto_clean b (line ∷ lines) rest other clean = ((cons_clean b line other clean.0.0, clean.0.1), clean.1)

byte_clean : (b : ℕ) (is : Bool) (lines : List (List ℕ)) (rest : List ℕ) → eqb b 10 ≡ is → AreClean (lines, rest) → AreClean (cond is ([] ∷ lines, rest) (onto_split b lines rest))
byte_clean b true lines rest is clean = ((none_clean, clean.0), clean.1)
byte_clean b false lines rest is clean = onto_clean b lines rest (λ feed. let same : eqb b 10 ≡ true = rw feed refl in let bad : true ≡ false = sym same ∙ is in absurd (cc)) clean

split_is_clean : (bytes : List ℕ) → AreClean (split bytes)
unfolding split
split_is_clean [] = (tt, none_clean)
split_is_clean (b ∷ bytes) = byte_clean b (eqb b 10) (split bytes).0 (split bytes).1 refl (split_is_clean bytes)

last_clean : (lines : List (List ℕ)) (rest : List ℕ) → AreClean (lines, rest) → AllByRecursion HasNoFeed (lines ++ last_line rest)
last_clean [] [] clean = tt
last_clean [] (b ∷ rest) clean = (clean.1, tt)
last_clean (line ∷ lines) rest clean = (clean.0.0, last_clean lines rest (clean.0.1, clean.1))

lines_are_clean : (bytes : List ℕ) → AllByRecursion HasNoFeed (all_lines bytes)
lines_are_clean bytes = last_clean (split bytes).0 (split bytes).1 (split_is_clean bytes)

-- ---- what is known of a log

-- each line says its change, and what is kept of them is within the limits
record IsLog (set : Settings) (own : List (List ℕ)) (changes : List Change) : Type 0 where
  paired : length own ≡ length changes
  says : (k : ℕ) → k < length changes → said set.chunk (get_or own k []) ≡ Read (Ok (request.Change (get_or changes k no_change)))
  clean : (k : ℕ) → k < length changes → HasNoFeed (get_or own k [])
  many : length changes ≤ 2 ^ 60
  few : kept_count changes (length changes) ≤ set.change_limit
  short : kept_bytes changes (length changes) ≤ set.text_limit

-- a text that is not too long fits
fits : (set : Settings) (s : State) (change : Change) → kept_text_bytes s ≤ set.text_limit → is_long set s change ≡ false → kept_text_bytes s + text_len change ≤ set.text_limit
fits set s (Put project path lang text) low short = ltb-false set.text_limit (kept_text_bytes s + length text) short
fits set s (Drop project path) low short = omega (arith, low)
fits set s (Gate project conditions) low short = omega (arith, low)

module _ (set : Settings) where
  -- one change more, which is accepted
  module _ (own : List (List ℕ)) (changes : List Change) (line : List ℕ) (change : Change) (says : said set.chunk line ≡ Read (Ok (request.Change change))) (clean : HasNoFeed line) (log : IsLog set own changes) where
    line_here : (k : ℕ) → k ≡ length changes → get_or (own ++ line ∷ []) k [] ≡ line
    line_here k is =
        let place : k ≡ length own = omega (arith, is, log.paired) in
        ap (λ (i : ℕ). get_or (own ++ line ∷ []) i []) place ∙ get_or-append_seam own line [] []

    line_before : (k : ℕ) → k < length changes → get_or (own ++ line ∷ []) k [] ≡ get_or own k []
    line_before k low = get_or-append own (line ∷ []) [] k (omega (arith, low, log.paired))

    change_here : (k : ℕ) → k ≡ length changes → get_or (changes ++ change ∷ []) k no_change ≡ change
    change_here k is = ap (λ (i : ℕ). get_or (changes ++ change ∷ []) i no_change) is ∙ get_or-append_seam changes change [] no_change

    long : length (changes ++ change ∷ []) ≡ length changes + 1
    long = length-append changes (change ∷ [])

    change_said : (c d : Change) → c ≡ d → Read (Ok (request.Change c)) ≡ Read (Ok (request.Change d))
    change_said c d is = ap (λ (e : Change). Read (Ok (request.Change e))) is

    one_more_is : is_accepted set changes change ≡ true → IsLog set (own ++ line ∷ []) (changes ++ change ∷ [])
    one_more_is accepted =
        let s : State = state_at changes (length changes) in
        let none = none_passed (is_absent s change) (is_full set s) (is_long set s change) accepted in
        let room = or_parts (nat_le set.change_limit (kept_changes s)) (nat_le (2 ^ 60) (length s.slots)) none.1 in
        let kept_room = leb-false set.change_limit (kept_changes s) room.0 in
        let number_room = leb-false (2 ^ 60) (length s.slots) room.1 in
        let slots : length s.slots ≡ length changes = length-map changes new_slot in
        let count : kept_changes s ≡ kept_count changes (length changes) = ap (λ cs. kept_count cs (length changes)) (changes_new changes) in
        let sum : kept_text_bytes s ≡ kept_bytes changes (length changes) = ap (λ cs. kept_bytes cs (length changes)) (changes_new changes) in
        let more = one_more changes (length changes) change (omega arith) in
        let falls = kept_falls (changes ++ change ∷ []) (length changes) (length (changes ++ change ∷ [])) (omega (arith, long)) in
        let fit = fits set s change (omega (arith, sum, log.short)) none.2 in
        record {
          paired = omega (arith, log.paired, long, length-append own (line ∷ []));
          says = λ k within.
              ⊎_elim (λ (low : k < length changes). ap (said set.chunk) (line_before k low) ∙ log.says k low ∙ change_said _ _ (sym (get_or-append changes (change ∷ []) no_change k low)))
              (λ (high : length changes ≤ k).
              let is : k ≡ length changes = omega (arith, high, within, long) in
              ap (said set.chunk) (line_here k is) ∙ says ∙ change_said _ _ (sym (change_here k is)))
              (cases_lt k (length changes));
          clean = λ k within.
              ⊎_elim (λ (low : k < length changes). subst HasNoFeed (sym (line_before k low)) (log.clean k low))
              (λ (high : length changes ≤ k). let is : k ≡ length changes = omega (arith, high, within, long) in subst HasNoFeed (sym (line_here k is)) clean) (cases_lt k (length changes));
          many = omega (arith, long, slots, number_room);
          few = omega (arith, falls.0, more.1, count, kept_room);
          short = omega (arith, falls.1, more.2, sum, fit);
        }

  no_log : IsLog set [] []
  no_log = record {
    paired = refl;
    says = λ k within. absurd (omega (arith, within));
    clean = λ k within. absurd (omega (arith, within));
    many = omega arith;
    few = omega arith;
    short = omega arith;
  }

  held_is : (bytes : List ℕ) (own : List (List ℕ)) (changes : List Change) (torn : Bool) → held_by set bytes ≡ Some (front_of own changes torn) → IsLog set own changes
  held_is bytes own changes torn held =
      lines_are set HasNoFeed (λ (front : Front). IsLog set front.own front.changes) (λ front line change clean log says accepted. one_more_is front.own front.changes line change says clean log accepted) (λ front torn log. log)
      (all_lines bytes) no_front (front_of own changes torn) (lines_are_clean bytes) no_log held

-- ---- of a log, the changes that are needed

present_unless_over : (s : State) (d : Change) (later : List Change) → is_over d later ≡ false → is_absent s d ≡ false
present_unless_over s (Put project path lang text) later kept = refl
present_unless_over s (Drop project path) later kept = absurd (cc)
present_unless_over s (Gate project conditions) later kept = refl

short_if_fits : (set : Settings) (s : State) (d : Change) → kept_text_bytes s + text_len d ≤ set.text_limit → is_long set s d ≡ false
short_if_fits set s (Put project path lang text) low = le-ltb set.text_limit (kept_text_bytes s + length text) low
short_if_fits set s (Drop project path) low = refl
short_if_fits set s (Gate project conditions) low = refl

sum_of_map : (f : Change → ℕ) (g : ℕ → Change) (ns : List ℕ) → sum_by f (map g ns) ≡ sum_by (λ (n : ℕ). f (g n)) ns
sum_of_map f g [] = refl
sum_of_map f g (n ∷ ns) = sum_by-cons f (g n) (map g ns) ∙ ap (λ (m : ℕ). f (g n) + m) (sum_of_map f g ns) ∙ sym (sum_by-cons (λ (n : ℕ). f (g n)) n ns)

module _ (set : Settings) (own : List (List ℕ)) (changes : List Change) (log : IsLog set own changes) where
  abbrev line_of : ℕ → List ℕ
  line_of number = get_or own (number - 1) []

  abbrev change_of : ℕ → Change
  change_of number = get_or changes (number - 1) no_change

  -- of these needed changes, the next one is accepted after those before it
  module _ (ms : List ℕ) (n : ℕ) (ns : List ℕ) (parts : ms ++ n ∷ ns ≡ needed changes) where
    is_needed : IsKept changes (length changes) n
    is_needed =
        let place : Contains (ms ++ n ∷ ns) n = (length ms, omega (arith, length-append ms (n ∷ ns)), get_or-append_seam ms n ns n) in
        ((kept_are changes (length changes)).each n).0 (subst (λ (xs : List ℕ). Contains xs n) parts place)

    not_over : is_over (change_of n) (drop n (take (length changes) changes)) ≡ false
    not_over = false_from_ne_true (is_over (change_of n) (drop n (take (length changes) changes))) (λ over.
        is_needed.1
        ((gone_is changes (length changes) n is_needed.0).0 (and_from (nat_le n (length changes)) (is_over (change_of n) (drop n (take (length changes) changes))) (le-leb n (length changes) is_needed.0.1) over)))

    abbrev before : List Change
    before = map change_of ms

    few_before : kept_changes (state_at before (length before)) + 1 ≤ kept_count changes (length changes)
    few_before =
        let count : kept_changes (state_at before (length before)) ≡ kept_count before (length before) = ap (λ cs. kept_count cs (length before)) (changes_new before) in
        let falls = (kept_falls before 0 (length before) (omega arith)).0 in
        let all = (all_kept before).0 in
        let many : length before ≡ length ms = length-map ms change_of in
        let some : length (ms ++ n ∷ ns) ≡ kept_count changes (length changes) = ap length parts in
        omega (arith, count, falls, all, many, some, length-append ms (n ∷ ns))

    numbered_before : length (map new_slot before) + 1 ≤ length changes
    numbered_before =
        let slots : length (map new_slot before) ≡ length before = length-map before new_slot in
        let many : length before ≡ length ms = length-map ms change_of in
        let some : length (ms ++ n ∷ ns) ≡ kept_count changes (length changes) = ap length parts in
        let falls = (kept_falls changes 0 (length changes) (omega arith)).0 in
        let all = (all_kept changes).0 in
        omega (arith, slots, many, some, falls, all, length-append ms (n ∷ ns))

    short_before : kept_text_bytes (state_at before (length before)) + text_len (change_of n) ≤ kept_bytes changes (length changes)
    short_before =
        let sum : kept_text_bytes (state_at before (length before)) ≡ kept_bytes before (length before) = ap (λ cs. kept_bytes cs (length before)) (changes_new before) in
        let falls = (kept_falls before 0 (length before) (omega arith)).1 in
        let all : kept_bytes before 0 ≡ sum_by (bytes_at changes) ms = (all_kept before).1 ∙ sum_of_map text_len change_of ms in
        let whole : sum_by (bytes_at changes) (ms ++ n ∷ ns) ≡ kept_bytes changes (length changes) = ap (sum_by (bytes_at changes)) parts in
        omega (arith, sum, falls, all, whole, sum_by-append (bytes_at changes) ms (n ∷ ns), sum_by-cons (bytes_at changes) n ns)

    next_accepted : is_accepted set before (change_of n) ≡ true
    next_accepted =
        let s : State = state_at before (length before) in
        let full : is_full set s ≡ false =
        or_from (nat_le set.change_limit (kept_changes s)) (nat_le (2 ^ 60) (length s.slots)) (lt-leb set.change_limit (kept_changes s) (omega (arith, few_before, log.few)))
        (lt-leb (2 ^ 60) (length s.slots) (omega (arith, numbered_before, log.many)))
        in
        accepted_without (is_absent s (change_of n)) (is_full set s) (is_long set s (change_of n)) (present_unless_over s (change_of n) (drop n (take (length changes) changes)) not_over) full
        (short_if_fits set s (change_of n) (omega (arith, short_before, log.short)))

  -- so their lines go on with them
  go_on : (ns ms : List ℕ) → ms ++ ns ≡ needed changes → ContinueWith set (map change_of ms) (map line_of ns) (map change_of ns)
  go_on [] ms parts = tt
  go_on (n ∷ ns) ms parts =
      let kept = is_needed ms n ns parts in
      let within : n - 1 < length changes = omega (arith, kept.0.0, kept.0.1) in (
        log.says (n - 1) within,
        log.clean (n - 1) within,
        next_accepted ms n ns parts,
        subst (λ (cs : List Change). ContinueWith set cs (map line_of ns) (map change_of ns)) (map-append change_of ms (n ∷ [])) (go_on ns (ms ++ n ∷ []) (append_assoc ms (n ∷ []) ns ∙ parts)),
      )

nothing_held : (set : Settings) → IsMended set [] [] []
unfolding split
nothing_held set = record { held = refl; closed = refl }

pub short_log : (set : Settings) (bytes : List ℕ) (own : List (List ℕ)) (changes : List Change) (torn : Bool) → held_by set bytes ≡ Some (front_of own changes torn)
    → held_by set (flat_map ended (needed_lines changes own)) ≡ Some (front_of (needed_lines changes own) (needed_changes changes) false)
short_log set bytes own changes torn held =
    (continued set (needed_lines changes own) (needed_changes changes) [] [] [] (nothing_held set) (go_on set own changes (held_is set bytes own changes torn held) (needed changes) [] refl)).held

-- What may not come of a server's log: of taking it, of what is written to it, and of shortening it.
use Rattle.std.specs.Prelude.{◌≡◌, ℕ, Bool, true, false, if◌then◌else◌, List, [], ◌∷◌, ◌++◌, length, slice_index, flat_map, Option, None, Some, Ok, codes}
use Rattle.std.specs.Io.KnownBytes.{Appends, Consumes}
use Rattle.std.specs.List.{AllByRecursion}
use Rattle.std.proofs.Common.{arith, ap, refl, sym, ◌∙◌, subst, append-nil, length-append}
use Rattle.cq_definition_cases.proofs.Endings.{rose}
use Rattle.cq_base.specs.declared.change.Change.{Change}
use Rattle.cq_base.specs.declared.change.Change.TheVariants.{Put}
use Rattle.cq_base.specs.declared.lang.Lang.TheVariants.{Any}
use Rattle.cq_base.specs.declared.settings.Settings.{Settings}
use Rattle.cq_chain.specs.Held.{IsOfFirst}
use Rattle.cq_chain.specs.Passes.{BoardPass}
use Rattle.cq_history.specs.declared.event.Event.TheVariants as event
use Rattle.cq_io.specs.Causes.{Rose}
use Rattle.cq_io.specs.declared.sink.Sink as sink
use Rattle.cq_io.specs.declared.source.Source as source
use Rattle.cq_keeper.specs.Kept.{IsLogOf}
use Rattle.cq_keeper.specs.declared.naming.LogOf as log_of
use Rattle.cq_lines.specs.LineLogs.{Logged}
use Rattle.cq_lines.specs.Pieces.{ended, split}
use Rattle.cq_lines.specs.declared.ending.End.TheVariants as end
use Rattle.cq_listen.specs.declared.listening.Served.{Served}
use Rattle.cq_log.specs.Logs.{Front, front_of, held_by, is_accepted, after_whole, no_front}
use Rattle.cq_log.specs.Mending.{is_unclosed, mending}
use Rattle.cq_log.specs.Takers.{HasHeld, Takes}
use Rattle.cq_log.specs.declared.taking.Taken.TheVariants as taken
use Rattle.cq_program.specs.Top.{Logs}
use Rattle.cq_program.specs.declared.status.Status.TheVariants as ended_by
use Rattle.cq_request.specs.declared.request.Request.TheVariants as request
use Rattle.cq_serve_kept.specs.Continued.{ContinuesWhole, EndsKept, TookLog}
use Rattle.cq_serve_kept.specs.declared.serving.Kept.TheVariants as kept
use Rattle.cq_shared.specs.SharedPasses.{IsPassOf, OnlyFirstAccepts}
use Rattle.cq_shared.specs.declared.shared.Shared.{Shared}
use Rattle.cq_shorten.specs.Needed.{needed_lines}
use Rattle.cq_shorten.specs.Shortened.{Shortens}
use Rattle.cq_shorten.specs.declared.shortening.Shortened.TheVariants as shortened
use Rattle.cq_talk.specs.Said.{Said, Read, said}

-- ---- what was taken

-- the bytes of a source of which nothing is left are all that were taken
all_taken : (bytes got : List ℕ) → Consumes (Some bytes) (Some []) got → got ≡ bytes
all_taken bytes got consumes = sym (append-nil got) ∙ sym consumes

module _ {T : Type 0} (Has : T → Settings → List (List ℕ) → List Change → Type 0) (set : Settings) (t : T) where
  pub a_last_line_without_a_line_feed_is_not_closed : (torn : Bool) → Takes Has set (Some (97 ∷ [])) (Some []) t (taken.All false torn) → ⊥
  unfolding split
  a_last_line_without_a_line_feed_is_not_closed torn takes = let closed : false ≡ true = takes.unclosed_is ∙ ap is_unclosed (all_taken (97 ∷ []) takes.got takes.bytes) in grind (arith, closed)

  pub a_change_that_is_not_accepted_is_not_passed_over :
      (line : List ℕ) (change : Change) (torn : Bool) → said set.chunk line ≡ Read (Ok (request.Change change)) → is_accepted set [] change ≡ false → HasHeld Has set (line ∷ []) torn t → ⊥
  a_change_that_is_not_accepted_is_not_passed_over line change torn says not is =
      let here : after_whole set no_front line (said set.chunk line) ≡ Some (front_of is.own is.changes torn) = is.held in
      let by : (if is_accepted set [] change then Some (front_of (line ∷ []) (change ∷ []) false) else None) ≡ Some (front_of is.own is.changes torn) =
      subst (λ (s : Said). after_whole set no_front line s ≡ Some (front_of is.own is.changes torn)) says here in
      let none : None ≡ Some (front_of is.own is.changes torn) = subst (λ (b : Bool). (if b then Some (front_of (line ∷ []) (change ∷ []) false) else None) ≡ Some (front_of is.own is.changes torn)) not by in
      grind (arith, none)

-- ---- what was written

-- one byte that is no line feed is not some lines, each with its line feed
no_one_byte : (lines : List (List ℕ)) → flat_map ended lines ≡ 97 ∷ [] → ⊥
no_one_byte [] same = omega (arith, ap (λ (bs : List ℕ). length bs) same)
no_one_byte ([] ∷ lines) same = let feed : 10 ≡ 97 = ap (λ (bs : List ℕ). slice_index bs 0) same in omega (arith, feed)
no_one_byte ((b ∷ line) ∷ lines) same =
    omega (arith, ap (λ (bs : List ℕ). length bs) same, length-append (line ++ 10 ∷ []) (flat_map ended lines), length-append line (10 ∷ []))

pub a_log_whose_last_line_is_cut_off_is_not_whole :
    {K N : Type 0} (onto : sink.Ghosts K) (of : log_of.Ghosts N) (log : Logged K) (p : BoardPass)
    → of.begun ≡ Some [] → onto.written log.sink ≡ Some (97 ∷ []) → log.whole ≡ true → IsLogOf onto of log p → ⊥
a_log_whose_last_line_is_cut_off_is_not_whole onto of log p begun now whole is =
    let has = (is.whole whole).0 in
    let lines : 97 ∷ [] ≡ flat_map ended has.lines =
    subst (λ (o : Option (List ℕ)). Appends o (Some (97 ∷ [])) (flat_map ended has.lines)) begun (subst (λ (o : Option (List ℕ)). Appends of.begun o (flat_map ended has.lines)) now has.written) in
    no_one_byte has.lines (sym lines)

pub only_the_first_caller_accepts : {W R : Type 0} (hub : Shared W R) (p : BoardPass) (change : Change) → OnlyFirstAccepts hub → p.seen ≡ event.Accept 1 change ∷ [] → IsPassOf hub p → ⊥
only_the_first_caller_accepts hub p change only seen is =
    let each : AllByRecursion IsOfFirst (event.Accept 1 change ∷ []) = subst (AllByRecursion IsOfFirst) seen (is.of.law.accepts only) in
    let first : 1 ≡ 0 = each.0 in omega (arith, first)

-- ---- a server, over a source that had these bytes

abbrev of_front : Front → Option Front → Front
of_front front None = front
of_front front (Some other) = other

module _ {S K : Type 0} (from : source.Ghosts S) (onto : sink.Ghosts K) (set : Settings) (read read_now : S) (written written_now : K) where
  abbrev Whole : List ℕ → List Change → Type 0
  Whole mended before = ContinuesWhole onto set mended before written written_now

  -- what holds of the log that it took
  took :
      (bytes : List ℕ) (front : Front) (Holds : List ℕ → List Change → Type 0) → from.rest read ≡ Some bytes → from.rest read_now ≡ Some [] → held_by set bytes ≡ Some front
      → TookLog from onto set read read_now written written_now Holds → Holds (mending (is_unclosed bytes) front.torn) front.changes
  took bytes front Holds was is held log =
      let all : log.got ≡ bytes =
      all_taken bytes log.got (subst (λ (o : Option (List ℕ)). Consumes o (Some []) log.got) was (subst (λ (o : Option (List ℕ)). Consumes (from.rest read) o log.got) is log.bytes)) in
      let same : log.front ≡ front = ap (of_front front) (sym log.held ∙ (ap (held_by set) all ∙ held)) in
      subst (λ (f : Front). Holds (mending (is_unclosed bytes) f.torn) f.changes) same
      (subst (λ (g : List ℕ). Holds (mending (is_unclosed g) log.front.torn) log.front.changes) all log.holds)

  -- all that it wrote is its mending and the lines
  wrote :
      (out mended : List ℕ) (before : List Change) → onto.written written ≡ Some [] → onto.written written_now ≡ Some out → ContinuesWhole onto set mended before written written_now
      → (lines : List (List ℕ)) × (out ≡ mended ++ flat_map ended lines)
  wrote out mended before was is (continues, none) =
      let some : out ≡ continues.some =
      subst (λ (o : Option (List ℕ)). Appends o (Some out) continues.some) was (subst (λ (o : Option (List ℕ)). Appends (onto.written written) o continues.some) is continues.written_is) in
      (continues.lines, some ∙ (sym (append-nil continues.some) ∙ (ap (λ (bs : List ℕ). continues.some ++ bs) (sym none) ∙ continues.parts)))

  pub a_line_that_was_cut_off_is_mended :
      (served : Served) → from.rest read ≡ Some (97 ∷ []) → from.rest read_now ≡ Some [] → held_by set (97 ∷ []) ≡ Some (front_of [] [] true)
      → onto.written written ≡ Some [] → onto.written written_now ≡ Some (10 ∷ []) → EndsKept from onto set read read_now written written_now (kept.Served served) → ⊥
  unfolding split
  a_line_that_was_cut_off_is_mended served source_was source_is held was is says =
      let whole : ContinuesWhole onto set (10 ∷ 10 ∷ []) [] written written_now = took (97 ∷ []) (front_of [] [] true) Whole source_was source_is held says in
      let all = wrote (10 ∷ []) (10 ∷ 10 ∷ []) [] was is whole in omega (arith, ap (λ (bs : List ℕ). length bs) all.1)

  pub who_could_not_write_a_line_is_not_done :
      from.rest read ≡ Some [] → from.rest read_now ≡ Some [] → onto.written written ≡ Some [] → onto.written written_now ≡ Some (97 ∷ [])
      → Logs from onto set read read_now written written_now ended_by.Done → ⊥
  unfolding split
  who_could_not_write_a_line_is_not_done source_was source_is was is says =
      let whole : ContinuesWhole onto set [] [] written written_now = took [] no_front Whole source_was source_is refl says in
      let all = wrote (97 ∷ []) [] [] was is whole in no_one_byte all.0 (sym all.1)

  pub a_limit_is_not_told_as_a_failed_read : from.faults read ≡ 0 → from.faults read_now ≡ 0 → EndsKept from onto set read read_now written written_now kept.ReadFault → ⊥
  a_limit_is_not_told_as_a_failed_read was is says = rose (subst (λ (n : ℕ). Rose n 0) was (subst (λ (n : ℕ). Rose (from.faults read) n) is says.1))

-- ---- a log that is shortened: the lines `a` and `b` put the same file

abbrev put : List ℕ → Change
put text = Put (codes "p") (codes "t") Any text

abbrev lines : List (List ℕ)
lines = (97 ∷ []) ∷ (98 ∷ []) ∷ []

abbrev changes : List Change
changes = put (codes "1") ∷ put (codes "2") ∷ []

module _ {S K : Type 0} (from : source.Ghosts S) (onto : sink.Ghosts K) (set : Settings) (bytes : List ℕ) (held : held_by set bytes ≡ Some (front_of lines changes false)) (read read_now : S) (written written_now : K) where
  out_is :
      (out : List ℕ) → from.rest read ≡ Some bytes → from.rest read_now ≡ Some [] → onto.written written ≡ Some [] → onto.written written_now ≡ Some out
      → Shortens from onto set read read_now written written_now (shortened.Ended end.Finished) → out ≡ 98 ∷ 10 ∷ []
  out_is out source_was source_is was is (log, appends, faults) =
      let all : log.got ≡ bytes =
      all_taken bytes log.got (subst (λ (o : Option (List ℕ)). Consumes o (Some []) log.got) source_was (subst (λ (o : Option (List ℕ)). Consumes (from.rest read) o log.got) source_is log.bytes)) in
      let same : front_of log.own log.changes log.torn ≡ front_of lines changes false = ap (of_front no_front) (sym log.held ∙ (ap (held_by set) all ∙ held)) in
      let needs : out ≡ flat_map ended (needed_lines log.changes log.own) =
      subst (λ (o : Option (List ℕ)). Appends o (Some out) (flat_map ended (needed_lines log.changes log.own))) was
      (subst (λ (o : Option (List ℕ)). Appends (onto.written written) o (flat_map ended (needed_lines log.changes log.own))) is appends) in
      needs ∙ ap (λ (f : Front). flat_map ended (needed_lines f.changes f.own)) same

  module _ (source_was : from.rest read ≡ Some bytes) (source_is : from.rest read_now ≡ Some []) (was : onto.written written ≡ Some []) where
    pub a_line_that_is_needed_has_its_line_feed : onto.written written_now ≡ Some (98 ∷ []) → Shortens from onto set read read_now written written_now (shortened.Ended end.Finished) → ⊥
    a_line_that_is_needed_has_its_line_feed is says = let two : 1 ≡ 2 = ap (λ (bs : List ℕ). length bs) (out_is (98 ∷ []) source_was source_is was is says) in omega (arith, two)

    pub a_change_that_was_replaced_is_not_needed : onto.written written_now ≡ Some (97 ∷ 10 ∷ 98 ∷ 10 ∷ []) → Shortens from onto set read read_now written written_now (shortened.Ended end.Finished) → ⊥
    a_change_that_was_replaced_is_not_needed is says = let two : 4 ≡ 2 = ap (λ (bs : List ℕ). length bs) (out_is (97 ∷ 10 ∷ 98 ∷ 10 ∷ []) source_was source_is was is says) in omega (arith, two)

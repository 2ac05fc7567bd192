-- What a server has written when its log comes out of the lock.
use Rattle.std.proofs.Common.{◌≡◌, ℕ, Bool, true, false, List, [], ◌∷◌, ◌++◌, refl, sym, ap, ◌∙◌, subst, append-nil, append_assoc, true≢false}
use Rattle.std.proofs.KnownBytes.{Appends-nil}
use Rattle.std.specs.Prelude.{flat_map, Option}
use Rattle.std.proofs.lemmas.Grind.{flat_map-append}
use Rattle.std.specs.Io.KnownBytes.{Appends}
use Rattle.cq_base.specs.declared.change.Change.{Change}
use Rattle.cq_base.specs.declared.settings.Settings.{Settings}
use Rattle.cq_chain.specs.Passes as chain
use Rattle.cq_chain.specs.Passes.{BoardPass}
use Rattle.cq_history.specs.Lawful.{Lawful}
use Rattle.cq_history.specs.State.{accepted}
use Rattle.cq_io.specs.Causes.{Rose}
use Rattle.cq_io.specs.declared.sink.Sink as sink
use Rattle.cq_lines.specs.LineLogs.{log_at}
use Rattle.cq_talk.specs.Saying.{Says}
use Rattle.cq_keeper.specs.Firsts.{IsFirst}
use Rattle.cq_keeper.specs.Kept.{IsLogOf, SayAll}
use Rattle.cq_keeper.specs.declared.naming.LogOf as log_of
use Rattle.cq_lines.specs.Pieces.{ended}
use Rattle.cq_shared.specs.SharedPasses.{callers_of, cells_of, settings_of}
use Rattle.cq_shared.specs.declared.shared.Shared.{Shared}
use Rattle.cq_serve_kept.specs.Continued.{ContinuesBroken, ContinuesWhole, EndsLogged}
use Rattle.cq_serve_kept.proofs.Continuing.{continue_with}

say_last : (chunk : ℕ) (lines : List (List ℕ)) (changes : List Change) (line : List ℕ) (change : Change) → SayAll chunk lines changes → Says chunk line change → SayAll chunk (lines ++ line ∷ []) (changes ++ change ∷ [])
say_last chunk [] [] line change all says = (says, tt)
say_last chunk [] (d ∷ changes) line change all says = absurd all
say_last chunk (l ∷ lines) [] line change all says = absurd all
say_last chunk (l ∷ lines) (d ∷ changes) line change all says = (all.0, say_last chunk lines changes line change all.1 says)

module _ {K N W R : Type 0} (onto : sink.Ghosts K) (of : log_of.Ghosts N) (hub : Shared W R) (here : cells_of hub ≡ of.cells) (before : List Change) (first : of.before ≡ before) (written written_now : K) (begun : of.begun ≡ onto.written written) (faults : of.faults ≡ onto.faults written) (p : BoardPass) where
  abbrev set : Settings
  set = settings_of hub

  say_here : (lines : List (List ℕ)) (changes : List Change) → SayAll of.cells.about.settings.chunk lines changes → SayAll set.chunk lines changes
  say_here lines changes say = subst (λ cells. SayAll cells.about.settings.chunk lines changes) (sym here) say

  from_here : (bytes : List ℕ) → Appends of.begun (onto.written written_now) bytes → Appends (onto.written written) (onto.written written_now) bytes
  from_here bytes is = subst (λ (w : Option (List ℕ)). Appends w (onto.written written_now) bytes) begun is

  -- before the first line
  pub log_begins : IsFirst hub p → accepted p.seen ≡ of.before → IsLogOf onto of (log_at written true) p
  log_begins is all = record {
    cells = subst (λ cells. chain.IsPassOf cells p) here is.of.of;
    free = is.of.free;
    caller = is.caller;
    only = sym (ap (λ cells. cells.about.first_only) here) ∙ is.only;
    since = [];
    accepts = all ∙ sym (append-nil of.before);
    whole = λ whole. (record { lines = []; say = tt; written = subst (λ (w : Option (List ℕ)). Appends w (onto.written written) []) (sym begun) (Appends-nil (onto.written written)) }, sym faults);
    cut_off = λ broken. absurd (true≢false broken);
  }

  -- each line was written whole
  all_written : IsLogOf onto of (log_at written_now true) p → ContinuesWhole onto set [] before written written_now
  all_written is =
      let has = (is.whole refl).0 in
      let law = subst (λ cells. Lawful cells.about.settings cells.about.callers p.seen) (sym here) is.cells.law.lawful in
      let accepts = is.accepts ∙ ap (λ (cs : List Change). cs ++ is.since) first in (
        record {
          lines = has.lines;
          changes = is.since;
          continues = continue_with set (callers_of hub) p.seen law before is.since has.lines accepts (say_here has.lines is.since has.say);
          some = flat_map ended has.lines;
          more = [];
          parts = append-nil (flat_map ended has.lines);
          written_is = from_here (flat_map ended has.lines) has.written;
          callers = callers_of hub;
          history = p.seen;
          lawful = law;
          accepts = accepts;
        },
        refl,
      )

  -- the sink failed at one of them
  one_cut_off : IsLogOf onto of (log_at written_now false) p → ContinuesBroken onto set [] before written written_now
  one_cut_off is =
      let cut = is.cut_off refl in
      let law = subst (λ cells. Lawful cells.about.settings cells.about.callers p.seen) (sym here) is.cells.law.lawful in
      let lines = cut.lines ++ cut.line ∷ [] in
      let say = subst (λ (cs : List Change). SayAll set.chunk lines cs) cut.parts (say_here lines (cut.first ++ cut.last ∷ []) (say_last of.cells.about.settings.chunk cut.lines cut.first cut.line cut.last cut.say cut.says)) in
      let accepts = is.accepts ∙ ap (λ (cs : List Change). cs ++ is.since) first in
      let whole : flat_map ended lines ≡ flat_map ended cut.lines ++ ended cut.line = flat_map-append ended cut.lines (cut.line ∷ []) ∙ ap (λ (bytes : List ℕ). flat_map ended cut.lines ++ bytes) (append-nil (ended cut.line)) in (
        record {
          lines = lines;
          changes = is.since;
          continues = continue_with set (callers_of hub) p.seen law before is.since lines accepts say;
          some = flat_map ended cut.lines ++ cut.front;
          more = cut.more;
          parts = append_assoc (flat_map ended cut.lines) cut.front cut.more ∙ (ap (λ (bytes : List ℕ). flat_map ended cut.lines ++ bytes) cut.line_is ∙ sym whole);
          written_is = from_here (flat_map ended cut.lines ++ cut.front) cut.written;
          callers = callers_of hub;
          history = p.seen;
          lawful = law;
          accepts = accepts;
        },
        subst (λ (n : ℕ). Rose n (onto.faults written_now)) faults cut.rose,
      )

  -- by whether each was
  pub ends_logged : (whole : Bool) → IsLogOf onto of (log_at written_now whole) p → EndsLogged onto set [] before written written_now whole
  ends_logged true is = all_written is
  ends_logged false is = one_cut_off is

-- What the log has, a change or a refusal later.
use Rattle.std.proofs.Common.{◌≡◌, ℕ, true, List, [], ◌∷◌, ◌++◌, refl, sym, ap, ◌∙◌, subst, append-nil, append_assoc, true≢false, Result, Ok, Err}
use Rattle.std.specs.Prelude.{flat_map, OnErr, OnOk}
use Rattle.std.proofs.KnownBytes.{Appends-trans}
use Rattle.std.proofs.lemmas.Grind.{flat_map-append}
use Rattle.std.specs.Io.KnownBytes.{Appends}
use Rattle.cq_base.specs.declared.change.Change.{Change}
use Rattle.cq_chain.specs.Passes as chain
use Rattle.cq_chain.specs.Passes.{BoardPass}
use Rattle.cq_history.specs.State.{accepted}
use Rattle.cq_io.specs.Causes.{Rose}
use Rattle.cq_io.specs.declared.sink.Sink as sink
use Rattle.cq_lines.specs.LineLogs.{BreaksOff, KeepsLine, Logged}
use Rattle.cq_talk.specs.Saying.{Says}
use Rattle.cq_keeper.specs.Firsts.{IsFirst, IsFirstAfter, IsFirstStill}
use Rattle.cq_keeper.specs.Kept.{SayAll, IsLogOf}
use Rattle.cq_keeper.specs.declared.naming.LogOf as log_of
use Rattle.cq_lines.specs.Pieces.{ended}
use Rattle.cq_shared.specs.SharedPasses.{IsPassOf, cells_of}
use Rattle.cq_shared.specs.declared.shared.Shared.{Shared}

say_more : (chunk : ℕ) (lines : List (List ℕ)) (changes : List Change) (line : List ℕ) (change : Change) → SayAll chunk lines changes → Says chunk line change → SayAll chunk (lines ++ line ∷ []) (changes ++ change ∷ [])
say_more chunk [] [] line change all says = (says, tt)
say_more chunk [] (d ∷ changes) line change all says = absurd all
say_more chunk (l ∷ lines) [] line change all says = absurd all
say_more chunk (l ∷ lines) (d ∷ changes) line change all says = (all.0, say_more chunk lines changes line change all.1 says)

module _ {K N W R : Type 0} (onto : sink.Ghosts K) (of : log_of.Ghosts N) (hub : Shared W R) (here : cells_of hub ≡ of.cells) (log : Logged K) (p q : BoardPass) (is : IsLogOf onto of log p) where
  -- the pass is the first caller's, of a hub of which it is a pass
  pub first_of : (other : BoardPass) → IsPassOf hub other → IsFirst hub p
  first_of other mine = record {
    of = record { of = subst (λ cells. chain.IsPassOf cells p) (sym here) is.cells; free = is.free; shards = mine.shards; some_shard = mine.some_shard };
    caller = is.caller;
    only = ap (λ cells. cells.about.first_only) here ∙ is.only;
  }

  since_more : (change : Change) → accepted q.seen ≡ accepted p.seen ++ change ∷ [] → accepted q.seen ≡ of.before ++ (is.since ++ change ∷ [])
  since_more change more = more ∙ (ap (λ (cs : List Change). cs ++ change ∷ []) is.accepts ∙ append_assoc of.before is.since (change ∷ []))

  -- the change was refused
  pub refused_still : IsFirstStill hub p q → IsLogOf onto of log q
  refused_still still = record {
    cells = subst (λ cells. chain.IsPassOf cells q) here still.is.of.of;
    free = still.is.of.free;
    caller = still.is.caller;
    only = is.only;
    since = is.since;
    accepts = still.accepts ∙ is.accepts;
    whole = is.whole;
    cut_off = is.cut_off;
  }

  module _ (change : Change) (line : List ℕ) (says : Says of.cells.about.settings.chunk line change) (after : IsFirstAfter hub p q change) (log' : Logged K) where
    -- its line was written whole
    kept_more : KeepsLine onto log log' line → IsLogOf onto of log' q
    kept_more kept =
        let was = is.whole kept.was_whole in
        record {
          cells = subst (λ cells. chain.IsPassOf cells q) here after.is.of.of;
          free = after.is.of.free;
          caller = after.is.caller;
          only = is.only;
          since = is.since ++ change ∷ [];
          accepts = since_more change after.accepts;
          whole = λ whole. (
            (record {
              lines = was.0.lines ++ line ∷ [];
              say = say_more of.cells.about.settings.chunk was.0.lines is.since line change was.0.say says;
              written = subst (Appends of.begun (onto.written log'.sink)) (sym (flat_map-append ended was.0.lines (line ∷ [])))
                  (Appends-trans of.begun (onto.written log.sink) (onto.written log'.sink) (flat_map ended was.0.lines) (flat_map ended (line ∷ [])) was.0.written (subst (Appends (onto.written log.sink) (onto.written log'.sink)) (sym (append-nil (ended line))) kept.written));
            }),
            kept.faults ∙ was.1,
          );
          cut_off = λ broken. absurd (true≢false (sym kept.whole ∙ broken));
        }

    -- a front of it was
    broken_off : log.whole ≡ true → BreaksOff onto log log' line → IsLogOf onto of log' q
    broken_off whole breaks =
        let was = is.whole whole in
        let front = breaks.first whole in
        record {
          cells = subst (λ cells. chain.IsPassOf cells q) here after.is.of.of;
          free = after.is.of.free;
          caller = after.is.caller;
          only = is.only;
          since = is.since ++ change ∷ [];
          accepts = since_more change after.accepts;
          whole = λ whole'. absurd (true≢false (sym whole' ∙ breaks.broken));
          cut_off = λ broken. record {
            first = is.since;
            last = change;
            parts = refl;
            lines = was.0.lines;
            say = was.0.say;
            line = line;
            says = says;
            front = front.front;
            more = front.more;
            line_is = front.parts;
            written = Appends-trans of.begun (onto.written log.sink) (onto.written log'.sink) (flat_map ended was.0.lines) front.front was.0.written front.written;
            rose = subst (λ n. Rose n (onto.faults log'.sink)) was.1 front.rose;
          };
        }

    -- by whether it could be kept
    pub kept_or_broken : {E : Type 0} (result : Result (Unit {0}) E) → log.whole ≡ true → OnOk result (KeepsLine onto log log' line) → OnErr result (BreaksOff onto log log' line) → IsLogOf onto of log' q
    kept_or_broken (Ok u) whole kept broken = kept_more kept
    kept_or_broken (Err e) whole kept broken = broken_off whole broken

-- A session beside which no other caller accepts a change.
use Rattle.std.proofs.Common.{◌≡◌, ◌⊎◌, ℕ, ◌+◌, ◌<◌, ◌≤◌, List, map, sym, subst, subst₂, arith, inl, inr, ⊎_elim}
use Rattle.std.specs.List.{AllByRecursion}
use Rattle.std.proofs.lemmas.Bool.{cases_lt, cases_eq}
use Rattle.cq_base.specs.declared.settings.Settings.{Settings}
use Rattle.cq_cells.specs.Passes.{by_of}
use Rattle.cq_chain.specs.Passes.{BoardPass}
use Rattle.cq_history.specs.declared.event.Event.{Event}
use Rattle.cq_history.specs.Lawful.{Lawful}
use Rattle.cq_history.proofs.States.{Lawful-prefix}
use Rattle.cq_io.specs.declared.sink.Sink as sink
use Rattle.cq_io.specs.declared.source.Source as source
use Rattle.cq_lines.specs.Serving.{ServesLines}
use Rattle.cq_lines.specs.declared.ending.End.{End}
use Rattle.cq_reply.specs.Written.{line_of}
use Rattle.cq_reply.specs.declared.reply.Reply.{Reply}
use Rattle.cq_session.specs.Costs.{counted}
use Rattle.cq_session.specs.Turn.{CountedTalk}
use Rattle.cq_shared.specs.declared.shared.Shared.{Shared}
use Rattle.cq_shared.specs.SharedPasses.{IsPassOf, settings_of, callers_of}
use Rattle.cq_talk.specs.Gathered.{IsQuiet, StaysQuiet}
use Rattle.cq_talk.specs.Laws.{ActsBy}
use Rattle.cq_talk.specs.Said.{said}
use Rattle.cq_talk.specs.Talk.{Talk}
use Rattle.cq_talk.proofs.BesideRows.{all_before}
use Rattle.cq_talk.proofs.BesideTalk.{beside_from_nothing}
use Rattle.cq_talk.proofs.Gathering.{only_by}
use Rattle.cq_beside.specs.Besides.{Besides}
use Rattle.cq_beside.specs.Replies.{AreBeside, AreWithWorkers}
use Rattle.cq_beside.specs.Served.{IsFirst, IsTold}
use Rattle.cq_beside.proofs.Gathering.{some_next}
use Rattle.cq_lines.proofs.Serving.{serves_as}

-- the history of the talk is a beginning of what the pass has seen by then, so it is lawful
pub heard_lawful : {W R : Type 0} (hub : Shared W R) (p q : BoardPass) (workers : ℕ) (Said : ℕ → List Event → List Event → ℕ → Type 0) (b : Besides hub p workers q Said) (set : Settings) → settings_of hub ≡ set → Lawful set (callers_of hub) b.heard
heard_lawful hub p q workers Said b set same =
    subst (λ s. Lawful s (callers_of hub) b.heard) same (Lawful-prefix (settings_of hub) (callers_of hub) b.heard b.front.0 (subst (Lawful (settings_of hub) (callers_of hub)) (sym b.front.1) b.of.of.law.lawful))

module _ {W R : Type 0} (hub : Shared W R) (p q : BoardPass) (workers : ℕ) (Said : ℕ → List Event → List Event → ℕ → Type 0) (is : IsPassOf hub p) (room : workers < p.room) (made : IsFirst hub p) (b : Besides hub p workers q Said) where
  one : p.next ≡ 1
  one =
      let some = some_next hub p is (omega (arith, room)) in
      let all = is.of.room some in
      let none_made = made.room in
      omega (arith, all, none_made)

  none_before : (w : ℕ) → StaysQuiet p.seen w
  none_before w = subst (λ h. StaysQuiet h w) (sym made.none) tt

  others : (w : ℕ) → (w ≡ p.next + workers) ⊎ StaysQuiet q.seen w
  others w = ⊎_elim
      (λ (zero_is : w < 1).
      let first = made.first in
      let same : by_of p ≡ w = omega (arith, zero_is, first) in
      inr (subst (StaysQuiet q.seen) same (b.first_quiet (none_before (by_of p)))))
      (λ (some : 1 ≤ w). ⊎_elim
      (λ (low : w < p.next + workers). inr (b.quiet w (omega (arith, some, one)) low (none_before w)))
      (λ (high : p.next + workers ≤ w). ⊎_elim
      (λ (same : w ≡ p.next + workers). inl same)
      (λ other. inr (subst (AllByRecursion IsQuiet) (sym (b.unmade w (omega (arith, high, other)))) tt))
      (cases_eq w (p.next + workers)))
      (cases_lt w (p.next + workers)))
      (cases_lt w 1)

  are_beside : (set : Settings) → settings_of hub ≡ set → (lines : List (List ℕ)) (replies : List Reply) → Talk set (callers_of hub) ⊥ (p.next + workers) 0 p.seen (map (said set.chunk) lines) replies b.heard → AreBeside set lines replies
  are_beside set same lines replies talk =
      beside_from_nothing set (callers_of hub) ⊥ (p.next + workers) b.heard (map (said set.chunk) lines) replies (subst (λ h. Talk set (callers_of hub) ⊥ (p.next + workers) 0 h (map (said set.chunk) lines) replies b.heard) made.none talk) (heard_lawful hub p q workers Said b set same)
      (all_before (ActsBy (p.next + workers)) b.heard b.front.0 (subst (AllByRecursion (ActsBy (p.next + workers))) (sym b.front.1) (only_by (p.next + workers) q.seen others)))

  are_with_workers : (set : Settings) → settings_of hub ≡ set → (reads reads_now : ℕ) (lines : List (List ℕ)) (replies : List Reply) → CountedTalk set (callers_of hub) ⊥ (p.next + workers) p.seen (counted reads reads_now 0 b.asked) b.heard lines replies → AreWithWorkers set (callers_of hub) workers reads reads_now lines replies
  are_with_workers set same reads reads_now lines replies talk =
      let number : p.next + workers ≡ workers + 1 = omega (arith, one) in
      record {
        heard = b.heard;
        asked = b.asked;
        lawful = heard_lawful hub p q workers Said b set same;
        talk = subst₂ (λ (c : ℕ) (h : List Event). CountedTalk set (callers_of hub) ⊥ c h (counted reads reads_now 0 b.asked) b.heard lines replies) number made.none talk;
        beside = are_beside set same lines replies talk.talk;
      }

  -- so are the replies to the lines of a source that were served
  pub serves_with_workers : {S K : Type 0} (from : source.Ghosts S) (onto : sink.Ghosts K) (set : Settings) → settings_of hub ≡ set → (reads reads_now limit : ℕ) (read read_now : S) (written written_now : K) (by : End)
      → IsTold from onto set (callers_of hub) (p.next + workers) p.seen reads reads_now b.heard b.asked limit read read_now written written_now by → ServesLines from onto line_of (AreWithWorkers set (callers_of hub) workers reads reads_now) limit read read_now written written_now by
  serves_with_workers from onto set same reads reads_now limit read read_now written written_now by told =
      serves_as line_of (CountedTalk set (callers_of hub) ⊥ (p.next + workers) p.seen (counted reads reads_now 0 b.asked) b.heard) (AreWithWorkers set (callers_of hub) workers reads reads_now) (are_with_workers set same reads reads_now)
      limit (from.rest read) (from.rest read_now) (onto.written written) (onto.written written_now) by told

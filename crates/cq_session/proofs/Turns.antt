-- One more line of a talk.
use Rattle.std.proofs.Common.{◌≡◌, ℕ, ◌≤◌, List, [], ◌∷◌, ◌++◌, length, flat_map, map, max, Bool, true, false, Option, Some, Result, Ok, refl, sym, ap, ◌∙◌, subst, subst₂, true≢false}
use Rattle.std.proofs.KnownBytes.{Appends-nil}
use Rattle.std.proofs.lemmas.List.{append-nil, map-append}
use Rattle.std.specs.Io.KnownBytes.{Appends}
use Rattle.std.specs.Prelude.{IfSome}
use Rattle.cq_base.specs.declared.settings.Settings.{Settings}
use Rattle.cq_history.specs.declared.event.Event.{Event}
use Rattle.cq_history.specs.State.{accepted}
use Rattle.cq_history.specs.Lawful.{Lawful}
use Rattle.cq_io.specs.declared.source.Failed.{Failed}
use Rattle.cq_io.specs.declared.sink.Sink as sink
use Rattle.cq_io.specs.declared.source.Source as source
use Rattle.cq_lines.specs.Serving.{ServesLinesUntil}
use Rattle.cq_lines.specs.declared.ending.End.{End}
use Rattle.cq_lines.proofs.Serving.{until_as, until_by}
use Rattle.cq_reply.specs.Written.{line_of}
use Rattle.cq_reply.specs.declared.reply.Reply.{Reply}
use Rattle.cq_talk.specs.Replies.{named}
use Rattle.cq_talk.specs.Said.{Said, said}
use Rattle.cq_talk.specs.Steps.{IsClosed, Leads}
use Rattle.cq_talk.specs.Talk.{AnswersBy, Waits}
use Rattle.cq_session.specs.Clients.{HasMet, IsObject, is_known, stop_after}
use Rattle.cq_session.specs.Costs.{AreAllViewings, AreViewings, Counts, counted, Spends}
use Rattle.cq_hub.specs.declared.hub.Hub.{Ghosts}
use Rattle.cq_session.specs.Overs.{MayStop, StoppedTalk, Turned}
use Rattle.cq_session.specs.Serving.{HasStopped, HasTalked, SeenTalk}
use Rattle.cq_session.specs.Turn.{IsTalkBy, StrictTalkBy, Turns}
use Rattle.cq_session.specs.declared.met.Met.{Met}
use Rattle.cq_session.specs.declared.stop.Stop.{Stop}
use Rattle.cq_session.specs.declared.stop.Stop.TheVariants as stop
use Rattle.cq_talk.proofs.Talking.{named_few, seen_more}
use Rattle.cq_session.proofs.Clients.{met_client}
use Rattle.cq_session.proofs.Spending.{spends_none, spends_then, viewings_more}
use Rattle.cq_session.proofs.Talking.{talk_more}

module _ (set : Settings) (callers : ℕ) (alone : Type 0) (c by : ℕ) (h : List Event) where
  -- before the first line
  pub talked_none : (reads asked : ℕ) → SeenTalk set callers alone c by h (counted reads reads asked asked) h 0 [] []
  talked_none reads asked = record {
    talk = record { talk = refl; spends = spends_none set c (AreAllViewings [] []) h reads asked refl };
    seen_is = refl;
  }

  -- from one history to another, a line has its reply
  module _ (now after : List Event) (reads reads_then reads_now asked asked_then asked_now seen seen_now : ℕ) (lines : List (List ℕ)) (replies : List Reply) (line : List ℕ) (r : Reply) (answers : AnswersBy set callers alone c by seen now (said set.chunk line) r after) (is : seen_now ≡ max seen (named r)) where
    pub talked_more : SeenTalk set callers alone c by h (counted reads reads_then asked asked_then) now seen lines replies → Spends (AreViewings (said set.chunk line) r) set c now (counted reads_then reads_now asked_then asked_now) after
        → SeenTalk set callers alone c by h (counted reads reads_now asked asked_now) after seen_now (lines ++ line ∷ []) (replies ++ r ∷ [])
    talked_more was spends = record {
      talk = record {
        talk = talk_more set callers alone c by seen h now after lines replies line r was.seen_is was.talk.talk answers;
        spends = spends_then set c (AreAllViewings (map (said set.chunk) lines) replies) (AreViewings (said set.chunk line) r) (AreAllViewings (map (said set.chunk) (lines ++ line ∷ [])) (replies ++ r ∷ [])) h now after reads reads_then reads_now asked asked_then asked_now was.talk.spends spends
            (λ vs us are others. subst (λ (ls : List Said). AreAllViewings ls (replies ++ r ∷ []) (vs ++ us)) (sym (map-append (said set.chunk) lines (line ∷ []))) (viewings_more (map (said set.chunk) lines) replies vs (said set.chunk line) r us are others));
      };
      seen_is = is ∙ (ap (λ n. max n (named r)) was.seen_is ∙ sym (seen_more 0 replies r));
    }

    pub still_within : Lawful set callers after → seen ≤ length (accepted now) → seen_now ≤ length (accepted after)
    still_within law within = subst (λ (n : ℕ). n ≤ length (accepted after)) (sym is) (named_few set callers alone c by seen now after (said set.chunk line) r law within answers)

  -- no line has no reply
  none_told : (now : List Event) (lines : List (List ℕ)) (replies : List Reply) → lines ≡ [] → IsTalkBy set callers alone c by h now lines replies → replies ≡ []
  none_told now [] [] none talk = refl
  none_told now [] (r ∷ replies) none talk = absurd talk
  none_told now (line ∷ lines) replies none talk = absurd (cc)

  -- the session stopped at a line: the replies that came of it were sent
  pub record StopsHere (after : List Event) (lines : List (List ℕ)) (replies : List Reply) (before written_now : Option (List ℕ)) (why : Stop) : Type 0 where
    pub more : List Reply
    pub stopped : StoppedTalk set callers alone c by h after lines (replies ++ more) why
    pub sent : Appends before written_now (flat_map line_of more)

  module _ (now after : List Event) (n : Counts) (seen : ℕ) (lines : List (List ℕ)) (replies : List Reply) (line : List ℕ) (before written_now : Option (List ℕ)) (was : SeenTalk set callers alone c by h n now seen lines replies) where
    -- since a line could not be kept
    pub breaks_off : Waits alone c now after → written_now ≡ before → StopsHere after (lines ++ line ∷ []) replies before written_now stop.Unkept
    breaks_off waits nothing = record {
      more = [];
      stopped = record {
        first = lines;
        last = line;
        lines_are = refl;
        then = now;
        talk = subst (λ (rs : List Reply). IsTalkBy set callers alone c by h now lines rs) (sym (append-nil replies)) was.talk.talk;
        waits = waits;
      };
      sent = subst (λ (w : Option (List ℕ)). Appends before w []) (sym nothing) (Appends-nil before);
    }

    -- since it is the first one, and is not known to be a JSON object
    pub turned_away : (r : Reply) → lines ≡ [] → is_known r ≡ false → AnswersBy set callers alone c by seen now (said set.chunk line) r after → Appends before written_now (line_of r) → StopsHere after (lines ++ line ∷ []) replies before written_now stop.Stranger
    turned_away r none unknown answers sent = record {
      more = r ∷ [];
      stopped = record {
        line = line;
        lines_are = ap (λ (ls : List (List ℕ)). ls ++ line ∷ []) none;
        reply = r;
        replies_are = ap (λ (rs : List Reply). rs ++ r ∷ []) (none_told now lines replies none was.talk.talk);
        unknown = unknown;
        talk = talk_more set callers alone c by seen h now after lines replies line r was.seen_is was.talk.talk answers;
      };
      sent = subst (λ (bytes : List ℕ). Appends before written_now bytes) (sym (append-nil (line_of r))) sent;
    }

-- ---- a turn, by whether the session stops there

-- it stops only if it may
pub may_stop : (Breaks : Type 0) (strict first known : Bool) → IfSome (stop_after strict first known) (MayStop Breaks strict)
may_stop Breaks true true false = refl
may_stop Breaks true true true = tt
may_stop Breaks true false known = tt
may_stop Breaks false first known = tt

module _ {H W P : Type 0} (of : Ghosts H W P) (hub : H) (old new : P) (reads reads_now seen : ℕ) (acceptor : ℕ → ℕ) (set : Settings) (line : List ℕ) (before written_now : Option (List ℕ)) (seen_now c : ℕ) (h after : List Event) where
  abbrev Sent : Type 0
  Sent = Turns set (of.callers hub) of.alone c (acceptor c) seen h (counted reads reads_now (of.asked old) (of.asked new)) line (Appends before written_now) seen_now after

  abbrev Ends : Bool → Bool → Option Stop → Type 0
  Ends strict first o = Turned of hub old new reads reads_now {E = Failed} seen strict acceptor set first line before written_now (Ok o) seen_now c h after

  turned_as : (strict first known : Bool) (turns : Sent) → known ≡ is_known turns.reply → (is_known turns.reply ≡ true → IsObject (said set.chunk line)) → Ends strict first (stop_after strict first known)
  turned_as false first known turns is object = (turns, λ strictly. absurd (true≢false (sym strictly)))
  turned_as true false known turns is object = (turns, λ strictly here. absurd (true≢false (sym here)))
  turned_as true true true turns is object = (turns, λ strictly here. object (sym is))
  turned_as true true false turns is object = (turns, refl, sym is)

  pub turned_by : (strict first known : Bool) (o : Option Stop) → o ≡ stop_after strict first known → (turns : Sent) → known ≡ is_known turns.reply → (is_known turns.reply ≡ true → IsObject (said set.chunk line)) → Ends strict first o
  turned_by strict first known o same turns is object = subst (λ (o : Option Stop). Ends strict first o) (sym same) (turned_as strict first known turns is object)

  -- if it stopped, after a talk
  pub stopped_by : (Breaks : Type 0) (strict first : Bool) (why : Stop) (begun : List Event) (n : Counts) (lines : List (List ℕ)) (replies : List Reply) → SeenTalk set (of.callers hub) of.alone c (acceptor c) begun n h seen lines replies
      → MayStop Breaks strict why → (strict ≡ true → first ≡ true → lines ≡ []) → Ends strict first (Some why) → StopsHere set (of.callers hub) of.alone c (acceptor c) begun after (lines ++ line ∷ []) replies before written_now why
  stopped_by Breaks strict first stop.Unkept begun n lines replies was may none ends = breaks_off set (of.callers hub) of.alone c (acceptor c) begun h after n seen lines replies line before written_now was ends.0 ends.1
  stopped_by Breaks strict first stop.Stranger begun n lines replies was may none ends = turned_away set (of.callers hub) of.alone c (acceptor c) begun h after n seen lines replies line before written_now was ends.0.reply (none may ends.1) ends.2 ends.0.answers ends.0.sends

-- ---- what is so whichever the lines were is taken out of what was served

module _ {S K : Type 0} (from : source.Ghosts S) (onto : sink.Ghosts K) {A B C D E : Type 0} (Talked : List (List ℕ) → List Reply → Type 0) (Meets : List (List ℕ) → Type 0) (Stopped : List (List ℕ) → List Reply → Stop → Type 0) (May : Stop → Type 0) where
  pub until_with : (limit : ℕ) (read read_now : S) (written written_now : K) (result : Result End Stop)
      → ServesLinesUntil from onto line_of (λ lines replies. Talked lines replies × Meets lines × A × B × C × D × E) (λ lines replies why. Stopped lines replies why × A × B × C × D × E × May why) limit read read_now written written_now result
      → A × B × C × D × E × ServesLinesUntil from onto line_of (λ lines replies. Talked lines replies × Meets lines) (λ lines replies why. Stopped lines replies why × May why) limit read read_now written written_now result
  until_with limit read read_now written written_now result is =
      let (so, both, served) = until_by from onto line_of (λ (so : A × B × C × D × E). Unit {0}) (λ (so : A × B × C × D × E) lines replies. Talked lines replies × Meets lines) (λ (so : A × B × C × D × E) lines replies why. Stopped lines replies why × May why) limit read read_now written written_now result
      (until_as from onto line_of _ _ _ _ (λ lines replies is. ((is.2, is.3, is.4, is.5, is.6), tt, (is.0, is.1))) (λ lines replies why is. ((is.1, is.2, is.3, is.4, is.5), tt, (is.0, is.6))) limit read read_now written written_now result is) in
      (so.0, so.1, so.2, so.3, so.4, served)

-- ---- a whole session

module _ {H W P Q S K D E : Type 0} (of : Ghosts H W P) (from : source.Ghosts S) (onto : sink.Ghosts K) (acceptor_of : Q → ℕ → ℕ) (strict_of : Q → Bool) (Breaks_of : Q → Type 0) (set set_now : Settings) (hub hub_now : H) (keeper keeper_now : Q) (p p_now p_new : P) (reads reads_now reads_new : ℕ) (met : Met) (seen : ℕ) (to_pass : D → p_new ≡ p_now) (to_reads : E → reads_new ≡ reads_now) (by : ℕ) (h : List Event) where
  -- how the talk stands to what it was begun with
  abbrev Talked : Settings → H → Q → List (List ℕ) → List Reply → Type 0
  Talked s b k lines replies = HasTalked of s b (acceptor_of k) (by, h) (counted reads reads_now (of.asked p) (of.asked p_now)) p_now seen lines replies

  abbrev Meets : Settings → Q → List (List ℕ) → Type 0
  Meets s k lines = strict_of k ≡ true → HasMet s.chunk met lines

  abbrev Stopped : Settings → H → Q → List (List ℕ) → List Reply → Stop → Type 0
  Stopped s b k lines replies why = HasStopped of s b (acceptor_of k) (by, h) p_now lines replies why

  abbrev Stands : List Event → Type 0
  Stands after = of.Stands hub p_now by after × IsClosed (of.callers hub) by after

  abbrev Strictly : ℕ → P → List Event → List (List ℕ) → List Reply → Type 0
  Strictly r q after lines replies = StrictTalkBy (strict_of keeper) set (of.callers hub) of.alone by (acceptor_of keeper by) h (counted reads r (of.asked p) (of.asked q)) after lines replies

  abbrev StopsSo : List Event → List (List ℕ) → List Reply → Stop → Type 0
  StopsSo after lines replies why = StoppedTalk set (of.callers hub) of.alone by (acceptor_of keeper by) h after lines replies why

  talked_here : (lines : List (List ℕ)) (replies : List Reply) → Talked set hub keeper lines replies → Meets set keeper lines → (after : List Event) × Stands after × Strictly reads_now p_now after lines replies
  talked_here lines replies is meets = (is.after, (is.stands, is.closed), record { talk = is.talk.talk; of_client = λ strictly. met_client set.chunk met lines (meets strictly) })

  stopped_here : (lines : List (List ℕ)) (replies : List Reply) (why : Stop) → Stopped set hub keeper lines replies why → (after : List Event) × Stands after × StopsSo after lines replies why
  stopped_here lines replies why is = (is.after, (is.stands, is.closed), is.stopped)

  module _ (set_is : set_now ≡ set) (hub_is : hub_now ≡ hub) (keeper_is : keeper_now ≡ keeper) where
    talked_there : (lines : List (List ℕ)) (replies : List Reply) → Talked set_now hub_now keeper_now lines replies × Meets set_now keeper_now lines → (after : List Event) × Stands after × Strictly reads_now p_now after lines replies
    talked_there lines replies is =
        let talk : Talked set hub keeper lines replies =
        subst (λ (k : Q). Talked set hub k lines replies) keeper_is (subst₂ (λ (s : Settings) (b : H). Talked s b keeper_now lines replies) set_is hub_is is.0)
        in
        let meets : Meets set keeper lines = subst₂ (λ (s : Settings) (k : Q). Meets s k lines) set_is keeper_is is.1 in
        talked_here lines replies talk meets

    stopped_there : (lines : List (List ℕ)) (replies : List Reply) (why : Stop) → Stopped set_now hub_now keeper_now lines replies why × MayStop (Breaks_of keeper_now) (strict_of keeper_now) why → (after : List Event) × Stands after × StopsSo after lines replies why
    stopped_there lines replies why is =
        stopped_here lines replies why (subst (λ (k : Q). Stopped set hub k lines replies why) keeper_is (subst₂ (λ (s : Settings) (b : H). Stopped s b keeper_now lines replies why) set_is hub_is is.0))

  module _ (limit : ℕ) (read read_now : S) (written written_now : K) (result : Result End Stop) where
    abbrev Served : ℕ → P → List Event → Type 0
    Served r q after = ServesLinesUntil from onto line_of (Strictly r q after) (StopsSo after) limit read read_now written written_now result

    -- the pass and the counter are those that were lent
    lent_back : p_new ≡ p_now → reads_new ≡ reads_now → (after : List Event) → Served reads_now p_now after → Served reads_new p_new after
    lent_back pass_is reads_is after served = subst₂ (λ (r : ℕ) (q : P). Served r q after) (sym reads_is) (sym pass_is) served

    led : p_new ≡ p_now → reads_new ≡ reads_now → (after : List Event) × Stands after × Served reads_now p_now after → Leads of.Stands (of.callers hub) by hub p_new (Served reads_new p_new)
    led pass_is reads_is is = record {
      after = is.0;
      stands = subst (λ (q : P). of.Stands hub q by is.0) (sym pass_is) is.1.0;
      closed = is.1.1;
      holds = lent_back pass_is reads_is is.0 is.2;
    }

    there : (set_now ≡ set) → (hub_now ≡ hub) → (keeper_now ≡ keeper)
        → ServesLinesUntil from onto line_of (λ lines replies. Talked set_now hub_now keeper_now lines replies × Meets set_now keeper_now lines) (λ lines replies why. Stopped set_now hub_now keeper_now lines replies why × MayStop (Breaks_of keeper_now) (strict_of keeper_now) why) limit read read_now written written_now result
        → (after : List Event) × Stands after × Served reads_now p_now after
    there set_is hub_is keeper_is is =
        until_by from onto line_of Stands (Strictly reads_now p_now) StopsSo limit read read_now written written_now result
        (until_as from onto line_of _ _ _ _ (talked_there set_is hub_is keeper_is) (stopped_there set_is hub_is keeper_is) limit read read_now written written_now result is)

    pub served_until : ServesLinesUntil from onto line_of (λ lines replies. Talked set_now hub_now keeper_now lines replies × Meets set_now keeper_now lines × (set_now ≡ set) × (hub_now ≡ hub) × (keeper_now ≡ keeper) × D × E)
        (λ lines replies why. Stopped set_now hub_now keeper_now lines replies why × (set_now ≡ set) × (hub_now ≡ hub) × (keeper_now ≡ keeper) × D × E × MayStop (Breaks_of keeper_now) (strict_of keeper_now) why) limit read read_now written written_now result
        → Leads of.Stands (of.callers hub) by hub p_new (Served reads_new p_new)
    served_until is =
        let over = until_with from onto (Talked set_now hub_now keeper_now) (Meets set_now keeper_now) (Stopped set_now hub_now keeper_now) (MayStop (Breaks_of keeper_now) (strict_of keeper_now)) limit read read_now written written_now result is in
        led (to_pass over.3) (to_reads over.4) (there over.0 over.1 over.2 over.5)

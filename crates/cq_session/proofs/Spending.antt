-- What the views of a talk cost: put together, line by line.
use Rattle.std.proofs.Common.{◌≡◌, ℕ, ◌+◌, ◌≤◌, Bool, true, false, cond, List, [], ◌∷◌, ◌++◌, length, refl, sym, ap, ap₂, ◌∙◌, append_assoc, append-nil, length-append, subst, subst₂, arith}
use Rattle.std.specs.Prelude.{filter, filter_map, Result, Ok, Err, OnOk}
use Rattle.std.specs.Result.{is_ok}
use Rattle.std.specs.List.{AllByRecursion, sum_by}
use Rattle.std.proofs.lemmas.List.{map-append}
use Rattle.std.proofs.lemmas.List.Elements.{filter-append, filter_map-append}
use Rattle.std.proofs.lemmas.List.Sums.{sum_by-append}
use Rattle.cq_answer.specs.Questions.{AreAsked, IsMostRead}
use Rattle.cq_base.specs.declared.change.Change.{Change}
use Rattle.cq_base.specs.declared.settings.Settings.{Settings}
use Rattle.cq_groups.specs.Listing.{Rises, RisesAtMost}
use Rattle.cq_history.specs.declared.event.Event.{Event}
use Rattle.cq_history.specs.State.{accepted, own}
use Rattle.cq_history.proofs.Prefixes.{accepted-append, files_at-append, own-append}
use Rattle.cq_hub.proofs.Growing.{all-append}
use Rattle.cq_reply.specs.declared.reply.Reply.{Reply}
use Rattle.cq_request.specs.declared.request.Query.{Query}
use Rattle.cq_talk.specs.Said.{Said}
use Rattle.cq_talk.proofs.BesideRows.{all_before, all_behind}
use Rattle.cq_session.specs.Costs.{Viewing, AreViewings, AreAllViewings, opened_by, Counts, counted, Costs, Spends, RisesAtLeast}

-- ---- lists

all_kept : {A : Type 0} (P : A → Type 0) (x : A) (xs : List A) (b : Bool) → P x → AllByRecursion P xs → AllByRecursion P (cond b (x ∷ xs) xs)
all_kept P x xs true one all = (one, all)
all_kept P x xs false one all = all

all_filter : {A : Type 0} (P : A → Type 0) (p : A → Bool) (xs : List A) → AllByRecursion P xs → AllByRecursion P (filter p xs)
all_filter P p [] all = tt
all_filter P p (x ∷ xs) all = all_kept P x (filter p xs) (p x) all.0 (all_filter P p xs all.1)

-- what follows where another thing holds too
all_both : {A : Type 0} (P Q R : A → Type 0) → ((x : A) → P x → Q x → R x) → (xs : List A) → AllByRecursion P xs → AllByRecursion Q xs → AllByRecursion R xs
all_both P Q R to [] ps qs = tt
all_both P Q R to (x ∷ xs) ps qs = (to x ps.0 qs.0, all_both P Q R to xs ps.1 qs.1)

all_weaker : {A : Type 0} (P Q : A → Type 0) → ((x : A) → P x → Q x) → (xs : List A) → AllByRecursion P xs → AllByRecursion Q xs
all_weaker P Q to [] all = tt
all_weaker P Q to (x ∷ xs) all = (to x all.0, all_weaker P Q to xs all.1)

-- ---- a version depends on no change after it

module _ (set : Settings) (h more : List Event) (version : ℕ) (q : Query) (within : version ≤ length (accepted h)) where
  pub most_before : (reads : ℕ) → IsMostRead set (accepted (h ++ more)) version q reads → IsMostRead set (accepted h) version q reads
  most_before reads is = record { readings = is.readings; are_read = is.are_read ∙ files_at-append h more version q.project within; are_reads = is.are_reads }

  pub asked_before : (ks : List ℕ) → AreAsked set (accepted (h ++ more)) version q ks → AreAsked set (accepted h) version q ks
  asked_before ks is = record { readings = is.readings; are_read = is.are_read ∙ files_at-append h more version q.project within; are_keys = is.are_keys }

-- ---- costs

-- nothing was viewed, read or asked
pub costs_none : (set : Settings) (changes : List Change) (reads asked asked_now : ℕ) → asked_now ≡ asked → Costs set changes [] (counted reads reads asked asked_now)
costs_none set changes reads asked asked_now same = record {
  reads = λ most all. omega arith;
  asked = λ keys all. omega (arith, same);
  asked_most = λ keys all. (omega (arith, same), omega (arith, same));
  no_fewer = omega (arith, same);
}

abbrev told : List Viewing → List Viewing
told vs = filter (λ (v : Viewing). v.answered) vs

abbrev pub IsWithin : List Event → Viewing → Type 0
IsWithin h v = v.version ≤ length (accepted h)

abbrev Most : Settings → List Change → (Viewing → ℕ) → Viewing → Type 0
Most set changes most v = IsMostRead set changes v.version v.query (most v)

abbrev Keys : Settings → List Change → (Viewing → List ℕ) → Viewing → Type 0
Keys set changes keys v = AreAsked set changes v.version v.query (keys v)

abbrev many : (Viewing → List ℕ) → Viewing → ℕ
many keys v = length (keys v)

-- they cost as much by the changes of a later history
pub costs_later : (set : Settings) (h more : List Event) (vs : List Viewing) (n : Counts) → AllByRecursion (IsWithin h) vs → Costs set (accepted h) vs n → Costs set (accepted (h ++ more)) vs n
costs_later set h more vs n within costs =
    let keys_then : (keys : Viewing → List ℕ) (v : Viewing) → IsWithin h v → Keys set (accepted (h ++ more)) keys v → Keys set (accepted h) keys v = λ keys v le is. asked_before set h more v.version v.query le (keys v) is in
    record {
      reads = λ most all. costs.reads most (all_both (IsWithin h) (Most set (accepted (h ++ more)) most) (Most set (accepted h) most) (λ v le is. most_before set h more v.version v.query le (most v) is) vs within all);
      asked = λ keys all. costs.asked keys (all_both (IsWithin h) (Keys set (accepted (h ++ more)) keys) (Keys set (accepted h) keys) (keys_then keys) (told vs) (all_filter (IsWithin h) (λ (v : Viewing). v.answered) vs within) all);
      asked_most = λ keys all. costs.asked_most keys (all_both (IsWithin h) (Keys set (accepted (h ++ more)) keys) (Keys set (accepted h) keys) (keys_then keys) vs within all);
      no_fewer = costs.no_fewer;
    }

-- the same, counted from an equal number to an equal number
pub costs_same : (set : Settings) (changes : List Change) (vs : List Viewing) (reads reads_now asked asked_now before after : ℕ) → before ≡ asked → after ≡ asked_now → Costs set changes vs (counted reads reads_now asked asked_now) → Costs set changes vs (counted reads reads_now before after)
costs_same set changes vs reads reads_now asked asked_now before after was is costs = subst₂ (λ m n. Costs set changes vs (counted reads reads_now m n)) (sym was) (sym is) costs

-- first these, then those
module _ (set : Settings) (changes : List Change) (vs us : List Viewing) (reads reads_mid reads_now asked asked_mid asked_now : ℕ) (one : Costs set changes vs (counted reads reads_mid asked asked_mid)) (two : Costs set changes us (counted reads_mid reads_now asked_mid asked_now)) where
  reads_both : (most : Viewing → ℕ) → AllByRecursion (Most set changes most) (vs ++ us) → reads_now ≤ reads + sum_by most (vs ++ us)
  reads_both most all =
      let first = one.reads most (all_before _ vs us all) in
      let second = two.reads most (all_behind _ vs us all) in
      let sum = sum_by-append most vs us in
      omega (arith, first, second, sum)

  asked_both : (keys : Viewing → List ℕ) → AllByRecursion (Keys set changes keys) (told (vs ++ us)) → RisesAtLeast asked asked_now (sum_by (many keys) (told (vs ++ us)))
  asked_both keys all =
      let apart : told (vs ++ us) ≡ told vs ++ told us = filter-append (λ (v : Viewing). v.answered) vs us in
      let split = subst (AllByRecursion (Keys set changes keys)) apart all in
      let first = one.asked keys (all_before _ (told vs) (told us) split) in
      let second = two.asked keys (all_behind _ (told vs) (told us) split) in
      let sum = ap (sum_by (many keys)) apart ∙ sum_by-append (many keys) (told vs) (told us) in
      omega (arith, first, second, sum)

  asked_most_both : (keys : Viewing → List ℕ) → AllByRecursion (Keys set changes keys) (vs ++ us) → RisesAtMost asked asked_now (sum_by (many keys) (vs ++ us))
  asked_most_both keys all =
      let first = one.asked_most keys (all_before _ vs us all) in
      let second = two.asked_most keys (all_behind _ vs us all) in
      let sum = sum_by-append (many keys) vs us in
      (omega (arith, first.0, second.0), omega (arith, first.1, second.1, sum))

  pub costs_then : Costs set changes (vs ++ us) (counted reads reads_now asked asked_now)
  costs_then = record { reads = reads_both; asked = asked_both; asked_most = asked_most_both; no_fewer = omega (arith, one.no_fewer, two.no_fewer) }

-- ---- one view

module _ (set : Settings) (changes : List Change) (q : Query) (version reads reads_now asked asked_now : ℕ) where
  asked_where : {T E : Type 0} (r : Result T E) → ((ks : List ℕ) → AreAsked set changes version q ks → OnOk r (Rises asked asked_now (length ks))) → RisesAtLeast asked asked_now 0
      → (keys : Viewing → List ℕ) → let vs = told (record { query = q; version = version; answered = is_ok r } ∷ []) in AllByRecursion (Keys set changes keys) vs → RisesAtLeast asked asked_now (sum_by (many keys) vs)
  asked_where (Ok x) rises fewer keys all = let rose = rises (keys (record { query = q; version = version; answered = true })) all.0 in omega (arith, rose)
  asked_where (Err e) rises fewer keys all = fewer

  -- what was read and asked in a view, by whether it came to an answer
  pub costs_one : {T E : Type 0} (r : Result T E) → ((most : ℕ) → IsMostRead set changes version q most → reads_now ≤ reads + most)
      → ((ks : List ℕ) → AreAsked set changes version q ks → OnOk r (Rises asked asked_now (length ks))) → ((ks : List ℕ) → AreAsked set changes version q ks → RisesAtMost asked asked_now (length ks))
      → RisesAtLeast asked asked_now 0 → Costs set changes (record { query = q; version = version; answered = is_ok r } ∷ []) (counted reads reads_now asked asked_now)
  costs_one r read rises most fewer =
      let v : Viewing = record { query = q; version = version; answered = is_ok r } in
      record {
        reads = λ bound all. let few = read (bound v) all.0 in omega (arith, few);
        asked = asked_where r rises fewer;
        asked_most = λ keys all. let rose = most (keys v) all.0 in (omega (arith, rose.0), omega (arith, rose.1));
        no_fewer = fewer;
      }

  -- a reply that was made and is not told
  pub costs_untold : Costs set changes (record { query = q; version = version; answered = true } ∷ []) (counted reads reads_now asked asked_now) → Costs set changes (record { query = q; version = version; answered = false } ∷ []) (counted reads reads_now asked asked_now)
  costs_untold costs = record {
    reads = λ most all. costs.reads (λ v. most (record { query = v.query; version = v.version; answered = false })) all;
    asked = λ keys all. costs.no_fewer;
    asked_most = λ keys all. costs.asked_most (λ v. keys (record { query = v.query; version = v.version; answered = false })) all;
    no_fewer = costs.no_fewer;
  }

-- ---- from one line to the next

pub viewings_none : AreAllViewings [] [] []
viewings_none = refl

pub viewings_more : (lines : List Said) (replies : List Reply) (vs : List Viewing) (l : Said) (r : Reply) (us : List Viewing) → AreAllViewings lines replies vs → AreViewings l r us → AreAllViewings (lines ++ l ∷ []) (replies ++ r ∷ []) (vs ++ us)
viewings_more [] [] vs l r us are is = (us, [], ap (λ xs. xs ++ us) are ∙ sym (append-nil us), is, refl)
viewings_more [] (s ∷ replies) vs l r us are is = absurd are
viewings_more (k ∷ lines) [] vs l r us are is = absurd are
viewings_more (k ∷ lines) (s ∷ replies) vs l r us are is =
    (are.0, are.1 ++ us, ap (λ xs. xs ++ us) are.2 ∙ append_assoc are.0 are.1 us, are.3, viewings_more lines replies are.1 l r us are.4 is)

module _ (set : Settings) (c : ℕ) where
  pub spends_none : (Are : List Viewing → Type 0) (h : List Event) (reads asked : ℕ) → Are [] → Spends Are set c h (counted reads reads asked asked) h
  spends_none Are h reads asked are = record {
    more = [];
    after_is = sym (append-nil h);
    viewings = [];
    are = are;
    opened = refl;
    within = tt;
    costs = costs_none set (accepted h) reads asked asked refl;
  }

  module _ (Was Are Both : List Viewing → Type 0) (h mid later : List Event) (reads reads_mid reads_now asked asked_mid asked_now : ℕ) where
    pub spends_then : Spends Was set c h (counted reads reads_mid asked asked_mid) mid → Spends Are set c mid (counted reads_mid reads_now asked_mid asked_now) later
        → ((vs us : List Viewing) → Was vs → Are us → Both (vs ++ us)) → Spends Both set c h (counted reads reads_now asked asked_now) later
    spends_then one two to =
        let many : length (accepted later) ≡ length (accepted mid) + length (accepted two.more) = ap (λ g. length (accepted g)) two.after_is ∙ (ap length (accepted-append mid two.more) ∙ length-append (accepted mid) (accepted two.more)) in
        record {
          more = one.more ++ two.more;
          after_is = two.after_is ∙ (ap (λ g. g ++ two.more) one.after_is ∙ append_assoc h one.more two.more);
          viewings = one.viewings ++ two.viewings;
          are = to one.viewings two.viewings one.are two.are;
          opened = ap (filter_map opened_by) (own-append c one.more two.more) ∙ (filter_map-append opened_by (own c one.more) (own c two.more)
              ∙ (ap₂ (λ xs ys. xs ++ ys) one.opened two.opened ∙ sym (map-append (λ (v : Viewing). v.version) one.viewings two.viewings)));
          within = all-append (IsWithin later) one.viewings two.viewings (all_weaker (IsWithin mid) (IsWithin later) (λ v le. omega (arith, le, many)) one.viewings one.within) two.within;
          costs = subst (λ g. Costs set (accepted g) (one.viewings ++ two.viewings) (counted reads reads_now asked asked_now)) (sym two.after_is)
              (costs_then set (accepted (mid ++ two.more)) one.viewings two.viewings reads reads_mid reads_now asked asked_mid asked_now (costs_later set mid two.more one.viewings (counted reads reads_mid asked asked_mid) one.within one.costs)
              (subst (λ g. Costs set (accepted g) two.viewings (counted reads_mid reads_now asked_mid asked_now)) two.after_is two.costs));
        }

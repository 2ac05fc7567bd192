-- What a user may conclude from the replies.
use Rattle.std.proofs.Common.{◌≡◌, ◌⊎◌, ℕ, ◌+◌, ◌<◌, ◌≤◌, List, [], ◌∷◌, length, false, refl, sym, ap, ◌∙◌, inl, inr, arith, length-append}
use Rattle.std.proofs.Math.Nat.{le-max_right}
use Rattle.cq_base.specs.declared.settings.Settings.{Settings}
use Rattle.cq_base.specs.declared.change.Change.{Change}
use Rattle.cq_request.specs.declared.request.Query.{Query}
use Rattle.cq_reply.specs.declared.reply.Reply.{Reply}
use Rattle.cq_reply.specs.declared.reply.Reply.TheVariants as reply
use Rattle.cq_talk.specs.Said.{Said, TooLong, WasRead}
use Rattle.cq_talk.specs.Replies.{version_in}
use Rattle.cq_talk.specs.Beside.{Known, known_then, IsReplyBeside, IsChangedBeside, IsAnsweredBeside, IsToldBeside, IsBeside}
use Rattle.cq_talk.specs.Gives.{BesideGives, changes, asks, asks_state}
use Rattle.cq_talk.proofs.Shown.{shown_version, shown_no_pending}

-- a reply that does not report out of memory
replies : (set : Settings) (k : Known) (l : Said) (r : Reply) → (r ≡ reply.Memory → ⊥) → (WasRead l × (r ≡ reply.Memory)) ⊎ IsReplyBeside set k l r → IsReplyBeside set k l r
replies set k l r no_memory (inl memory) = absurd (no_memory memory.1)
replies set k l r no_memory (inr is) = is

one_each : (set : Settings) (k : Known) (lines : List Said) (replies : List Reply) → IsBeside set k lines replies → length replies ≡ length lines
one_each set k [] [] is = refl
one_each set k [] (r ∷ replies) is = absurd is
one_each set k (l ∷ lines) [] is = absurd is
one_each set k (l ∷ lines) (r ∷ replies) is = omega (arith, one_each set (known_then k l r) lines replies is.1)

numbered : (set : Settings) (k : Known) (change : Change) (n : ℕ) → IsChangedBeside set k change (reply.Change n) → n ≡ length k.changes + 1
numbered set k change n (inl is) = let e = is.1 in absurd (cc (e))
numbered set k change n (inr (inl is)) = let e = is.2 in absurd (cc (e))
numbered set k change n (inr (inr (inl is))) = let e = is.2 in absurd (cc (e))
numbered set k change n (inr (inr (inr is))) = let e = is.1 in cc (e)

counted_in : (k : Known) (a d p : ℕ) → IsToldBeside k (reply.State a d p) → (a ≡ length k.changes) × (k.version ≤ p) × (p ≤ d)
counted_in k a d p is =
    let one : a ≡ length k.changes = let e = is.reply_is in cc (e) in
    let two : d ≡ is.done = let e = is.reply_is in cc (e) in
    let three : p ≡ is.published = let e = is.reply_is in cc (e) in
    (one, omega (arith, is.kept, three), omega (arith, is.in_order, two, three))

-- a query's answer is of all changes
shown : (set : Settings) (k : Known) (q : Query) (r : Reply) → 0 < version_in r → (WasRead (asks q) × (r ≡ reply.Memory)) ⊎ IsAnsweredBeside set k q r → version_in r ≡ length k.changes
shown set k q r some (inl memory) = let none : version_in r ≡ 0 = ap version_in memory.1 in absurd (omega (arith, some, none))
shown set k q r some (inr (inl is)) = let none : version_in r ≡ 0 = ap version_in is.1 in absurd (omega (arith, some, none))
shown set k q r some (inr (inr (inl is))) = let none : version_in r ≡ 0 = ap version_in is.reply_is in absurd (omega (arith, some, none))
shown set k q r some (inr (inr (inr is))) = shown_version set k.changes (length k.changes) q r is.1

-- what is told of a change that isn't done
pub record Waits (k : Known) (q : Query) (n : ℕ) : Type 0 where
  pub no_work : q.finish ≡ false
  pub above : k.version < n
  pub few : n ≤ length k.changes

pending : (set : Settings) (k : Known) (q : Query) (n : ℕ) → IsAnsweredBeside set k q (reply.Pending n) → Waits k q n
pending set k q n (inl is) = let e = is.1 in absurd (cc (e))
pending set k q n (inr (inl is)) =
    let same : n ≡ is.number = let e = is.reply_is in cc (e) in
    record { no_work = is.no_work; above = omega (arith, is.above, same); few = omega (arith, is.put.0.1, same) }
pending set k q n (inr (inr is)) = absurd (shown_no_pending set k.changes (length k.changes) q (reply.Pending n) is.1 n refl)

too_long : (set : Settings) (k : Known) (r : Reply) → (WasRead TooLong × (r ≡ reply.Memory)) ⊎ IsReplyBeside set k TooLong r → r ≡ reply.Long
too_long set k r (inl memory) = absurd memory.0
too_long set k r (inr is) = is

module _ (set : Settings) (k : Known) where
  told : (change : Change) (n : ℕ) → ((WasRead (changes change) × (reply.Change n ≡ reply.Memory)) ⊎ IsReplyBeside set k (changes change) (reply.Change n)) → n ≡ length k.changes + 1
  told change n is = numbered set k change n (replies set k (changes change) (reply.Change n) (λ e. absurd (cc (e))) is)

  state_told : (a d p : ℕ) → ((WasRead asks_state × (reply.State a d p ≡ reply.Memory)) ⊎ IsReplyBeside set k asks_state (reply.State a d p)) → (a ≡ length k.changes) × (k.version ≤ p) × (p ≤ d)
  state_told a d p is = counted_in k a d p (replies set k asks_state (reply.State a d p) (λ e. absurd (cc (e))) is)

  pending_told : (q : Query) (n : ℕ) → ((WasRead (asks q) × (reply.Pending n ≡ reply.Memory)) ⊎ IsReplyBeside set k (asks q) (reply.Pending n)) → Waits k q n
  pending_told q n is = pending set k q n (replies set k (asks q) (reply.Pending n) (λ e. absurd (cc (e))) is)

pub besides : (set : Settings) (k : Known) → BesideGives set k
besides set k = record {
  one_each = one_each set k;
  counted = λ change n a d p is.
      let number = told set k change n is.0 in
      let all = state_told set (known_then k (changes change) (reply.Change n)) a d p is.1.0 in
      (number, omega (arith, number, all.0, length-append k.changes (change ∷ [])));
  forgotten = λ change a d p is. (state_told set (known_then k (changes change) reply.Memory) a d p is.1.0).0;
  own_change = λ change n q r is some.
      let number = told set k change n is.0 in
      let all = shown set (known_then k (changes change) (reply.Change n)) q r some is.1.0 in
      omega (arith, number, all, length-append k.changes (change ∷ []));
  kept = λ a d p b e s is.
      let first = state_told set k a d p is.0 in
      let second = state_told set (known_then k asks_state (reply.State a d p)) b e s is.1.0 in
      let low : p ≤ s = omega (arith, le-max_right k.version p, second.1) in
      (low, omega (arith, low, second.2), first.0 ∙ sym second.0);
  answered = λ first second r n is some.
      let all = shown set k first r some is.0 in
      let waits = pending_told set (known_then k (asks first) r) second n is.1.0 in
      absurd (omega (arith, le-max_right k.version (version_in r), waits.above, waits.few, all));
  waits = λ q n is. (pending_told set k q n is.0).no_work;
  too_long = λ r is. too_long set k r is.0;
}

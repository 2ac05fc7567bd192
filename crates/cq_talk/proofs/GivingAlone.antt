-- What a user of a server alone may conclude from the replies.
use Rattle.std.proofs.Common.{◌≡◌, ℕ, ◌+◌, ◌<◌, List, [], ◌∷◌, length, Option, Some, None, false, refl, ap, subst, inl, inr, arith}
use Rattle.cq_base.specs.declared.settings.Settings.{Settings}
use Rattle.cq_base.specs.declared.change.Change.{Change}
use Rattle.cq_board.specs.declared.answers.Refused.{Refused}
use Rattle.cq_board.specs.declared.answers.Refused.TheVariants as refused
use Rattle.cq_request.specs.declared.request.Query.{Query}
use Rattle.cq_reply.specs.declared.reply.Reply.{Reply}
use Rattle.cq_reply.specs.declared.reply.Reply.TheVariants as reply
use Rattle.cq_answer.specs.Refusals.{cause_told}
use Rattle.cq_talk.specs.Said.{Said}
use Rattle.cq_talk.specs.Replies.{version_in}
use Rattle.cq_talk.specs.Causes.{cause, change_told}
use Rattle.cq_talk.specs.Alone.{Walk, changed, all_published, IsAnsweredAlone, IsReplyAlone, IsAloneUpToMemory}
use Rattle.cq_talk.specs.Gives.{AloneGives, changes, asks, asks_state}
use Rattle.cq_talk.proofs.Shown.{shown_version, shown_no_pending}

one_each : (set : Settings) (k : Walk) (lines : List Said) (replies : List Reply) → IsAloneUpToMemory set k lines replies → length replies ≡ length lines
one_each set k [] [] is = refl
one_each set k [] (r ∷ replies) is = absurd is
one_each set k (l ∷ lines) [] is = absurd is
one_each set k (l ∷ lines) (r ∷ replies) (inl memory) = omega (arith, memory.2)
one_each set k (l ∷ lines) (r ∷ replies) (inr one) = omega (arith, one_each set one.0 lines replies one.2)

-- a change with a number is accepted
accepted : (k after : Walk) (change : Change) (n : ℕ) (why : Option Refused) → reply.Change n ≡ change_told k.changes why → after ≡ changed k change why → (n ≡ length k.changes + 1) × (after ≡ changed k change None)
accepted k after change n None told is = (cc (told), is)
accepted k after change n (Some refused.Absent) told is = absurd (cc (told))
accepted k after change n (Some refused.FullChanges) told is = absurd (cc (told))
accepted k after change n (Some refused.FullText) told is = absurd (cc (told))
accepted k after change n (Some refused.Memory) told is = absurd (cc (told))

no_number : (why : Refused) (n : ℕ) → cause_told why ≡ reply.Change n → ⊥
no_number refused.Absent n told = absurd (cc (told))
no_number refused.FullChanges n told = absurd (cc (told))
no_number refused.FullText n told = absurd (cc (told))
no_number refused.Memory n told = absurd (cc (told))

-- one with a cause is not
refused_for : (k after : Walk) (change : Change) (cause : Refused) (why : Option Refused) → cause_told cause ≡ change_told k.changes why → after ≡ changed k change why → after ≡ k
refused_for k after change cause None told is = absurd (no_number cause (length k.changes + 1) told)
refused_for k after change cause (Some why) told is = is

-- what the walk comes to after an answer
shown : (set : Settings) (k after : Walk) (q : Query) (r : Reply) → 0 < version_in r → IsAnsweredAlone set k q r after → (version_in r ≡ length k.changes) × (after ≡ all_published k)
shown set k after q r some (inl is) = let none : version_in r ≡ 0 = ap version_in is.1 in absurd (omega (arith, some, none))
shown set k after q r some (inr (inl is)) = let none : version_in r ≡ 0 = ap version_in is.3 in absurd (omega (arith, some, none))
shown set k after q r some (inr (inr is)) = (shown_version set k.changes (length k.changes) q r is.2, is.3)

pending : (set : Settings) (k after : Walk) (q : Query) (n : ℕ) → IsAnsweredAlone set k q (reply.Pending n) after → (q.finish ≡ false) × (n ≡ k.done + 1) × (k.done < length k.changes)
pending set k after q n (inl is) = let e = is.1 in absurd (cc (e))
pending set k after q n (inr (inl is)) = let e = is.3 in (is.1, cc (e), is.2)
pending set k after q n (inr (inr is)) = absurd (shown_no_pending set k.changes (length k.changes) q (reply.Pending n) is.2 n refl)

module _ (set : Settings) where
  -- the first reply, if it does not report out of memory, and the walk after it
  first : (k : Walk) (l : Said) (lines : List Said) (r : Reply) (replies : List Reply) → (r ≡ reply.Memory → ⊥) → IsAloneUpToMemory set k (l ∷ lines) (r ∷ replies) → (after : Walk) × IsReplyAlone set k l r after × IsAloneUpToMemory set after lines replies
  first k l lines r replies no_memory (inl memory) = absurd (no_memory memory.1)
  first k l lines r replies no_memory (inr one) = one

  told : (k : Walk) (a d p : ℕ) → IsAloneUpToMemory set k (asks_state ∷ []) (reply.State a d p ∷ []) → (a ≡ length k.changes) × (d ≡ k.done) × (p ≡ k.published)
  told k a d p is =
      let one = first k asks_state [] (reply.State a d p) [] (λ e. absurd (cc (e))) is in
      let e = one.1.0 in
      (cc (e), cc (e), cc (e))

  -- the state that is told after a walk that is known
  told_of : (k t : Walk) (a d p : ℕ) → t ≡ k → IsAloneUpToMemory set t (asks_state ∷ []) (reply.State a d p ∷ []) → (a ≡ length k.changes) × (d ≡ k.done) × (p ≡ k.published)
  told_of k t a d p same is = told k a d p (subst (λ w. IsAloneUpToMemory set w (asks_state ∷ []) (reply.State a d p ∷ [])) same is)

no_memory_of : (r : Reply) → 0 < version_in r → r ≡ reply.Memory → ⊥
no_memory_of r some memory = let none : version_in r ≡ 0 = ap version_in memory in absurd (omega (arith, some, none))

pub gives_alone : (set : Settings) (k : Walk) → AloneGives set k
gives_alone set k = record {
  one_each = one_each set k;
  told = told set k;
  accepted = λ change n a d p is.
      let one = first set k (changes change) (asks_state ∷ []) (reply.Change n) (reply.State a d p ∷ []) (λ e. absurd (cc (e))) is in
      let now = accepted k one.0 change n (cause set k.changes k.floor change) one.1.0 one.1.1 in
      (now.0, told_of set (changed k change None) one.0 a d p now.1 one.2);
  refused = λ change why a d p no_memory is.
      let one = first set k (changes change) (asks_state ∷ []) (cause_told why) (reply.State a d p ∷ []) no_memory is in
      told_of set k one.0 a d p (refused_for k one.0 change why (cause set k.changes k.floor change) one.1.0 one.1.1) one.2;
  answered = λ q r a d p some is.
      let one = first set k (asks q) (asks_state ∷ []) r (reply.State a d p ∷ []) (no_memory_of r some) is in
      let now = shown set k one.0 q r some one.1 in
      (now.0, told_of set (all_published k) one.0 a d p now.1 one.2);
  waits = λ q n is.
      let one = first set k (asks q) [] (reply.Pending n) [] (λ e. absurd (cc (e))) is in
      pending set k one.0 q n one.1;
}

-- An answer names its version, and depends on no change after that.
use Rattle.std.proofs.Common.{◌≡◌, ℕ, ◌≤◌, Bool, List, ◌++◌, length, refl, sym, ap, ◌∙◌, subst}
use Rattle.cq_base.specs.declared.settings.Settings.{Settings}
use Rattle.cq_base.specs.declared.change.Change.{Change}
use Rattle.cq_base.specs.declared.change.Condition.{Condition}
use Rattle.cq_base.specs.declared.group.Group.{Group}
use Rattle.cq_history.specs.declared.event.Event.{Event}
use Rattle.cq_history.specs.Files.{files_at, conditions_at}
use Rattle.cq_history.specs.State.{accepted}
use Rattle.cq_history.proofs.Prefixes.{files_at-append, conditions_at-append}
use Rattle.cq_request.specs.declared.request.Kind.{Kind}
use Rattle.cq_request.specs.declared.request.Kind.TheVariants as kind
use Rattle.cq_request.specs.declared.request.Query.{Query}
use Rattle.cq_reply.specs.declared.reply.Reply.{Reply}
use Rattle.cq_reply.specs.declared.reply.Reply.TheVariants as reply
use Rattle.cq_answer.specs.declared.part.Part.{Part}
use Rattle.cq_answer.specs.Reply.{IsReply, reply_of, part_read, chosen_read}
use Rattle.cq_answer.specs.Rows.{Facts, facts_read}
use Rattle.cq_hub.specs.Hubs.{Grows}
use Rattle.cq_talk.specs.Replies.{named, version_in, answered_in}

module _ (facts : Facts) (conditions : List Condition) (version : ℕ) (p : Part) (is_chosen : ℕ → Bool) (groups : List Group) where
  kind_named : (k : Kind) → named (reply_of facts conditions version k p is_chosen groups) ≡ version
  kind_named kind.Files = refl
  kind_named kind.Groups = refl
  kind_named kind.Measures = refl
  kind_named kind.Verdict = refl
  kind_named kind.Functions = refl

  kind_version : (k : Kind) → version_in (reply_of facts conditions version k p is_chosen groups) ≡ version
  kind_version kind.Files = refl
  kind_version kind.Groups = refl
  kind_version kind.Measures = refl
  kind_version kind.Verdict = refl
  kind_version kind.Functions = refl

  kind_answered : (k : Kind) → answered_in (reply_of facts conditions version k p is_chosen groups) ≡ version
  kind_answered kind.Files = refl
  kind_answered kind.Groups = refl
  kind_answered kind.Measures = refl
  kind_answered kind.Verdict = refl
  kind_answered kind.Functions = refl

  kind_no_pending : (k : Kind) (n : ℕ) → reply.Pending n ≡ reply_of facts conditions version k p is_chosen groups → ⊥
  kind_no_pending kind.Files n same = absurd (cc (same))
  kind_no_pending kind.Groups n same = absurd (cc (same))
  kind_no_pending kind.Measures n same = absurd (cc (same))
  kind_no_pending kind.Verdict n same = absurd (cc (same))
  kind_no_pending kind.Functions n same = absurd (cc (same))

module _ (set : Settings) (changes : List Change) (version : ℕ) (q : Query) (r : Reply) (is : IsReply set changes version q r) where
  pub shown_named : named r ≡ version
  shown_named = ap named is.reply_is ∙ kind_named (facts_read is.readings) (conditions_at changes version q.project) version (part_read is.readings q) (chosen_read is.readings q) is.groups q.kind

  pub shown_version : version_in r ≡ version
  shown_version = ap version_in is.reply_is ∙ kind_version (facts_read is.readings) (conditions_at changes version q.project) version (part_read is.readings q) (chosen_read is.readings q) is.groups q.kind

  pub shown_answered : answered_in r ≡ version
  shown_answered = ap answered_in is.reply_is ∙ kind_answered (facts_read is.readings) (conditions_at changes version q.project) version (part_read is.readings q) (chosen_read is.readings q) is.groups q.kind

  -- it tells of no change that isn't done
  pub shown_no_pending : (n : ℕ) → r ≡ reply.Pending n → ⊥
  shown_no_pending n same = kind_no_pending (facts_read is.readings) (conditions_at changes version q.project) version (part_read is.readings q) (chosen_read is.readings q) is.groups q.kind n (sym same ∙ is.reply_is)

  -- other changes with the same files and conditions at the version have the same answer
  pub shown_as : (others : List Change) → files_at others version q.project ≡ files_at changes version q.project → conditions_at others version q.project ≡ conditions_at changes version q.project → IsReply set others version q r
  shown_as others files conditions = record {
    readings = is.readings;
    are_read = is.are_read ∙ sym files;
    groups = is.groups;
    are_groups = is.are_groups;
    reply_is = is.reply_is ∙ ap (λ cs. reply_of (facts_read is.readings) cs version q.kind (part_read is.readings q) (chosen_read is.readings q) is.groups) (sym conditions);
  }

module _ (set : Settings) (h later : List Event) (version : ℕ) (q : Query) (r : Reply) (within : version ≤ length (accepted h)) where
  pub shown_later : IsReply set (accepted h) version q r → IsReply set (accepted (h ++ later)) version q r
  shown_later is = shown_as set (accepted h) version q r is (accepted (h ++ later)) (files_at-append h later version q.project within) (conditions_at-append h later version q.project within)

  pub shown_before : IsReply set (accepted (h ++ later)) version q r → IsReply set (accepted h) version q r
  shown_before is = shown_as set (accepted (h ++ later)) version q r is (accepted h) (sym (files_at-append h later version q.project within)) (sym (conditions_at-append h later version q.project within))

-- the same where the history grows by a call
pub shown_grows : (set : Settings) (alone : Type 0) (May : Event → Type 0) (c : ℕ) (h later es : List Event) (version : ℕ) (q : Query) (r : Reply) → version ≤ length (accepted h) → Grows alone May c h later es → IsReply set (accepted h) version q r → IsReply set (accepted later) version q r
shown_grows set alone May c h later es version q r within grows is = subst (λ g. IsReply set (accepted g) version q r) (sym grows.after_is) (shown_later set h grows.more version q r within is)

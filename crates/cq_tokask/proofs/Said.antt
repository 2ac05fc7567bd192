-- What a line says that is not too long, and its reply.
use Rattle.std.proofs.Common.{◌≡◌, ℕ, ◌<◌, ◌≤◌, Bool, true, false, if◌then◌else◌, List, [], length, refl, sym, ap, subst, inl, inr}
use Rattle.std.specs.Prelude.{MatchBool}
use Rattle.std.specs.Str.{bytes_eq}
use Rattle.std.proofs.lemmas.Bool.{lt-ltb, le-ltb}
use Rattle.cq_answer.specs.Given.{IsReplyOf}
use Rattle.cq_base.specs.declared.settings.Settings.{Settings}
use Rattle.cq_lines.specs.Pieces.{line_limit}
use Rattle.cq_reply.specs.declared.reply.Reply.{Reply}
use Rattle.cq_reply.specs.declared.reply.Reply.TheVariants as reply
use Rattle.cq_request.specs.Reading.{line_says}
use Rattle.cq_request.specs.declared.request.Query.{Query}
use Rattle.cq_talk.specs.Said.{Said, TooLong, Read, WasRead, said}
use Rattle.cq_tokfile.specs.declared.snapshot.Snapshot.{Snapshot}
use Rattle.cq_tokask.specs.Asked.{files_of, conditions_of, AnswersQuery, AnswersSaid, AnswersLine}
use Rattle.cq_base.specs.declared.refusal.Refusal.TheVariants as refusal

was_read : (chunk : ℕ) (line : List ℕ) → length line ≤ line_limit → said chunk line ≡ Read (line_says chunk line)
was_read chunk line short = ap (λ (b : Bool). if b then TooLong else Read (line_says chunk line)) (le-ltb _ _ short)

was_long : (chunk : ℕ) (line : List ℕ) → line_limit < length line → said chunk line ≡ TooLong
was_long chunk line long = ap (λ (b : Bool). if b then TooLong else Read (line_says chunk line)) (lt-ltb _ _ long)

module _ {L : Type 0} (s : Snapshot L) where
  pub answers_later : (q : Query) → s.version < q.at → AnswersQuery s q (reply.Refused (refusal.Future s.version))
  answers_later q later = subst (λ (b : Bool). MatchBool b (reply.Refused (refusal.Future s.version) ≡ reply.Refused (refusal.Future s.version)) (IsReplyOf (files_of s q.project) (conditions_of s q.project) q s.version (reply.Refused (refusal.Future s.version)))) (sym (lt-ltb s.version q.at later)) refl

  pub answers_now : (q : Query) (r : Reply) → q.at ≤ s.version → IsReplyOf (files_of s q.project) (conditions_of s q.project) q s.version r → AnswersQuery s q r
  answers_now q r now is = subst (λ (b : Bool). MatchBool b (r ≡ reply.Refused (refusal.Future s.version)) (IsReplyOf (files_of s q.project) (conditions_of s q.project) q s.version r)) (sym (le-ltb s.version q.at now)) is

  pub of_project : (q : Query) (r : Reply) → bytes_eq q.project s.project ≡ true → IsReplyOf s.files s.conditions.items q s.version r → IsReplyOf (files_of s q.project) (conditions_of s q.project) q s.version r
  of_project q r same is = subst (λ (b : Bool). IsReplyOf (if b then s.files else []) (if b then s.conditions.items else []) q s.version r) (sym same) is

  pub of_other : (q : Query) (r : Reply) → bytes_eq q.project s.project ≡ false → IsReplyOf {L = L} [] [] q s.version r → IsReplyOf (files_of s q.project) (conditions_of s q.project) q s.version r
  of_other q r other is = subst (λ (b : Bool). IsReplyOf (if b then s.files else []) (if b then s.conditions.items else []) q s.version r) (sym other) is

  module _ (set : Settings) (line : List ℕ) where
    pub answers : (r : Reply) → length line ≤ line_limit → AnswersSaid s (Read (line_says set.chunk line)) r → AnswersLine s set line r
    answers r short is = inl (subst (λ (x : Said). AnswersSaid s x r) (sym (was_read set.chunk line short)) is)

    pub tells_memory : length line ≤ line_limit → AnswersLine s set line reply.Memory
    tells_memory short = inr (subst WasRead (sym (was_read set.chunk line short)) tt, refl)

    pub answers_long : line_limit < length line → AnswersLine s set line reply.Long
    answers_long long = inl (subst (λ (x : Said). AnswersSaid s x reply.Long) (sym (was_long set.chunk line long)) refl)

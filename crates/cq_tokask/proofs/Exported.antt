-- A snapshot of some changes answers as they do.
use Rattle.std.proofs.Common.{◌≡◌, ◌∙◌, ℕ, ◌≤◌, Bool, true, if◌then◌else◌, List, [], length, refl, sym, subst}
use Rattle.std.specs.Prelude.{MatchBool}
use Rattle.std.specs.Str.{bytes_eq}
use Rattle.std.proofs.lemmas.Bool.{le-ltb}
use Rattle.std.proofs.lemmas.Slice.Eq.{bytes_eq-Decides}
use Rattle.cq_answer.specs.Given.{IsReplyOf}
use Rattle.cq_answer.specs.Parts.{part_of}
use Rattle.cq_answer.specs.Versions.{AreOfVersion}
use Rattle.cq_answer.specs.Works.{paths_in}
use Rattle.cq_answer.proofs.Listable.{replied}
use Rattle.cq_reply.specs.declared.reply.Reply.TheVariants as reply
use Rattle.cq_tokask.specs.Asked.{files_of, conditions_of}
use Rattle.cq_tokask.specs.Exported.{AnswersAsItsChanges}
use Rattle.cq_base.specs.declared.refusal.Refusal.TheVariants as refusal

pub answers_as : (L : Type 0) → AnswersAsItsChanges L
answers_as L set changes project s q r is here now answered =
    let no_later : q.at ≤ s.version = subst (λ (n : ℕ). q.at ≤ n) (sym is.version_is) now in
    let shown : IsReplyOf (files_of s q.project) (conditions_of s q.project) q s.version r =
    subst (λ (b : Bool). MatchBool b (r ≡ reply.Refused (refusal.Future s.version)) (IsReplyOf (files_of s q.project) (conditions_of s q.project) q s.version r)) (le-ltb s.version q.at no_later) answered in
    let same : bytes_eq q.project s.project ≡ true = (bytes_eq-Decides q.project s.project).1 (here ∙ sym is.project_is) in
    let own : IsReplyOf s.files s.conditions.items q s.version r = subst (λ (b : Bool). IsReplyOf (if b then s.files else []) (if b then s.conditions.items else []) q s.version r) same shown in
    let led : IsReplyOf s.files s.conditions.items q (length changes) r = subst (λ (n : ℕ). IsReplyOf s.files s.conditions.items q n r) is.version_is own in
    let are : AreOfVersion set changes (length changes) q.project s.files s.conditions.items = subst (λ (p : List ℕ). AreOfVersion set changes (length changes) p s.files s.conditions.items) (sym here) is.are in
    replied set changes (length changes) q s.files s.conditions.items (part_of (paths_in s.files) q.kind q.path) led.groups r are refl led.are_groups led.reply_is

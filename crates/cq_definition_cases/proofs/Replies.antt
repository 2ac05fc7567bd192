-- Lines that are not those of a reply.
use Rattle.std.specs.Prelude.{◌≡◌, ℕ, Bool, false, List, [], ◌∷◌, ◌++◌, drop, codes}
use Rattle.std.proofs.Common.{arith, ap, refl}
use Rattle.serde_json.specs.Data.{boolean, unsigned, number, string, object, member, no_members}
use Rattle.serde_json.specs.Written.{compact_text}
use Rattle.cq_answer.specs.Reply.{reply_of}
use Rattle.cq_answer.specs.Rows.{Facts}
use Rattle.cq_answer.specs.declared.part.Part.{Part}
use Rattle.cq_base.specs.declared.change.Condition.{Condition}
use Rattle.cq_base.specs.declared.group.Group.{Group}
use Rattle.cq_definition_cases.proofs.Different.{differ}
use Rattle.cq_measures.specs.declared.outcome.Verdict.TheVariants as verdict
use Rattle.cq_reply.specs.Lines.{NeedsMemory}
use Rattle.cq_reply.specs.Written.{line_of, reply_data}
use Rattle.cq_reply.specs.declared.reply.Reply.{Reply}
use Rattle.cq_reply.specs.declared.reply.Reply.TheVariants as reply
use Rattle.cq_request.specs.declared.request.Kind.TheVariants as kind

pub a_change_is_told_without_memory : (n : ℕ) → NeedsMemory (reply.Change n) → ⊥
a_change_is_told_without_memory n h = h

other_end : (text : List ℕ) → text ++ 10 ∷ [] ≡ text ++ 32 ∷ [] → ⊥
other_end [] e = differ e refl
other_end (c ∷ text) e = other_end text (ap (λ (s : List ℕ). drop 1 s) e)

pub a_line_ends_with_a_line_feed : (r : Reply) → line_of r ≡ compact_text (reply_data r) ++ 32 ∷ [] → ⊥
a_line_ends_with_a_line_feed r e = other_end (compact_text (reply_data r)) e

pub keys_are_in_order :
    reply_data (reply.Pending 3) ≡ object (member (codes "error") (string (codes "pending")) (member (codes "code") (number (unsigned 12)) (member (codes "number") (number (unsigned 3)) (member (codes "ok") (boolean false) no_members)))) → ⊥
keys_are_in_order e = grind (arith, e)

pub done_is_not_published : reply_data (reply.State 3 2 1) ≡ reply_data (reply.State 3 1 2) → ⊥
done_is_not_published e = grind (arith, e)

pub the_positions_that_failed_are_shown : reply_data (reply.Verdict (verdict.Error (1 ∷ [])) 1) ≡ reply_data (reply.Verdict (verdict.Error []) 1) → ⊥
the_positions_that_failed_are_shown e = grind (arith, e)

pub an_error_is_not_ok : reply_data (reply.Verdict (verdict.Error (1 ∷ [])) 1) ≡ reply_data (reply.Verdict verdict.Ok 1) → ⊥
an_error_is_not_ok e = grind (arith, e)

pub an_answer_names_the_version_of_its_files :
    (facts : Facts) (conditions : List Condition) (p : Part) (is_chosen : ℕ → Bool) (groups : List Group)
    → reply_of facts conditions 3 kind.Files p is_chosen groups ≡ reply_of facts conditions 5 kind.Files p is_chosen groups → ⊥
an_answer_names_the_version_of_its_files facts conditions p is_chosen groups e = grind (arith, e)

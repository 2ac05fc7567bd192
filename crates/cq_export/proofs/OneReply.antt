-- A query has one reply at a version: whatever the files are read to, it shows the same.
use Rattle.std.proofs.Common.{◌≡◌, ℕ, List, [], ◌∷◌, length, map, refl, sym, ap, ap₂, ◌∙◌, subst, subst₂}
use Rattle.cq_answer.proofs.SameReadings.{same_paths, same_corpus}
use Rattle.cq_answer.specs.Parts.{part_of, AreGroupsOf}
use Rattle.cq_answer.specs.Readings.{Reading, corpus_read, spans_read, counts_read, functions_read}
use Rattle.cq_answer.specs.Reply.{IsReply, part_read, chosen_read, reply_of}
use Rattle.cq_answer.specs.Rows.{file_row, shown_in, facts_read}
use Rattle.cq_answer.specs.declared.part.Part.{Part}
use Rattle.cq_answer.specs.declared.part.Part.TheVariants as part
use Rattle.cq_base.specs.Lines.{lines_of}
use Rattle.cq_base.specs.declared.change.Change.{Change}
use Rattle.cq_base.specs.declared.group.Group.{Group}
use Rattle.cq_base.specs.declared.norm.Norm.{Norm}
use Rattle.cq_base.specs.declared.settings.Settings.{Settings}
use Rattle.cq_clones.proofs.InOrder.{AreAllInOrder-same}
use Rattle.cq_clones.proofs.Order.{AreGroups-same, ComesBefore-apart}
use Rattle.cq_clones.specs.Groups.{ComesBefore}
use Rattle.cq_export.proofs.Lexings.{same_tokens, same_state}
use Rattle.cq_func.specs.Functions.{functions}
use Rattle.cq_history.specs.Files.{Source, conditions_at}
use Rattle.cq_normal.specs.Kept.{spans_of}
use Rattle.cq_reply.specs.declared.reply.Reply.{Reply}
use Rattle.cq_request.specs.declared.request.Query.{Query}
use Rattle.cq_scope.specs.Chosen.{is_chosen_at}
use Rattle.cq_work.specs.Counts.{counts_of}
use Rattle.cq_work.specs.Lexing.{LexesTo, tokens_in, kept_in, state_of}
use Rattle.cq_work.specs.Shown.{one_lexing, same_kept}

-- of two readings of one file
record Same (r s : Reading) : Type 0 where
  file : r.file ≡ s.file
  kept : kept_in r.answer ≡ kept_in s.answer
  tokens : tokens_in r.answer ≡ tokens_in s.answer
  state : state_of r.answer ≡ state_of s.answer

same_reading : (r s : Reading) → r.file ≡ s.file → Same r s
same_reading r s same =
    let lexes : LexesTo s.file.lang s.file.body r.answer = subst (λ (f : Source). LexesTo f.lang f.body r.answer) same r.lexes in
    let alike = one_lexing s.file.lang s.file.body r.answer s.answer lexes s.lexes in
    record { file = same; kept = same_kept s.file.lang s.file.body r.answer s.answer lexes s.lexes; tokens = same_tokens r.answer s.answer alike; state = same_state r.answer s.answer alike }

abbrev AreSame : List Reading → List Reading → Type 0
AreSame [] [] = Unit {0}
AreSame [] (s ∷ ss) = ⊥
AreSame (r ∷ rs) [] = ⊥
AreSame (r ∷ rs) (s ∷ ss) = Same r s × AreSame rs ss

are_same : (rs ss : List Reading) → map (λ (r : Reading). r.file) rs ≡ map (λ (r : Reading). r.file) ss → AreSame rs ss
are_same [] [] same = tt
are_same [] (s ∷ ss) same = absurd (cc)
are_same (r ∷ rs) [] same = absurd (cc)
are_same (r ∷ rs) (s ∷ ss) same =
    let first : r.file ≡ s.file = cc in
    let later : map (λ (x : Reading). x.file) rs ≡ map (λ (x : Reading). x.file) ss = cc in
    (same_reading r s first, are_same rs ss later)

-- what is told of each reading is told alike
told_alike : {X : Type 0} (f : Reading → X) → ((r s : Reading) → Same r s → f r ≡ f s) → (rs ss : List Reading) → AreSame rs ss → map f rs ≡ map f ss
told_alike f each [] [] same = refl
told_alike f each [] (s ∷ ss) same = absurd same
told_alike f each (r ∷ rs) [] same = absurd same
told_alike {X = X} f each (r ∷ rs) (s ∷ ss) same = ap₂ (λ (x : X) (xs : List X). x ∷ xs) (each r s same.0) (told_alike f each rs ss same.1)

pub same_facts : (rs ss : List Reading) → map (λ (r : Reading). r.file) rs ≡ map (λ (r : Reading). r.file) ss → facts_read rs ≡ facts_read ss
same_facts rs ss alike =
    let same = are_same rs ss alike in
    let rows : map file_row rs ≡ map file_row ss = told_alike file_row (λ r s h. λ i. record { path = (h.file i).path; change = (h.file i).number; lang = (h.file i).lang; lines = lines_of (h.file i).body; shown = shown_in (h.state i); tokens = length (h.kept i) }) rs ss same in
    let spans : spans_read rs ≡ spans_read ss = told_alike (λ (r : Reading). spans_of (kept_in r.answer)) (λ r s h. ap spans_of h.kept) rs ss same in
    let counts : counts_read rs ≡ counts_read ss = told_alike (λ (r : Reading). counts_of r.file.lang r.file.body (state_of r.answer) (tokens_in r.answer)) (λ r s h. λ i. counts_of (h.file i).lang (h.file i).body (h.state i) (h.tokens i)) rs ss same in
    let lists : functions_read rs ≡ functions_read ss = told_alike (λ (r : Reading). functions r.file.lang (tokens_in r.answer)) (λ r s h. λ i. functions (h.file i).lang (h.tokens i)) rs ss same in
    λ i. record { rows = rows i; paths = same_paths rs ss alike i; spans = spans i; counts = counts i; functions = lists i }

-- one list of groups of each part
groups_once : (corpus : List (List Norm)) (min : ℕ) (p : Part) (xs ys : List Group) → AreGroupsOf corpus min p xs → AreGroupsOf corpus min p ys → xs ≡ ys
groups_once corpus min part.Whole xs ys a b = AreGroups-same corpus min xs ys a b
groups_once corpus min (part.File i) xs ys a b = AreAllInOrder-same ComesBefore ComesBefore-apart _ xs ys a b
groups_once corpus min (part.Alone i) xs ys a b = a ∙ sym b
groups_once corpus min part.Nothing xs ys a b = a ∙ sym b

-- a query has one reply at a version
pub reply_once : (set : Settings) (changes : List Change) (version : ℕ) (q : Query) (a b : Reply) → IsReply set changes version q a → IsReply set changes version q b → a ≡ b
reply_once set changes version q a b is also =
    let alike = is.are_read ∙ sym also.are_read in
    let corpus = same_corpus set is.readings also.readings alike in
    let at : part_read is.readings q ≡ part_read also.readings q = ap (λ ps. part_of ps q.kind q.path) (same_paths is.readings also.readings alike) in
    let groups = groups_once (corpus_read set also.readings) q.min (part_read also.readings q) is.groups also.groups (subst₂ (λ c p. AreGroupsOf c q.min p is.groups) corpus at is.are_groups) also.are_groups in
    let facts = same_facts is.readings also.readings alike in
    let chosen : chosen_read is.readings q ≡ chosen_read also.readings q = ap (λ (fs : List Source). is_chosen_at q.scope q.since fs) alike in
    is.reply_is ∙ (λ i. reply_of (facts i) (conditions_at changes version q.project) version q.kind (at i) (chosen i) (groups i)) ∙ sym also.reply_is

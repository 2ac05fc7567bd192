-- A session alone is one with no workers beside it.
use Rattle.std.proofs.Common.{◌≡◌, ℕ, ◌+◌, List, [], ◌∷◌, ◌++◌, length, map, drop, refl, sym, ap, ◌∙◌}
use Rattle.cq_export.proofs.SessionsBeside.{asks_as_beside}
use Rattle.cq_export.specs.Beside.{numbers_behind}
use Rattle.cq_export.specs.Laws.{AsksAsASession}
use Rattle.cq_reply.specs.declared.reply.Reply.{Reply}
use Rattle.cq_talk.proofs.AloneBeside.{alone_beside}
use Rattle.cq_talk.specs.Said.{said}
use Rattle.cq_tokask.specs.Exported.{AnswersAsItsChanges}

behind_numbers : (n : ℕ) (lines : List (List ℕ)) (replies : List Reply) → drop (length lines) (numbers_behind n lines ++ replies) ≡ replies
behind_numbers n [] replies = refl
behind_numbers n (line ∷ lines) replies = behind_numbers (n + 1) lines replies

pub asks_as : (L : Type 0) → AnswersAsItsChanges L → AsksAsASession L
asks_as L answers_as set changes project written read file lines questions asked served say accepted of is also each answers alone told known =
    let beside = alone_beside set (map (said set.chunk) (lines ++ questions)) served alone known in
    let all = asks_as_beside L answers_as set changes project written read file lines questions asked served say accepted of is also each answers beside told known in
    sym (ap (drop (length lines)) all ∙ behind_numbers 0 lines asked)

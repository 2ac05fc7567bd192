use Rattle.std.proofs.Common.{◌∙◌, List, [], sym, ap, subst}
use Rattle.std.proofs.lemmas.Result.{IfOk-weaker}
use Rattle.cq_answer.specs.Given.{AreGiven, IsReplyOf}
use Rattle.cq_answer.specs.Works.{numbers_in, keys_in}
use Rattle.cq_history.specs.Files.{File}
use Rattle.cq_tokfile.specs.Loaded.{KeyedFiles}
use Rattle.cq_work.specs.declared.work.Work.{Work}
use Rattle.cq_tokask.proofs.GivenFiles.{given_none}
use Rattle.cq_tokask.proofs.answering.reply_to_other.Goals as goal

pub answer-requires-clause-given : goal.answer-requires-clause-given
answer-requires-clause-given g c κs lives =
    subst (λ (fs : List (File (Work g.row.L.Denot))). AreGiven c.args.settings.now fs []) (sym c.new-files.ensures) (given_none {L = g.row.L.Denot} c.args.settings.now c.requires.in_range)

pub answer-requires-clause-for_changes : goal.answer-requires-clause-for_changes
answer-requires-clause-for_changes g c κs lives = ap (λ (b : KeyedFiles). b.changes) c.none-buckets.ensures ∙ sym (ap numbers_in c.new-files.ensures)

pub answer-requires-clause-for_keys : goal.answer-requires-clause-for_keys
answer-requires-clause-for_keys g c κs lives = ap (λ (b : KeyedFiles). b.keys) c.none-buckets.ensures ∙ sym (ap keys_in c.new-files.ensures)

pub returns-clause-given : goal.returns-clause-given
returns-clause-given g c =
    IfOk-weaker c.answer.result _ _ (λ r is. subst (λ (fs : List (File (Work g.row.L.Denot))). IsReplyOf fs [] c.args.query.now c.args.version r) c.new-files.ensures is) c.answer.ensures.given

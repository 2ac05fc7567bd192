use Rattle.std.proofs.Common.{◌∙◌, refl}
use Rattle.cq_lines.proofs.Serving.{replied_none, replied_more, write_failed, stopped, finished, spent, read_failed}
use Rattle.cq_lines.proofs.Whole.{fewer}
use Rattle.cq_lines.proofs.serve.serve_lines_until.Goals as goal

pub lines-init : goal.lines-init
lines-init g c = record {
  goes = λ from begins. replied_none g.A.AnswersUntil.line_of (g.A.AnswersUntil.AreReplies from c.args.answers.now c.args.answers.now) _ _ _ c.requires.fresh begins;
  ready = c.requires.ready;
  source_faults = refl;
  sink_faults = refl;
  limit = refl;
}

pub returns-in-End-clause-served : goal.returns-in-End-clause-served
returns-in-End-clause-served g c = λ from begins. finished g.A.AnswersUntil.line_of _ _ _ _ _ _ _ _ _ (c.lines.invariant.goes from begins) (rw c.in-End.is at c.next.follows.holds-at-none)

pub returns-in-Spent-clause-served : goal.returns-in-Spent-clause-served
returns-in-Spent-clause-served g c = λ from begins. spent g.A.AnswersUntil.line_of _ _ _ _ _ _ _ _ _ (c.lines.invariant.goes from begins) (rw c.in-Spent.is at c.next.follows.holds-at-none)

pub returns-in-ReadFault-clause-served : goal.returns-in-ReadFault-clause-served
returns-in-ReadFault-clause-served g c = λ from begins. read_failed g.A.AnswersUntil.line_of _ _ _ _ _ _ _ _ _ (c.lines.invariant.goes from begins) (rw c.in-ReadFault.is at c.next.follows.holds-at-none)

pub lines-smaller-in-Ok-None : goal.lines-smaller-in-Ok-None
lines-smaller-in-Ok-None g c =
    let cuts = rw c.in-Line.is at c.next.follows.holds-at-none in
    fewer _ c.lines.lines c.next.follows.lender-at-none _ _ cuts.taken cuts.within cuts.limit cuts.finds.1

pub answer-requires-clause-no_feed : goal.answer-requires-clause-no_feed
answer-requires-clause-no_feed g c = let cuts = rw c.in-Line.is at c.next.follows.holds-at-none in cuts.finds.1.0

pub lines-preserved-in-Ok-None : goal.lines-preserved-in-Ok-None
lines-preserved-in-Ok-None g c =
    let cuts = rw c.in-Line.is at c.next.follows.holds-at-none in
    record {
      goes = λ from begins.
          let so = c.lines.invariant.goes from begins in
          let said = (rw c.in-Ok-None.field-0-is at c.in-Ok-None.ensures.sent) from c.args.answers.now so.lines so.replied.replies so.replied.talk in
          replied_more g.A.AnswersUntil.line_of (g.A.AnswersUntil.AreReplies from c.args.answers.now c.lines.answers) (g.A.AnswersUntil.AreReplies from c.args.answers.now c.answer.new.self) _ _ _ _ _ _ _ _ _ cuts.got c.in-Line.line.now said.0 so cuts.bytes cuts.taken cuts.within cuts.limit (λ e. (cuts.stays e).0) cuts.finds.1 (λ talk. said.1) said.2;
      ready = rw c.in-Ok-None.field-0-is at c.in-Ok-None.ensures.ready;
      source_faults = c.in-Line.ensures.cause ∙ c.lines.invariant.source_faults;
      sink_faults = c.in-Ok-None.ensures.cause.kept ∙ c.lines.invariant.sink_faults;
      limit = cuts.limit ∙ c.lines.invariant.limit;
    }

pub returns-in-Ok-Some-clause-served : goal.returns-in-Ok-Some-clause-served
returns-in-Ok-Some-clause-served g c =
    let cuts = rw c.in-Line.is at c.next.follows.holds-at-none in
    λ from begins.
    let so = c.lines.invariant.goes from begins in
    let (more, is, sent) = (rw c.in-Ok-Some.field-0-is at c.in-Ok-Some.ensures.sent) from c.args.answers.now so.lines so.replied.replies so.replied.talk in
    stopped g.A.AnswersUntil.line_of (g.A.AnswersUntil.AreReplies from c.args.answers.now c.lines.answers) (g.A.AnswersUntil.HasStopped from c.args.answers.now c.answer.new.self) _ _ _ _ _ _ _ _ _ cuts.got c.in-Line.line.now more c.in-Ok-Some.cause so cuts.bytes cuts.taken cuts.within cuts.limit (λ e. (cuts.stays e).0) cuts.finds.1 is sent

pub returns-in-Ok-Some-clause-cause : goal.returns-in-Ok-Some-clause-cause
returns-in-Ok-Some-clause-cause g c = (c.in-Line.ensures.cause ∙ c.lines.invariant.source_faults, c.in-Ok-Some.ensures.cause.kept ∙ c.lines.invariant.sink_faults)

pub returns-in-Ok-Some-clause-limit : goal.returns-in-Ok-Some-clause-limit
returns-in-Ok-Some-clause-limit g c =
    let cuts = rw c.in-Line.is at c.next.follows.holds-at-none in
    cuts.limit ∙ c.lines.invariant.limit

pub returns-in-Err-clause-served : goal.returns-in-Err-clause-served
returns-in-Err-clause-served g c =
    let cuts = rw c.in-Line.is at c.next.follows.holds-at-none in
    λ from begins.
    let so = c.lines.invariant.goes from begins in
    let (reply, are, (front, more, parts, sent)) = c.in-Err.ensures.sent from c.args.answers.now so.lines so.replied.replies so.replied.talk in
    write_failed g.A.AnswersUntil.line_of (g.A.AnswersUntil.AreReplies from c.args.answers.now c.lines.answers) (g.A.AnswersUntil.AreReplies from c.args.answers.now c.answer.new.self) _ _ _ _ _ _ _ _ _ cuts.got c.in-Line.line.now reply so cuts.bytes cuts.taken cuts.within cuts.limit (λ e. (cuts.stays e).0) cuts.finds.1 (λ talk. are) front more parts sent

pub lines-smaller : goal.lines-smaller
lines-smaller g c =
    let cuts = rw c.in-TooLong.is at c.next.follows.holds-at-none in
    fewer _ c.lines.lines c.next.follows.lender-at-none _ _ cuts.taken cuts.within cuts.limit cuts.finds.2

pub lines-preserved : goal.lines-preserved
lines-preserved g c =
    let cuts = rw c.in-TooLong.is at c.next.follows.holds-at-none in
    record {
      goes = λ from begins.
          let so = c.lines.invariant.goes from begins in
          let said = (rw c.in-Ok-None-answer_long.field-0-is at c.in-Ok-None-answer_long.ensures.sent) cuts.finds.0 cuts.finds.1 from c.args.answers.now so.lines so.replied.replies so.replied.talk in
          replied_more g.A.AnswersUntil.line_of (g.A.AnswersUntil.AreReplies from c.args.answers.now c.lines.answers) (g.A.AnswersUntil.AreReplies from c.args.answers.now c.answer_long.new.self) _ _ _ _ _ _ _ _ _ cuts.got cuts.finds.0 said.0 so cuts.bytes cuts.taken cuts.within cuts.limit (λ e. (cuts.stays e).0) cuts.finds.2 (λ talk. said.1) said.2;
      ready = rw c.in-Ok-None-answer_long.field-0-is at c.in-Ok-None-answer_long.ensures.ready;
      source_faults = c.in-TooLong.ensures.cause ∙ c.lines.invariant.source_faults;
      sink_faults = c.in-Ok-None-answer_long.ensures.cause.kept ∙ c.lines.invariant.sink_faults;
      limit = cuts.limit ∙ c.lines.invariant.limit;
    }

pub returns-in-Ok-Some-answer_long-clause-served : goal.returns-in-Ok-Some-answer_long-clause-served
returns-in-Ok-Some-answer_long-clause-served g c =
    let cuts = rw c.in-TooLong.is at c.next.follows.holds-at-none in
    λ from begins.
    let so = c.lines.invariant.goes from begins in
    let (more, is, sent) = (rw c.in-Ok-Some-answer_long.field-0-is at c.in-Ok-Some-answer_long.ensures.sent) cuts.finds.0 cuts.finds.1 from c.args.answers.now so.lines so.replied.replies so.replied.talk in
    stopped g.A.AnswersUntil.line_of (g.A.AnswersUntil.AreReplies from c.args.answers.now c.lines.answers) (g.A.AnswersUntil.HasStopped from c.args.answers.now c.answer_long.new.self) _ _ _ _ _ _ _ _ _ cuts.got cuts.finds.0 more c.in-Ok-Some-answer_long.cause so cuts.bytes cuts.taken cuts.within cuts.limit (λ e. (cuts.stays e).0) cuts.finds.2 is sent

pub returns-in-Ok-Some-answer_long-clause-cause : goal.returns-in-Ok-Some-answer_long-clause-cause
returns-in-Ok-Some-answer_long-clause-cause g c = (c.in-TooLong.ensures.cause ∙ c.lines.invariant.source_faults, c.in-Ok-Some-answer_long.ensures.cause.kept ∙ c.lines.invariant.sink_faults)

pub returns-in-Ok-Some-answer_long-clause-limit : goal.returns-in-Ok-Some-answer_long-clause-limit
returns-in-Ok-Some-answer_long-clause-limit g c =
    let cuts = rw c.in-TooLong.is at c.next.follows.holds-at-none in
    cuts.limit ∙ c.lines.invariant.limit

pub returns-in-Err-answer_long-clause-served : goal.returns-in-Err-answer_long-clause-served
returns-in-Err-answer_long-clause-served g c =
    let cuts = rw c.in-TooLong.is at c.next.follows.holds-at-none in
    λ from begins.
    let so = c.lines.invariant.goes from begins in
    let (reply, are, (front, more, parts, sent)) = c.in-Err-answer_long.ensures.sent cuts.finds.0 cuts.finds.1 from c.args.answers.now so.lines so.replied.replies so.replied.talk in
    write_failed g.A.AnswersUntil.line_of (g.A.AnswersUntil.AreReplies from c.args.answers.now c.lines.answers) (g.A.AnswersUntil.AreReplies from c.args.answers.now c.answer_long.new.self) _ _ _ _ _ _ _ _ _ cuts.got cuts.finds.0 reply so cuts.bytes cuts.taken cuts.within cuts.limit (λ e. (cuts.stays e).0) cuts.finds.2 (λ talk. are) front more parts sent

pub returns-in-End-clause-limit : goal.returns-in-End-clause-limit
returns-in-End-clause-limit g c =
    let cuts = rw c.in-End.is at c.next.follows.holds-at-none in
    cuts.limit ∙ c.lines.invariant.limit

pub returns-in-Spent-clause-limit : goal.returns-in-Spent-clause-limit
returns-in-Spent-clause-limit g c =
    let cuts = rw c.in-Spent.is at c.next.follows.holds-at-none in
    cuts.limit ∙ c.lines.invariant.limit

pub returns-in-ReadFault-clause-limit : goal.returns-in-ReadFault-clause-limit
returns-in-ReadFault-clause-limit g c =
    let cuts = rw c.in-ReadFault.is at c.next.follows.holds-at-none in
    cuts.limit ∙ c.lines.invariant.limit

pub returns-in-Err-clause-limit : goal.returns-in-Err-clause-limit
returns-in-Err-clause-limit g c =
    let cuts = rw c.in-Line.is at c.next.follows.holds-at-none in
    cuts.limit ∙ c.lines.invariant.limit

pub returns-in-Err-answer_long-clause-limit : goal.returns-in-Err-answer_long-clause-limit
returns-in-Err-answer_long-clause-limit g c =
    let cuts = rw c.in-TooLong.is at c.next.follows.holds-at-none in
    cuts.limit ∙ c.lines.invariant.limit

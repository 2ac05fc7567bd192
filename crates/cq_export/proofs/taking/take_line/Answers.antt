use Rattle.cq_board.specs.declared.answers.Refused.TheVariants as refused
use Rattle.cq_export.proofs.Accepting.{says_change, no_change_refused, accepts_more, change_refused}
use Rattle.cq_export.proofs.taking.take_line.Goals as goal
use Rattle.cq_request.proofs.Naming.{named}

pub returns-in_default : goal.returns-in_default
returns-in_default g c = record {
  takes = λ changes has.
      no_change_refused c.args.settings.now changes c.args.line.now c.requires.short (rw c.in_default.is at c.in_ok-change.ensures.says);
}

pub returns-in-Ok : goal.returns-in-Ok
returns-in-Ok g c = record {
  takes = λ changes has.
      (c.in-Some.change, says_change c.args.settings.now.chunk c.args.line.now c.in-Some.change c.requires.short (rw c.in-Some.is at c.in_ok-change.ensures.says), accepts_more c.args.settings.now changes c.args.board.now has c.accept.new.self c.in-Some.change c.in-Ok.ensures.adds c.in-Ok.ensures.cause (named c.args.settings.now.chunk c.args.line.now c.in-Some.change (rw c.in-Some.is at c.in_ok-change.ensures.says)));
}

pub returns-in-Err-Absent : goal.returns-in-Err-Absent
returns-in-Err-Absent g c = record {
  takes = λ changes has.
      change_refused c.args.settings.now changes c.args.board.now has c.args.line.now c.in-Some.change refused.Absent c.requires.short (rw c.in-Some.is at c.in_ok-change.ensures.says) (λ e. cc) (rw c.in-Err-Absent.field-0-is at c.in-Err-Absent.ensures.cause);
}

pub returns-in-Err-FullChanges : goal.returns-in-Err-FullChanges
returns-in-Err-FullChanges g c = record {
  takes = λ changes has.
      change_refused c.args.settings.now changes c.args.board.now has c.args.line.now c.in-Some.change refused.FullChanges c.requires.short (rw c.in-Some.is at c.in_ok-change.ensures.says) (λ e. cc) (rw c.in-Err-FullChanges.field-0-is at c.in-Err-FullChanges.ensures.cause);
}

pub returns-in-Err-FullText : goal.returns-in-Err-FullText
returns-in-Err-FullText g c = record {
  takes = λ changes has.
      change_refused c.args.settings.now changes c.args.board.now has c.args.line.now c.in-Some.change refused.FullText c.requires.short (rw c.in-Some.is at c.in_ok-change.ensures.says) (λ e. cc) (rw c.in-Err-FullText.field-0-is at c.in-Err-FullText.ensures.cause);
}

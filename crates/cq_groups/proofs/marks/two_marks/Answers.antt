use Rattle.cq_groups.proofs.OneStep.{marks_second, marks_first, marks_both}
use Rattle.cq_groups.proofs.marks.two_marks.Goals as goal

pub returns-in-None-Some : goal.returns-in-None-Some
returns-in-None-Some c = rw (c.in-None-Some.is-0, c.in-None-Some.is-1) (marks_second _)

pub returns-in-Some-None : goal.returns-in-Some-None
returns-in-Some-None c = rw (c.in-Some-None.is-0, c.in-Some-None.is-1) (marks_first _)

pub returns-in-Some-Some : goal.returns-in-Some-Some
returns-in-Some-Some c = rw (c.in-Some-Some.is-0, c.in-Some-Some.is-1) (marks_both _ _ (λ same. c.requires (rw (c.in-Some-Some.is-0, c.in-Some-Some.is-1) same)))

use Rattle.std.proofs.Common.{◌∙◌, sym, ap}
use Rattle.cq_drive.specs.Outcomes.{line_of as line_of_outcome}
use Rattle.cq_drive.proofs.Lines.{done_line, value_line, no_job_line, no_line}
use Rattle.cq_drive.proofs.write.line_of.Goals as goal

pub returns-in-Done-clause-line : goal.returns-in-Done-clause-line
returns-in-Done-clause-line c = c.of_parts.ensures ∙ done_line ∙ ap line_of_outcome (sym c.in-Done.is)

pub returns-in-Value-clause-line : goal.returns-in-Value-clause-line
returns-in-Value-clause-line c = c.numbered.ensures ∙ value_line c.in-Value.number ∙ ap line_of_outcome (sym c.in-Value.is)

pub returns-in-NoJob-clause-line : goal.returns-in-NoJob-clause-line
returns-in-NoJob-clause-line c = c.of_parts-in-NoJob.ensures ∙ no_job_line ∙ ap line_of_outcome (sym c.in-NoJob.is)

pub returns-in-No-clause-line : goal.returns-in-No-clause-line
returns-in-No-clause-line c = c.of_parts-in-No.ensures ∙ no_line ∙ ap line_of_outcome (sym c.in-No.is)

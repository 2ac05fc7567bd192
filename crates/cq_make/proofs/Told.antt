-- The replies to the three questions, and the line that tells of them.
use Rattle.std.proofs.Common.{◌≡◌, ℕ, ◌≤◌, List, length, map, ap, ◌∙◌, subst, arith}
use Rattle.std.proofs.lemmas.List.{length-map}
use Rattle.cq_answer.proofs.VersionFiles.{few_files}
use Rattle.cq_answer.specs.Readings.{Reading}
use Rattle.cq_answer.specs.Reply.{IsReply, part_read, chosen_read}
use Rattle.cq_answer.specs.Rows.{facts_read, file_row, group_row, measures_of}
use Rattle.cq_base.specs.declared.measures.Measures.{Measures}
use Rattle.cq_base.specs.declared.settings.Settings.{Settings}
use Rattle.cq_reply.specs.declared.reply.FileRow.{FileRow}
use Rattle.cq_reply.specs.declared.reply.GroupRow.{GroupRow}
use Rattle.cq_reply.specs.declared.reply.Reply.{Reply}
use Rattle.cq_request.specs.declared.request.Kind.TheVariants as kind
use Rattle.cq_make.specs.Generator.{project, puts_to}
use Rattle.cq_make.specs.Made.{ShowsFiles, ShowsGroups, ShowsMeasures}
use Rattle.cq_make.specs.Summary.{question, summary_line, token_count, IsSummary}
use Rattle.cq_make.proofs.Puts.{puts_many}

module _ (set : Settings) (number files : ℕ) where
  abbrev pub groups_shown : (r : Reply) → IsReply set (puts_to number files) files (question kind.Groups) r → List GroupRow
  groups_shown r is = map (group_row (facts_read is.readings)) is.groups

  abbrev pub measures_shown : (r : Reply) → IsReply set (puts_to number files) files (question kind.Measures) r → Measures
  measures_shown r is = measures_of (facts_read is.readings) is.groups (chosen_read is.readings (question kind.Measures)) (part_read is.readings (question kind.Measures))

  abbrev pub rows_shown : (r : Reply) → IsReply set (puts_to number files) files (question kind.Files) r → List FileRow
  rows_shown r is = (facts_read is.readings).rows

  pub shows_groups : (r : Reply) → IsReply set (puts_to number files) files (question kind.Groups) r → ShowsGroups r
  shows_groups r is = (groups_shown r is, files, is.reply_is)

  pub shows_measures : (r : Reply) → IsReply set (puts_to number files) files (question kind.Measures) r → ShowsMeasures r
  shows_measures r is = (measures_shown r is, files, is.reply_is)

  pub shows_files : (r : Reply) → IsReply set (puts_to number files) files (question kind.Files) r → ShowsFiles r
  shows_files r is = (rows_shown r is, files, is.reply_is)

  pub rows_few : (r : Reply) (is : IsReply set (puts_to number files) files (question kind.Files) r) → length (rows_shown r is) ≤ files
  rows_few r is =
      let rows = length-map is.readings file_row in
      let readings = length-map is.readings (λ (x : Reading). x.file) in
      let read = ap length is.are_read in
      let few = few_files (puts_to number files) files project in
      let many = puts_many number files in
      omega (arith, rows, readings, read, few, many)

  pub told : (g m r : Reply) (groups : IsReply set (puts_to number files) files (question kind.Groups) g) (measures : IsReply set (puts_to number files) files (question kind.Measures) m)
      (rows : IsReply set (puts_to number files) files (question kind.Files) r) (line : List ℕ) (count tokens : ℕ) (shown : Measures)
      → count ≡ length (groups_shown g groups) → shown ≡ measures_shown m measures → tokens ≡ token_count (rows_shown r rows)
      → line ≡ summary_line count shown tokens files → IsSummary set number files line
  told g m r groups measures rows line count tokens shown counted measured summed is = record {
    groups = groups_shown g groups;
    groups_are = subst (IsReply set (puts_to number files) files (question kind.Groups)) groups.reply_is groups;
    measures = measures_shown m measures;
    measures_are = subst (IsReply set (puts_to number files) files (question kind.Measures)) measures.reply_is measures;
    rows = rows_shown r rows;
    rows_are = subst (IsReply set (puts_to number files) files (question kind.Files)) rows.reply_is rows;
    line_is = is ∙ (λ i. summary_line (counted i) (measured i) (summed i) files);
  }

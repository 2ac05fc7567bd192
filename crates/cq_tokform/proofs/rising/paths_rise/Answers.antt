use Rattle.std.proofs.Common.{◌+◌, ◌<◌, ◌≤◌, ◌∙◌, Bool, length, sym, rules}
use Rattle.cq_history.specs.Files.{is_before}
use Rattle.cq_tokform.specs.declared.file.FileRecord.{FileRecord}
use Rattle.cq_tokform.specs.Spelling.{recorded}
use Rattle.cq_tokform.specs.Sound.{is_path_before}
use Rattle.cq_tokform.proofs.InOrder.{rise_map, rise_next, rise_stop, rise_end}
use Rattle.cq_tokform.proofs.rising.paths_rise.Goals as goal

abbrev before : FileRecord → FileRecord → Bool
before f g = is_before f.path g.path

pub loop-at-init : goal.loop-at-init
loop-at-init c = sym (rise_map recorded is_path_before c.args.files.now)

pub loop-at-preserved : goal.loop-at-preserved
loop-at-preserved c =
    let within : c.loop-at.at + 1 < length c.args.files.now = search rules in
    rise_next before c.args.files.now c.loop-at.at within (λ d. sym (c.is_before_next.ensures d) ∙ c.if-not-is_before_next.false) ∙ c.loop-at.invariant

pub returns-then-not-is_before_next : goal.returns-then-not-is_before_next
returns-then-not-is_before_next c =
    let within : c.loop-at.at + 1 < length c.args.files.now = search rules in
    sym (rise_stop before c.args.files.now c.loop-at.at within (λ d. sym (c.is_before_next.ensures d) ∙ c.if-not-is_before_next.true)) ∙ c.loop-at.invariant

pub returns : goal.returns
returns c =
    let past : length c.args.files.now ≤ c.loop-at.at + 1 = search rules in
    sym (rise_end before c.args.files.now c.loop-at.at past) ∙ c.loop-at.invariant

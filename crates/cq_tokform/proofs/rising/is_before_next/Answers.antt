use Rattle.std.proofs.Common.{◌≡◌, ◌+◌, ◌<◌, ◌∙◌, length, get_or, ap₂, arith}
use Rattle.std.proofs.lemmas.List.{get_or_default}
use Rattle.cq_history.specs.Files.{is_before}
use Rattle.cq_tokform.specs.declared.file.FileRecord.{FileRecord}
use Rattle.cq_tokform.proofs.rising.is_before_next.Goals as goal

pub returns : goal.returns
returns c = λ d.
    let files = c.args.files.now in
    let at = c.args.at in
    let high = c.requires in
    let here : at < length files = omega (arith, high) in
    let this : get_or files at c.index-files-at.result ≡ get_or files at d = get_or_default files at c.index-files-at.result d here in
    let next : get_or files (at + 1) c.index-files-next.result ≡ get_or files (at + 1) d = get_or_default files (at + 1) c.index-files-next.result d high in
    c.is_before.ensures ∙ ap₂ (λ (f g : FileRecord). is_before f.path g.path) this next

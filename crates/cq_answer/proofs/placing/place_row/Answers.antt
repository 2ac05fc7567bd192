use Rattle.std.proofs.Common.{◌≡◌, ◌<◌, ◌+◌, ◌-◌, [], ap, sym, ◌∙◌, get_or, length, arith}
use Rattle.cq_base.specs.declared.token.Token.{Token}
use Rattle.cq_work.specs.declared.work.Work.{Work}
use Rattle.cq_answer.specs.Works.{works_in, spans_in}
use Rattle.cq_answer.proofs.Rows.{told_at, told_many, span_read, row_is}
use Rattle.cq_answer.proofs.placing.place_row.Goals as goal

pub index-requires : goal.index-requires
index-requires g c =
    let files = c.args.files.now in
    let file : c.args.place.file < length files = let many = told_many (λ f. f.body.spans.items) files in omega (arith, c.requires.inside.0, many) in
    let here = told_at (λ f. f.body.spans.items) files c.args.place.file c.index-files-place.result [] file c.index-files-place.is in
    let same = ap (λ (w : Work g.row.L.Denot). w.spans.items) c.work_of.ensures in
    omega (arith, ap length here, ap length same, c.requires.inside.1, c.requires.some, c.work_of.result.now.spans.ok.0)

pub index-requires-2 : goal.index-requires-2
index-requires-2 g c =
    let files = c.args.files.now in
    let file : c.args.place.file < length files = let many = told_many (λ f. f.body.spans.items) files in omega (arith, c.requires.inside.0, many) in
    let here = told_at (λ f. f.body.spans.items) files c.args.place.file c.index-files-place.result [] file c.index-files-place.is in
    let same = ap (λ (w : Work g.row.L.Denot). w.spans.items) c.work_of.ensures in
    omega (arith, ap length here, ap length same, c.requires.inside.1, c.requires.some, c.work_of.result.now.spans.ok.0)

pub returns : goal.returns
returns g c =
    let files = c.args.files.now in
    let i = c.args.place.file in
    let spans = c.work_of.result.now.spans.items in
    let file : i < length files = let many = told_many (λ f. f.body.spans.items) files in omega (arith, c.requires.inside.0, many) in
    let same = ap (λ (w : Work g.row.L.Denot). w.spans.items) c.work_of.ensures in
    let here : get_or (spans_in (works_in files)) i [] ≡ spans = told_at (λ f. f.body.spans.items) files i c.index-files-place.result [] file c.index-files-place.is ∙ sym same in
    let path = told_at (λ f. f.path) files i c.index-files-place.result [] file c.index-files-place.is in
    let at : c.args.place.at < length spans = omega (arith, ap length here, c.requires.inside.1, c.requires.some) in
    let end : c.args.place.at + c.args.tokens - 1 < length spans = omega (arith, ap length here, c.requires.inside.1, c.requires.some) in
    row_is _ _ c.args.place.at _ _ _ _
    (c.in_ok-path_of.ensures ∙ sym path)
    (ap (λ (t : Token). t.first_line) (span_read _ _ c.args.place.at c.index.result.now here at c.index.ensures))
    (ap (λ (t : Token). t.last_line) (span_read _ _ (c.args.place.at + c.args.tokens - 1) c.index-2.result.now here end c.index-2.ensures))

use Rattle.std.proofs.Common.{◌≡◌, ◌∙◌, ◌<◌, ◌^◌, List, ℕ, ◌++◌, length, ap, sym, subst, rules}
use Rattle.std.specs.Arc.{arc_value}
use Rattle.std.specs.Prelude.{All}
use Rattle.cq_base.specs.declared.norm.Norm.{Norm}
use Rattle.cq_func.specs.declared.function.Function.{Function}
use Rattle.cq_history.specs.Files.{File}
use Rattle.cq_work.specs.declared.work.Work.{Work}
use Rattle.cq_tokform.specs.Spelling.{counted, token, function, front}
use Rattle.cq_tokfile.specs.Snapshot.{spelled_of, record_of}
use Rattle.cq_tokform.proofs.Appended.{three}
use Rattle.cq_tokfile.proofs.Written.{short_norms, file_parts}
use Rattle.cq_tokfile.proofs.encoding.put_held.Goals as goal

pub put_spelled-requires-clause-same : goal.put_spelled-requires-clause-same
put_spelled-requires-clause-same g c =
    let f = c.args.held.now in
    let body : c.deref-5.result.now ≡ f.body = search rules in
    let spans : c.as_slice.result.now ≡ f.body.spans.items = search rules in
    ap length spans ∙ c.requires.parts ∙ sym (ap length (c.deref-6.ensures ∙ ap (λ (w : Work g.row.L.Denot). arc_value w.tokens) body))

pub put_spelled-requires-clause-short : goal.put_spelled-requires-clause-short
put_spelled-requires-clause-short g c =
    let f = c.args.held.now in
    let body : c.deref-5.result.now ≡ f.body = search rules in
    subst (All (λ (n : Norm). length n.text < 2 ^ 32)) (sym (c.deref-6.ensures ∙ ap (λ (w : Work g.row.L.Denot). arc_value w.tokens) body)) (short_norms f.body.spans.items (arc_value f.body.tokens) c.requires.parts c.requires.spelled.tokens)

pub returns : goal.returns
returns g c =
    let f = c.args.held.now in
    let r = record_of f in
    let path : c.deref.result.now ≡ f.path = search rules in
    let first : c.deref-2.result.now ≡ f.body = search rules in
    let second : c.deref-3.result.now ≡ f.body = search rules in
    let third : c.deref-4.result.now ≡ f.body = search rules in
    let fourth : c.deref-5.result.now ≡ f.body = search rules in
    let last : c.deref-7.result.now ≡ f.body = search rules in
    let spans : c.as_slice.result.now ≡ f.body.spans.items = c.as_slice.ensures.value ∙ ap (λ (w : Work g.row.L.Denot). w.spans.items) third in
    let tokens : c.deref-6.result.now ≡ arc_value f.body.tokens = c.deref-6.ensures ∙ ap (λ (w : Work g.row.L.Denot). arc_value w.tokens) fourth in
    let functions : c.as_slice-2.result.now ≡ f.body.functions.items = c.as_slice-2.ensures.value ∙ ap (λ (w : Work g.row.L.Denot). w.functions.items) last in
    let number : c.held.inside.change ≡ f.number = ap (λ (h : File (Work g.row.L.Denot)). h.number) c.held.view_is in
    let lang : c.held.inside.lang ≡ f.lang = ap (λ (h : File (Work g.row.L.Denot)). h.lang) c.held.view_is in
    let head : front c.deref.result.now c.held.inside.change c.held.inside.lang c.deref-2.result.now.state c.deref-3.result.now.counts ≡ front f.path f.number f.lang f.body.state f.body.counts = λ i. front (path i) (number i) (lang i) (first i).state (second i).counts in
    let list : counted token (spelled_of c.as_slice.result.now c.deref-6.result.now) ≡ counted token r.tokens = λ i. counted token (spelled_of (spans i) (tokens i)) in
    three _ _ _ _ (front f.path f.number f.lang f.body.state f.body.counts) (counted token r.tokens) (counted function r.functions)
    (c.in_ok-put_front.ensures.written ∙ ap (λ (b : List ℕ). c.args.out.now.items ++ b) head)
    (c.in_ok-put_spelled.ensures ∙ ap (λ (b : List ℕ). c.put_front.new.out.items ++ b) list)
    (c.in_ok-put_functions.ensures.written ∙ ap (λ (fs : List Function). c.put_spelled.new.out.items ++ counted function fs) functions)
    ∙ ap (λ (b : List ℕ). c.args.out.now.items ++ b) (file_parts f.path f.number f.lang f.body.state f.body.counts (counted token r.tokens ++ counted function r.functions))

use Rattle.std.proofs.Common.{◌∙◌, ℕ, Option, Some, get_or, List, ap, sym, length, arith}
use Rattle.cq_base.specs.declared.lang.Lang.{Lang}
use Rattle.cq_base.specs.declared.token.Class.{Class}
use Rattle.cq_base.specs.declared.norm.Norm.{Norm}
use Rattle.cq_tokens.specs.declared.packed.Mark.{Mark}
use Rattle.cq_tokens.specs.Packed.{bytes_between}
use Rattle.cq_tokens.proofs.Texts.{ends_are, norm_at, none_at}
use Rattle.cq_tokens.proofs.packed.seen_at.Goals as goal

pub returns-then-i-marks-clause-token : goal.returns-then-i-marks-clause-token
returns-then-i-marks-clause-token c = sym (none_at 0 c.args.marks.now c.args.bytes.now c.args.i (omega (arith, c.if-i-marks.true)))

pub slice_bounds-result-count : goal.slice_bounds-result-count
slice_bounds-result-count c =
    let ends = ends_are 0 c.args.marks.now (length c.args.bytes.now) c.args.i record { lang = Lang.Any; class = Class.Ident; end = 0 } c.requires (omega (arith, c.if-i-marks.false)) in
    let start = c.start_at-start.ensures in
    omega (arith, ends.0, start)

pub slice_bounds-result-start : goal.slice_bounds-result-start
slice_bounds-result-start c =
    let ends = ends_are 0 c.args.marks.now (length c.args.bytes.now) c.args.i record { lang = Lang.Any; class = Class.Ident; end = 0 } c.requires (omega (arith, c.if-i-marks.false)) in
    let start = c.start_at-start.ensures in
    omega (arith, ends.0, start)

pub slice_bounds-result-end : goal.slice_bounds-result-end
slice_bounds-result-end c =
    let ends = ends_are 0 c.args.marks.now (length c.args.bytes.now) c.args.i record { lang = Lang.Any; class = Class.Ident; end = 0 } c.requires (omega (arith, c.if-i-marks.false)) in
    ends.1

abbrev seen_as : Mark → ℕ → List ℕ → Option Norm
seen_as m start bytes = Some (record { lang = m.lang; class = m.class; text = bytes_between start m.end bytes })

pub returns-clause-token : goal.returns-clause-token
returns-clause-token c =
    let is = norm_at 0 c.args.marks.now c.args.bytes.now c.args.i record { lang = Lang.Any; class = Class.Ident; end = 0 } (omega (arith, c.if-i-marks.false)) in
    let d : Mark = record { lang = Lang.Any; class = Class.Ident; end = 0 } in
    ap (λ (s : ℕ). seen_as (get_or c.args.marks.now c.args.i d) s c.args.bytes.now) c.start_at-start.ensures ∙ sym is

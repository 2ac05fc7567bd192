use Rattle.std.proofs.Common.{◌≡◌, ◌-◌, ◌∙◌, suc, sym, ap, arith}
use Rattle.cq_base.specs.declared.lang.Lang.{Lang}
use Rattle.cq_base.specs.declared.token.Class.{Class}
use Rattle.cq_tokens.specs.Packed as spec
use Rattle.cq_tokens.proofs.Texts.{start_is}
use Rattle.cq_tokens.proofs.packed.start_at.Goals as goal

pub returns-else-i-eq0 : goal.returns-else-i-eq0
returns-else-i-eq0 c =
    let some = c.if-i-eq0.false in
    let next : c.args.i ≡ suc (c.args.i - 1) = omega (arith, some) in
    sym (ap (spec.start_at 0 c.args.marks.now) next ∙ start_is 0 c.args.marks.now (c.args.i - 1) record { lang = Lang.Any; class = Class.Ident; end = 0 } (omega (arith, c.requires)))

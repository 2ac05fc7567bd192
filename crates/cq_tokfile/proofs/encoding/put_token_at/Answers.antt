use Rattle.std.proofs.Common.{◌∙◌, ◌^◌, ◌<◌, ◌++◌, length, get_or, ap, sym, subst}
use Rattle.cq_base.specs.declared.norm.Norm.{Norm}
use Rattle.cq_base.specs.declared.token.Spelled.{Spelled}
use Rattle.cq_tokform.specs.Spelling.{token}
use Rattle.cq_tokfile.proofs.Written.{no_place, no_norm, spelled_at}
use Rattle.cq_tokfile.proofs.encoding.put_token_at.Goals as goal

pub put_token-requires : goal.put_token-requires
put_token-requires g c = subst (λ (n : Norm). length n.text < 2 ^ 32) (sym (c.seen_at-seen.ensures.token no_norm)) (c.requires.short c.args.i no_norm c.requires.within)

pub returns : goal.returns
returns g c = λ d.
    let t = get_or c.args.spans.now c.args.i no_place in
    let text = ap (λ (n : Norm). let s : Spelled = record { token = t; text = n.text } in c.args.out.now.items ++ token s) (c.seen_at-seen.ensures.token no_norm) in
    c.in_ok-put_token.ensures.written ∙ text ∙ ap (λ (s : Spelled). c.args.out.now.items ++ token s) (sym (spelled_at c.args.spans.now c.args.tokens.now c.args.i d no_place no_norm c.requires.same c.requires.within))

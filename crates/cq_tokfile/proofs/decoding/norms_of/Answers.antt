use Rattle.std.proofs.Common.{◌≡◌, ◌^◌, ◌<◌, List, length, map, arith, sym, subst}
use Rattle.std.proofs.lemmas.Grind.{common_steps}
use Rattle.std.proofs.lemmas.List.{length-map}
use Rattle.cq_base.specs.declared.norm.Norm.{Norm}
use Rattle.cq_tokens.specs.Packed.{spelling_bytes}
use Rattle.cq_tokfile.specs.Snapshot.{norm_in}
use Rattle.cq_tokfile.proofs.Decoded.{as_short}
use Rattle.cq_tokfile.proofs.decoding.norms_of.Goals as goal

pub returns-clause-few : goal.returns-clause-few
returns-clause-few c =
    let made : c.loop-spelled.norms.items ≡ map (norm_in c.args.lang) c.args.tokens.items = grind (arith, common_steps) in
    let many = length-map c.args.tokens.items (norm_in c.args.lang) in
    let few = c.requires.few in
    subst (λ (ns : List Norm). length ns < 2 ^ 32) (sym made) (omega (arith, many, few))

pub returns-clause-short : goal.returns-clause-short
returns-clause-short c =
    let made : c.loop-spelled.norms.items ≡ map (norm_in c.args.lang) c.args.tokens.items = grind (arith, common_steps) in
    let bytes = as_short c.args.lang c.args.tokens.items in
    let short = c.requires.short in
    subst (λ (ns : List Norm). spelling_bytes ns < 2 ^ 32) (sym made) (omega (arith, bytes, short))

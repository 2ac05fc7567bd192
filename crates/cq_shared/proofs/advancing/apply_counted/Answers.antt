use Rattle.std.proofs.Common.{◌+◌, ◌∷◌, [], sym, ap, ◌∙◌}
use Rattle.std.specs.Prelude.{option_copied}
use Rattle.cq_shared.proofs.Applying.{one_of, few_lent, stands_lent}
use Rattle.cq_shared.proofs.advancing.apply_counted.Goals as goal

pub apply-requires : goal.apply-requires
apply-requires g c =
    let one = one_of c.args.work.now c.index-work-0.result c.requires.one ∙ ap (λ h. h ∷ []) (sym c.index-work-0.is) in
    record {
      next = ap (λ n. n + 1) c.applied-next.ensures;
      few = few_lent g.W.Indexed.keys_in c.args.work.now c.index-work-0.result c.lent.result one c.lent.ensures c.requires.few;
    }

pub returns-clause-stands : goal.returns-clause-stands
returns-clause-stands g c =
    let one = one_of c.args.work.now c.index-work-0.result c.requires.one ∙ ap (λ h. h ∷ []) (sym c.index-work-0.is) in
    stands_lent g.W.Indexed.keys_in g.W.Indexed.IsWorkOf c.args.work.now c.index-work-0.result c.args.shard.now c.apply.new.self (c.applied-next.result + 1) (option_copied c.lent.result) c.apply.result one (ap (λ n. n + 1) c.applied-next.ensures) c.lent.ensures c.apply.ensures.stands

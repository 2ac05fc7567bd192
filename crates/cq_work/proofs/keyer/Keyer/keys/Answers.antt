use Rattle.std.proofs.Common.{length, ap, ◌∙◌, arith}
use Rattle.std.proofs.lemmas.List.{length-map}
use Rattle.cq_work.specs.Keys.{code_of}
use Rattle.cq_work.proofs.Windows.{keys_few}
use Rattle.cq_work.proofs.keyer.Keyer.keys.Goals as goal

pub from_vec-requires : goal.from_vec-requires
from_vec-requires g c =
    let few = keys_few c.args.self.now.settings c.deref.result.now in
    let same = ap length c.in_ok-keys_of.ensures in
    let codes = ap length (c.deref.ensures.value ∙ c.in_ok-codes.ensures) in
    let many = length-map c.args.norms.now code_of in
    omega (arith, few, same, codes, many, c.requires.few)

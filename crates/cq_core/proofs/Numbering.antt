-- The numbers of the shards, where one of them has changed.
use Rattle.std.proofs.Common.{◌≡◌, ℕ, ◌<◌, ◌≤◌, List, length, get_or, set, sym, ap, ◌∙◌, ⊎_elim, arith}
use Rattle.std.proofs.lemmas.Bool.{cases_eq}
use Rattle.std.proofs.lemmas.List.{length-set, get_or-set_same, get_or-set_other}
use Rattle.std.proofs.lemmas.List.Elements.{All-set}
use Rattle.cq_shard.specs.Shard.{Contents}
use Rattle.cq_core.specs.Cores.{AreNumbered}

-- a shard that keeps its number, and is swept no further than it has applied
pub numbered_set : (number : ℕ) (shards : List Contents) (i : ℕ) (old new : Contents) → AreNumbered number shards → i < length shards → old ≡ get_or shards i old → new.shard ≡ old.shard → new.shards ≡ old.shards → new.floor ≤ new.applied → AreNumbered number (set shards i new)
numbered_set number shards i old new are within read same all passed = record {
  number_is = length-set shards i new ∙ are.number_is;
  each = λ n d lt.
      let there : n < length shards = omega (arith, lt, length-set shards i new) in
      ⊎_elim
      (λ (here : n ≡ i).
      let at : get_or (set shards i new) n d ≡ new = ap (λ m. get_or (set shards i new) m d) here ∙ get_or-set_same shards i new d within in
      let was = are.each i old within in
      (ap (λ (c : Contents). c.shard) at ∙ same ∙ ap (λ (c : Contents). c.shard) read ∙ was.0 ∙ sym here, ap (λ (c : Contents). c.shards) at ∙ all ∙ ap (λ (c : Contents). c.shards) read ∙ was.1))
      (λ other.
      let at : get_or (set shards i new) n d ≡ get_or shards n d = get_or-set_other shards i n new d other in
      let was = are.each n d there in
      (ap (λ (c : Contents). c.shard) at ∙ was.0, ap (λ (c : Contents). c.shards) at ∙ was.1))
      (cases_eq n i);
  passed = All-set (λ (c : Contents). c.floor ≤ c.applied) shards i new passed are.passed;
}

use Rattle.cq_tokfile.proofs.Indexing.{nothing_indexed}
use Rattle.cq_tokfile.proofs.loaded.Loaded.none.Goals as goal

-- that the new vectors are empty, by the clauses of both calls of `new`
pub invariant_of-result : goal.invariant_of-result
invariant_of-result g c = nothing_indexed _ _ c.new.ensures.items c.new-2.ensures.items

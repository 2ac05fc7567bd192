use Rattle.std.proofs.Common.{rules}
use Rattle.cq_measures.proofs.Same.{alone_same, below_same, lines_same, extents_same, files_same}
use Rattle.cq_measures.proofs.counting.count_up.Goals as goal

pub covered_lines-requires-clause-few : goal.covered_lines-requires-clause-few
covered_lines-requires-clause-few c = rw c.deref.ensures.value (below_same 262144 c.args.extents.items c.sort_once.new.extents.items c.sort_once.ensures c.requires)

pub returns-clause-lines : goal.returns-clause-lines
returns-clause-lines c = let same = lines_same _ _ c.sort_once.ensures in search (rules, same)

pub returns-clause-extents : goal.returns-clause-extents
returns-clause-extents c = let same = extents_same _ _ c.sort_once.ensures in search (rules, same)

pub returns-clause-files : goal.returns-clause-files
returns-clause-files c = let same = files_same _ _ c.sort_once.ensures in search (rules, same)

pub returns-clause-within : goal.returns-clause-within
returns-clause-within c n below = c.covered_lines.ensures.within n (rw c.deref.ensures.value (below_same n c.args.extents.items c.sort_once.new.extents.items c.sort_once.ensures below))

pub returns-clause-alone : goal.returns-clause-alone
returns-clause-alone c file are = c.covered_lines.ensures.alone file (rw c.deref.ensures.value (alone_same file c.args.extents.items c.sort_once.new.extents.items c.sort_once.ensures are))

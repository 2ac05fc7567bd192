use Rattle.std.proofs.Common.{◌∙◌}
use Rattle.std.proofs.lemmas.List.{get_or_default}
use Rattle.cq_shard.specs.Marks.{bit_of, word_of}
use Rattle.cq_shard.proofs.Marking.{marked_set, marked_stays}
use Rattle.cq_shard.proofs.marks.Marks.set.Goals as goal

pub returns-clause-set : goal.returns-clause-set
returns-clause-set c = marked_set c.args.self.now.words.items c.word-at.result c.bit.result (word_of c.args.self.now c.args.key) (bit_of c.args.key) c.index_mut.result.now c.word-at.ensures.word c.bit.ensures.bit (c.index_mut.ensures.value ∙ get_or_default c.args.self.now.words.items c.word-at.result c.index_mut.result.now 0 c.word-at.ensures.within) c.word-at.ensures.within c.bit.ensures.within

pub returns-clause-kept : goal.returns-clause-kept
returns-clause-kept c = λ other is. marked_stays c.args.self.now.words.items c.word-at.result c.bit.result (word_of c.args.self.now other) (bit_of other) c.index_mut.result.now (c.index_mut.ensures.value ∙ get_or_default c.args.self.now.words.items c.word-at.result c.index_mut.result.now 0 c.word-at.ensures.within) c.word-at.ensures.within c.bit.ensures.within is

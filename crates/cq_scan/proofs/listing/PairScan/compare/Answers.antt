use Rattle.std.proofs.Common.{◌≢◌, arith}
use Rattle.std.proofs.lemmas.Bool.{iff_false}
use Rattle.cq_clones.specs.Groups.{IsMaximalAt, word_at}
use Rattle.cq_tokens.specs.Parts.{tokens_in}
use Rattle.cq_scan.specs.Found.{IsPair}
use Rattle.cq_scan.proofs.FoundGroups.{maximal_from_match, pair_tokens, pair_is, adds_none}
use Rattle.cq_scan.proofs.listing.PairScan.compare.Goals as goal

pub returns-then-tokens-self : goal.returns-then-tokens-self
returns-then-tokens-self g c =
    let corpus = tokens_in c.args.self.now.files.now in
    let n = c.match_len-tokens.result in
    let m = c.match_len-tokens.ensures in
    let different : c.args.p ≢ c.args.q = grind arith in
    let pair : IsMaximalAt corpus (word_at corpus c.args.p n) c.args.p c.args.q =
    maximal_from_match corpus c.args.p c.args.q n m different (iff_false c.are_same_before.ensures c.if-are_same_before.false) in
    adds_none corpus c.args.self.now.min (IsPair c.args.p c.args.q) c.args.groups.now.items c.requires.found.ordered
    (λ z f.
    let h = pair_is corpus c.args.self.now.min c.args.p c.args.q z f in
    let e = pair_tokens corpus c.args.self.now.min c.args.p c.args.q n z m.first pair h in
    omega (arith, e, h.is.long, c.if-tokens-self.true))

pub add_word-requires-clause-within : goal.add_word-requires-clause-within
add_word-requires-clause-within g c = c.match_len-tokens.ensures.first

pub add_word-requires-clause-maximal : goal.add_word-requires-clause-maximal
add_word-requires-clause-maximal g c =
    let different : c.args.p ≢ c.args.q = grind arith in
    maximal_from_match (tokens_in c.args.self.now.files.now) c.args.p c.args.q c.match_len-tokens.result c.match_len-tokens.ensures different (iff_false c.are_same_before.ensures c.if-are_same_before.false)

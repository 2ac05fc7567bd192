-- The spots of one word have its tokens after them.
use Rattle.std.proofs.Common.{ℕ, ◌<◌, List, length, sym, ◌∙◌, arith}
use Rattle.cq_clones.specs.Groups.{file_at}
use Rattle.cq_clones.proofs.Words.{tokens_from_words}
use Rattle.cq_clones.proofs.GroupLaws.{within_from_standing}
use Rattle.cq_groups.specs.declared.spots.Spot.{Spot}
use Rattle.cq_groups.specs.Sets.{AreAlike, IsWordSet}

-- the word of one set stands at its spots
pub alike_of_words : {T : Type 0} (corpus : List (List T)) (all spots : List Spot) (n : ℕ) → IsWordSet corpus all n spots → AreAlike corpus n spots
alike_of_words corpus all spots n set s t k s_in t_in lt =
    let s_is = ((set.exact.each s).0 s_in).1 in
    let t_is = ((set.exact.each t).0 t_in).1 in
    let some : 0 < length set.word = omega (arith, lt, set.long) in
    (tokens_from_words (file_at corpus s.place.file) (file_at corpus t.place.file) s.place.at t.place.at (length set.word)
    (within_from_standing corpus set.word s.place s_is some) (within_from_standing corpus set.word t.place t_is some)
    (s_is ∙ sym t_is) k (omega (arith, lt, set.long))).1

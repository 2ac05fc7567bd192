-- A cutter that has taken as many bytes as it may.
use Rattle.std.proofs.Common.{◌≡◌, ℕ, ◌+◌, ◌<◌, List, [], ◌∷◌, ◌++◌, length, get_or, Option, true, false, inl, inr, refl, sym, ap, ◌∙◌, length-append, arith}
use Rattle.cq_lines.specs.Pieces.{HasNoFeed, ended}
use Rattle.cq_lines.specs.Held.{Held}
use Rattle.cq_lines.specs.Cutting.{IsNext, IsSpent, IsSpentFound, Cuts}
use Rattle.cq_lines.specs.declared.lines.Cut.{Cut}
use Rattle.cq_lines.specs.declared.lines.Cut.TheVariants as cut
use Rattle.cq_lines.proofs.Feeds.{HasNoFeed-append}

feed_stands : (line more : List ℕ) → get_or (ended line ++ more) (length line) 0 ≡ 10
feed_stands [] more = refl
feed_stands (b ∷ line) more = feed_stands line more

no_next : (at_end : Type 0) (all line : List ℕ) (y : Held) → HasNoFeed all → y.taken ≡ y.limit → IsNext at_end all line y → ⊥
no_next at_end all line y clean full next =
    elim next.1 [
      | inl closed ↦
          let len : length all ≡ length (ended line) + length y.pending = ap length closed.0 ∙ length-append (ended line) y.pending in
          let one : length (ended line) ≡ length line + 1 = length-append line (10 ∷ []) in
          clean (length line) (omega arith) (ap (λ bytes. get_or bytes (length line) 0) closed.0 ∙ feed_stands line y.pending)
      | inr last ↦ let more : y.taken < y.limit = last.5 in absurd (omega arith)
    ]

none_came : (got : List ℕ) → length got ≡ 0 → HasNoFeed got
none_came got none k low = absurd (omega arith)

pub spent_again : (a b : Option (List ℕ)) (x y : Held) (found : Cut) → IsSpent x → Cuts a b x found y → IsSpentFound found × IsSpent y × (y.taken ≡ x.taken)
spent_again a b x y found spent cuts =
    let none : length cuts.got ≡ 0 = omega (arith, cuts.taken, cuts.within, cuts.limit, spent.taken) in
    let full : y.taken ≡ y.limit = omega (arith, cuts.taken, cuts.limit, spent.taken) in
    let kept : y.taken ≡ x.taken = omega (arith, cuts.taken) in
    by found cuts none full kept (HasNoFeed-append x.pending cuts.got spent.clean (none_came cuts.got none))
  where
    by : (found : Cut) (cuts : Cuts a b x found y) → length cuts.got ≡ 0 → y.taken ≡ y.limit → y.taken ≡ x.taken → HasNoFeed (x.pending ++ cuts.got) → IsSpentFound found × IsSpent y × (y.taken ≡ x.taken)
    by (cut.Line line) cuts none full kept clean = absurd (no_next _ _ _ y clean full cuts.finds.1)
    by cut.TooLong cuts none full kept clean = absurd (no_next _ _ _ y clean full cuts.finds.2)
    by cut.End cuts none full kept clean =
        elim cuts.finds.3 [
          | inl over ↦ let bad : true ≡ false = sym over ∙ spent.over in cc
          | inr ends ↦ let more : y.taken < y.limit = ends.1 in absurd (omega arith)
        ]
    by cut.Spent cuts none full kept clean = (tt, cuts.finds.1, kept)
    by cut.ReadFault cuts none full kept clean = let more : y.taken < y.limit = cuts.finds.3 in absurd (omega arith)

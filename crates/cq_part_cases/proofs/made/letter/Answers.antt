use Rattle.std.proofs.Common.{◌≡◌, [], ◌∷◌, ◌++◌, length, sym, ap, ◌∙◌, subst, arith}
use Rattle.std.specs.Str.{IsUtf8}
use Rattle.cq_part_cases.proofs.Letters.{letter_utf8}
use Rattle.cq_part_cases.proofs.made.letter.Goals as goal

pub returns-clause-utf8 : goal.returns-clause-utf8
returns-clause-utf8 c =
    subst IsUtf8 (sym (c.from_vec.ensures ∙ c.in_ok-push.ensures.items ∙ ap (λ xs. xs ++ c.args.byte ∷ []) c.new-bytes.ensures.items)) (letter_utf8 c.args.byte c.requires)

pub returns-clause-len : goal.returns-clause-len
returns-clause-len c =
    let is : c.from_vec.result ≡ c.args.byte ∷ [] = c.from_vec.ensures ∙ c.in_ok-push.ensures.items ∙ ap (λ xs. xs ++ c.args.byte ∷ []) c.new-bytes.ensures.items in
    omega (arith, ap length is)

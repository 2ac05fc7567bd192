-- The bytes of tokens' spellings.
use Rattle.std.proofs.Common.{◌≡◌, ℕ, ◌+◌, ◌<◌, List, length, take, get_or, sym, ap, ◌∙◌}
use Rattle.std.proofs.lemmas.List.Sums.{sum_by_more}
use Rattle.cq_base.specs.declared.norm.Norm.{Norm}
use Rattle.cq_tokens.specs.Packed.{spelling_bytes}

-- one token more
pub bytes_more : (norms : List Norm) (i : ℕ) (norm : Norm) → i < length norms → norm ≡ get_or norms i norm → spelling_bytes (take (i + 1) norms) ≡ spelling_bytes (take i norms) + length norm.text
bytes_more norms i norm inside is =
    sum_by_more (λ (n : Norm). length n.text) norms i norm inside ∙ ap (λ (n : Norm). spelling_bytes (take i norms) + length n.text) (sym is)
